-- Trees stay trees, and well linked, where constants are put for results.
use Rattle.std.proofs.Common.{◌≡◌, ◌≢◌, ◌⊎◌, inl, inr, ℕ, ◌+◌, ◌<◌, ◌≤◌, Bool, true, List, [], ◌∷◌, length, map, Option, Some, None, IsSome, is_some, refl, sym, ap, ◌∙◌, subst, arith, slice_get, IsTrue}
use Rattle.std.proofs.lemmas.Bool.{cases_eq}
use Rattle.std.proofs.lemmas.List.{get_or_past, get_or-set_other, get_or-set_same, length-set, length-append, append-nil}
use Rattle.std.proofs.lemmas.Option.{same_Some}
use Rattle.pliron_core.specs.declared.attrs.AttrObj.{AttrObj}
use Rattle.pliron_core.specs.declared.context.Def.TheVariants.{Result}
use Rattle.pliron_core.specs.Lists.{In, IsDistinct, AreOwned, put_before, last_of}
use Rattle.pliron_core.specs.Uses.{replace_target}
use Rattle.pliron_core.specs.Tree.{Tree, IsLive, IsDefined, IsMadeBy, row_of, results_of, regions_of, operands_of, successors_of, parent_of, body_of, definition_of}
use Rattle.pliron_core.specs.Invariant.{HaveSameKeys, IsTree}
use Rattle.pliron_core.specs.Writes.{after_creating, after_replacing, after_placing, put_next_to}
use Rattle.pliron_core.specs.Changes.{IsSameTree}
use Rattle.pliron_core.proofs.EditLemmas.{put_before-first, put_before-other, In-put_before, In-put_before_old, In-put_before_new, distinct-put_before}
use Rattle.pliron_core.proofs.GrownLemmas.{get_grown, get_padded, slice_get_added}
use Rattle.pliron_core.proofs.CreatedLemmas.{kept_created}
use Rattle.pliron_core.proofs.PlacedLemmas.{kept_put}
use Rattle.pliron_core.proofs.UsedLemmas.{kept_replace, length_map}
use Rattle.pliron_core.proofs.TreeLemmas.{live-within}
use Rattle.pliron_core.proofs.SameTreeLemmas.{same_inside, same_within, same_holds}
use Rattle.pliron_laws.specs.Datum.{Head, Meaning}
use Rattle.pliron_laws.specs.Folding.{MakesConstants, MakesConstant}
use Rattle.pliron_laws.specs.Linked.{IsWellLinked}
use Rattle.pliron_laws.specs.Outcomes.{after_materialising, MaterialisesSome}
use Rattle.pliron_laws.specs.Outcomes.MaterialisesSome.{Rest, Then}
use Rattle.pliron_laws.proofs.ConstantLemmas.{new_row, made_row, blockless}
use Rattle.pliron_laws.proofs.FoldLemmas.{put_row, put_parent}
use Rattle.pliron_laws.proofs.PutLinks.{linked_in}

-- a new operation with one result
module _ (t : Tree) (head : Head) (w : IsTree t) where
  abbrev made : Tree
  made = after_creating t head 1 0

  created_keys : HaveSameKeys made
  created_keys = record {
    operands = omega (arith, w.keys.operands, length-append t.operands ([] ∷ []), length-append t.operations (new_row t head ∷ []));
    successors = omega (arith, w.keys.successors, length-append t.successors ([] ∷ []), length-append t.operations (new_row t head ∷ []));
    parents = omega (arith, w.keys.parents, length-append t.parents (None ∷ []), length-append t.operations (new_row t head ∷ []));
    arguments = w.keys.arguments;
    block_parents = w.keys.block_parents;
    slots = ap length (append-nil t.slots) ∙ w.keys.slots ∙ sym (ap length (append-nil t.layouts));
  }

  created_bodies : AreOwned made.parents made.bodies
  created_bodies = record {
    listed = λ x l e. w.bodies.listed x l (sym (get_grown t.parents None x) ∙ e);
    owned = λ x l i. get_grown t.parents None x ∙ w.bodies.owned x l i;
    distinct = w.bodies.distinct;
  }

  created_layouts : AreOwned made.block_parents made.layouts
  created_layouts = record {
    listed = λ x l e. subst (In x) (sym (get_padded t.layouts [] 0 l)) (w.layouts.listed x l e);
    owned = λ x l i. w.layouts.owned x l (subst (In x) (get_padded t.layouts [] 0 l) i);
    distinct = λ l. subst IsDistinct (sym (get_padded t.layouts [] 0 l)) (w.layouts.distinct l);
  }

  pub tree_created : IsTree made
  tree_created = record { keys = created_keys; joined = kept_created t head 1 0 w.joined; bodies = created_bodies; layouts = created_layouts }

-- an operation that stands in no block is put before another
module _ (m : Tree) (c op b : ℕ) (w : IsTree m) (live : IsLive m c) (free : parent_of m c ≡ None) (at : parent_of m op ≡ Some b) (none : regions_of m c ≡ []) where
  abbrev put : List ℕ
  put = put_before op c (body_of m b)

  abbrev next : Tree
  next = after_placing m c b put

  here : In op (body_of m b)
  here = w.bodies.listed op b at

  new_within : c < length m.parents
  new_within = let lt = live-within m c live in omega (arith, lt, w.keys.parents)

  block_within : b < length m.bodies
  block_within = elim (cases b (length m.bodies)) [ inl lt ↦ lt | inr le ↦ absurd (subst (In op) (get_or_past m.bodies b [] le) here) ]
    where
      cases : (x n : ℕ) → (x < n) ⊎ (n ≤ x)
      cases x n = grind arith

  not_free : (l : ℕ) → In c (body_of m l) → ⊥
  not_free l i = let f : None ≡ Some l = sym free ∙ w.bodies.owned c l i in grind arith

  put_body : body_of next b ≡ put
  put_body = get_or-set_same m.bodies b put [] block_within

  other_body : (l : ℕ) → l ≢ b → body_of next l ≡ body_of m l
  other_body l ne = get_or-set_other m.bodies b l put [] ne

  put_owner : parent_of next c ≡ Some b
  put_owner = get_or-set_same m.parents c (Some b) None new_within

  other_owner : (x : ℕ) → x ≢ c → parent_of next x ≡ parent_of m x
  other_owner x ne = get_or-set_other m.parents c x (Some b) None ne

  old_listed : (x l : ℕ) → In x (body_of m l) → In x (body_of next l)
  old_listed x l i =
      elim (cases_eq l b) [
        | inl e ↦ subst (λ z. In x (body_of next z)) (sym e) (subst (In x) (sym put_body) (In-put_before_old x op c (body_of m b) (subst (λ z. In x (body_of m z)) e i)))
        | inr ne ↦ subst (In x) (sym (other_body l ne)) i
      ]

  put_listed : (x l : ℕ) → parent_of next x ≡ Some l → In x (body_of next l)
  put_listed x l e =
      elim (cases_eq x c) [
        | inl s ↦
            let same : b ≡ l = same_Some b l (sym put_owner ∙ ap (parent_of next) (sym s) ∙ e) in
            subst (λ z. In x (body_of next z)) same (subst (λ z. In z (body_of next b)) (sym s) (subst (In c) (sym put_body) (In-put_before_new op c (body_of m b) here)))
        | inr ne ↦ old_listed x l (w.bodies.listed x l (sym (other_owner x ne) ∙ e))
      ]

  old_owned : (x l : ℕ) → In x (body_of m l) → parent_of next x ≡ Some l
  old_owned x l i = other_owner x (λ s. not_free l (subst (λ z. In z (body_of m l)) s i)) ∙ w.bodies.owned x l i

  put_owned : (x l : ℕ) → In x (body_of next l) → parent_of next x ≡ Some l
  put_owned x l i =
      elim (cases_eq l b) [
        | inl e ↦ subst (λ z. parent_of next x ≡ Some z) (sym e) (elim (In-put_before x op c (body_of m b) (subst (In x) put_body (subst (λ z. In x (body_of next z)) e i))) [
          | inl s ↦ ap (parent_of next) s ∙ put_owner
          | inr j ↦ old_owned x b j
        ])
        | inr ne ↦ old_owned x l (subst (In x) (other_body l ne) i)
      ]

  put_distinct : (l : ℕ) → IsDistinct (body_of next l)
  put_distinct l =
      elim (cases_eq l b) [
        | inl e ↦ subst (λ z. IsDistinct (body_of next z)) (sym e) (subst IsDistinct (sym put_body) (distinct-put_before op c (body_of m b) (not_free b) (w.bodies.distinct b)))
        | inr ne ↦ subst IsDistinct (sym (other_body l ne)) (w.bodies.distinct l)
      ]

  pub tree_placed : IsTree next
  tree_placed = record {
    keys = record { operands = w.keys.operands; successors = w.keys.successors; parents = length-set m.parents c (Some b) ∙ w.keys.parents; arguments = w.keys.arguments ∙ sym (length-set m.bodies b put); block_parents = w.keys.block_parents ∙ sym (length-set m.bodies b put); slots = w.keys.slots };
    joined = kept_put m c b put w.keys w.joined live (w.joined.all_in_place op b at).1 free (λ h. blockless m w c b none h);
    bodies = record { listed = put_listed; owned = put_owned; distinct = put_distinct };
    layouts = w.layouts;
  }

tree_replaced : (t : Tree) (old new : ℕ) → IsTree t → IsDefined t new → IsTree (after_replacing t old new)
tree_replaced t old new w d = record {
  keys = record { operands = length_map (map (replace_target old new)) t.operands ∙ w.keys.operands; successors = w.keys.successors; parents = w.keys.parents; arguments = w.keys.arguments; block_parents = w.keys.block_parents; slots = w.keys.slots };
  joined = kept_replace t old new w.joined d;
  bodies = w.bodies;
  layouts = w.layouts;
}

some_parent : (o : Option ℕ) → IsSome o → (b : ℕ) × (o ≡ Some b)
some_parent None is = absurd (grind arith)
some_parent (Some b) is = (b, refl)

-- a constant is put before op and has the uses of v
module _ (t : Tree) (op v b : ℕ) (head : Head) (w : IsTree t) (at : parent_of t op ≡ Some b) where
  abbrev c : ℕ
  c = length t.operations

  abbrev made₁ : Tree
  made₁ = after_creating t head 1 0

  abbrev put₁ : Tree
  put₁ = after_placing made₁ c b (put_before op c (body_of t b))

  abbrev pub u : Tree
  u = after_replacing put₁ v (length t.definitions)

  row₁ : row_of made₁ c ≡ new_row t head
  row₁ = made_row t made₁ c head refl refl

  parent₁ : (x : ℕ) → parent_of made₁ x ≡ parent_of t x
  parent₁ x = get_grown t.parents None x

  free₁ : parent_of made₁ c ≡ None
  free₁ = parent₁ c ∙ get_or_past t.parents c None (omega (arith, w.keys.parents))

  new_defined : IsDefined put₁ (length t.definitions)
  new_defined =
      let n : length t.definitions + 0 ≡ length t.definitions = omega arith in
      let d : definition_of made₁ (length t.definitions) ≡ Some (Result c 0) = ap (definition_of made₁) (sym n) ∙ slice_get_added t.definitions (Result c 0 ∷ []) 0 in
      subst (IsMadeBy put₁ (length t.definitions)) (sym d) (ap (λ z. slice_get z.results 0) row₁)

  pub tree_put₁ : IsTree put₁
  tree_put₁ =
      tree_placed made₁ c op b (tree_created t head w) (ap (λ z. is_some z.head) row₁) free₁ (parent₁ op ∙ at) (ap (λ z. z.regions) row₁)

  pub tree_put : IsTree u
  tree_put = tree_replaced put₁ v (length t.definitions) tree_put₁ new_defined

  -- what it is
  pub put_is : after_materialising t op v head ≡ u
  put_is = ap (λ o. after_replacing (put_next_to made₁ c op o) v (length t.definitions)) at

  last_put : (before : Option ℕ) (ys : List ℕ) → last_of before (put_before op c ys) ≡ last_of before ys
  last_put before [] = refl
  last_put before (y ∷ ys) = elim (cases_eq op y) [
    | inl e ↦ ap (last_of before) (put_before-first op c y ys e)
    | inr ne ↦ ap (last_of before) (put_before-other op c y ys ne) ∙ last_put (Some y) ys
  ]

  cases : (x n : ℕ) → (x < n) ⊎ (n ≤ x)
  cases x n = grind arith

  within_bodies : b < length t.bodies
  within_bodies = elim (cases b (length t.bodies)) [ inl lt ↦ lt | inr le ↦ absurd (subst (In op) (get_or_past t.bodies b [] le) (w.bodies.listed op b at)) ]

  pub linked_put : (m : Meaning) (attr : AttrObj) (root : ℕ) → MakesConstant m attr head → IsWellLinked m t root → IsWellLinked m u root
  linked_put = linked_in t v b (put_before op c (body_of t b)) head w within_bodies (λ k e. last_put None (body_of t b) ∙ e)

-- the same tree but for erased handles
pub linked_same : (m : Meaning) (t u : Tree) (root : ℕ) → IsTree t → IsTree u → IsSameTree t u → IsWellLinked m t root → IsWellLinked m u root
linked_same m t u root wt wu s is = record {
  edges = λ k x i place.
      let e = is.edges k x (subst (In x) (s.successors k) i) (elim place [ inl j ↦ inl ((same_inside t u wt.joined wu.joined s root k).1 j) | inr h ↦ inr ((same_holds t u wt.joined wu.joined s root x).1 h) ]) in
      record {
        block = e.block;
        in_block = s.parents k ∙ e.in_block;
        last = ap (last_of None) (s.bodies e.block) ∙ e.last;
        own_region = λ y j. s.block_parents y ∙ e.own_region y (subst (In y) (s.successors k) j) ∙ sym (s.block_parents e.block);
      };
  admitted = λ k within h e.
      let a = is.admitted k ((same_within t u wt.joined wu.joined s root k).1 within) h (sym (ap (λ z. z.head) (s.operations k)) ∙ e) in
      subst (λ n. IsTrue (m.admits h (length (operands_of u k)) (length (results_of u k)) n (length (regions_of u k)))) (sym (ap length (s.successors k)))
      (subst (λ z. IsTrue (m.admits h (length (operands_of u k)) (length z.results) (length (successors_of t k)) (length z.regions))) (sym (s.operations k))
      (subst (λ n. IsTrue (m.admits h n (length (results_of t k)) (length (successors_of t k)) (length (regions_of t k)))) (sym (ap length (s.operands k))) a));
}

-- a tree in which constants are put before op for some of its results is well linked where it was
pub linked_some : (m : Meaning) (accepts : AttrObj → Bool) (head : AttrObj → Head) (op : ℕ) (results : List ℕ) (answers : List (Option AttrObj)) (root : ℕ) → MakesConstants m accepts head → (t u : Tree) → IsTree t → IsTree u → IsLive t op → IsSome (parent_of t op) → IsWellLinked m t root → MaterialisesSome accepts head op results answers t u → IsWellLinked m u root
linked_some m accepts head op results answers root makes t u wt wu live after_placing is (Rest same) = linked_same m t u root wt wu same is
linked_some m accepts head op results answers root makes t u wt wu live after_placing is (Then i v attr at said accepted more) =
    let b = some_parent (parent_of t op) after_placing in
    let n = after_materialising t op v (head attr) in
    let e = sym (put_is t op v b.0 (head attr) wt b.1) in
    let tree : IsTree n = subst IsTree e (tree_put t op v b.0 (head attr) wt b.1) in
    let linked : IsWellLinked m n root = subst (λ z. IsWellLinked m z root) e (linked_put t op v b.0 (head attr) wt b.1 m attr root (makes attr accepted) is) in
    let lt = live-within t op live in
    let live_next : IsLive n op = subst (λ z. is_some z.head ≡ true) (sym (put_row t op v op (head attr) lt)) live in
    let placed_next : IsSome (parent_of n op) = subst IsSome (sym (put_parent t op v op (head attr) lt)) after_placing in
    linked_some m accepts head op results answers root makes n u tree wu live_next placed_next linked more

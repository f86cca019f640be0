-- Constants that stand before an operation until all of them are made, or are erased again.
use Rattle.std.proofs.Common.{◌≡◌, ◌⊎◌, inl, inr, ℕ, zero, suc, ◌+◌, ◌<◌, ◌≤◌, List, [], ◌∷◌, ◌++◌, length, map, take, nat_eq, if◌then◌else◌, Option, Some, None, is_some, refl, sym, ap, ◌∙◌, subst, arith, slice_get, slice_set, length-append, length-set}
use Rattle.std.proofs.lemmas.Bool.{cases_eq, eq-eqb, ne_eqb}
use Rattle.std.proofs.lemmas.List.{get_or-set_other, get_or-set_same, map-append}
use Rattle.std.proofs.lemmas.Option.{same_Some, slice_get_within}
use Rattle.pliron_core.specs.declared.attrs.IRStatus.TheVariants.{Changed}
use Rattle.pliron_core.specs.declared.context.Def.TheVariants.{Result}
use Rattle.pliron_core.specs.Lists.{In, put_before, without}
use Rattle.pliron_core.specs.Uses.{replace_target}
use Rattle.pliron_core.specs.Tree.{Tree, IsLive, IsDefined, IsMadeBy, no_entry, row_of, results_of, operands_of, parent_of, body_of, definition_of}
use Rattle.pliron_core.specs.Invariant.{IsTree}
use Rattle.pliron_core.specs.Writes.{after_creating, after_replacing, after_placing, put_next_to, taken_from}
use Rattle.pliron_core.specs.Erased.{IsSelfContained, after_clearing, after_erasing}
use Rattle.pliron_core.specs.Changes.{IsSameTree}
use Rattle.pliron_core.proofs.GrownLemmas.{get_grown, slice_get_added}
use Rattle.pliron_core.proofs.TreeLemmas.{live-within, block-within}
use Rattle.pliron_core.proofs.UsedLemmas.{in_map, get_map}
use Rattle.pliron_core.proofs.HoldingLemmas.{maker_is}
use Rattle.pliron_core.proofs.EditLemmas.{without-put_before}
use Rattle.pliron_core.proofs.BlankLemmas.{length-blanked}
use Rattle.pliron_core.proofs.ClearedLemmas.{blank_set}
use Rattle.pliron_core.proofs.SameTreeLemmas.{same_refl}
use Rattle.pliron_core.proofs.BesideLemmas.{IsBeside, created_beside, beside_erased}
use Rattle.pliron_laws.specs.declared.materialised_constants.MaterialisedConstant.{MaterialisedConstant}
use Rattle.pliron_laws.specs.Datum.{Head}
use Rattle.pliron_laws.specs.Outcomes.{IsMadeConstant, after_materialising, next_value}
use Rattle.pliron_laws.specs.MaterialisedConstants.{insert_constant, with_constant, ArePutBefore, AreUnused, IsRestored, all_replaced, status_of}
use Rattle.pliron_laws.specs.MaterialisedConstants.ArePutBefore.{NoneYet, Another}
use Rattle.pliron_laws.proofs.FoldLemmas.{put_row, put_parent}
use Rattle.pliron_laws.proofs.ConstantLemmas.{new_row, made_row, made_free, made_defined, contained, erased_free, some_block}

-- ---- when each has the uses of its value

-- operands alone change
only_operands : (made : List MaterialisedConstant) (t : Tree) → all_replaced made t ≡ record t { operands = (all_replaced made t).operands }
only_operands [] t = refl
only_operands (s ∷ more) t = only_operands more (after_replacing t s.old s.new)

pub replaced_row : (made : List MaterialisedConstant) (t : Tree) (k : ℕ) → row_of (all_replaced made t) k ≡ row_of t k
replaced_row made t k = ap (λ z. row_of z k) (only_operands made t)

pub replaced_long : (made : List MaterialisedConstant) (t : Tree) → length (all_replaced made t).operations ≡ length t.operations
replaced_long made t = ap (λ z. length z.operations) (only_operands made t)

next_commutes : (t : Tree) (a b op c : ℕ) (head : Head) (o : Option ℕ) → put_next_to (after_creating (after_replacing t a b) head 1 0) c op o ≡ after_replacing (put_next_to (after_creating t head 1 0) c op o) a b
next_commutes t a b op c head None =
    ap (λ rows. let z : Tree = record (after_creating t head 1 0) { operands = rows } in z) (sym (map-append (map (replace_target a b)) t.operands ([] ∷ [])))
next_commutes t a b op c head (Some block) =
    ap (λ rows. let z : Tree = record (after_placing (after_creating t head 1 0) c block (put_before op c (body_of t block))) { operands = rows } in z) (sym (map-append (map (replace_target a b)) t.operands ([] ∷ [])))

put_after : (made : List MaterialisedConstant) (t : Tree) (op : ℕ) (head : Head) → all_replaced made (with_constant t op head) ≡ with_constant (all_replaced made t) op head
put_after [] t op head = refl
put_after (s ∷ more) t op head =
    ap (all_replaced more) (sym (next_commutes t s.old s.new op (length t.operations) head (parent_of t op))) ∙ put_after more (after_replacing t s.old s.new) op head

pub replaced_last : (made : List MaterialisedConstant) (s : MaterialisedConstant) (t : Tree) → all_replaced (made ++ s ∷ []) t ≡ after_replacing (all_replaced made t) s.old s.new
replaced_last [] s t = refl
replaced_last (r ∷ more) s t = replaced_last more s (after_replacing t r.old r.new)

-- with one more constant, one more result is folded
pub another_folds : (made : List MaterialisedConstant) (u : Tree) (op v : ℕ) (head : Head) → all_replaced (made ++ insert_constant u v ∷ []) (with_constant u op head) ≡ after_materialising (all_replaced made u) op v head
another_folds made u op v head =
    replaced_last made (insert_constant u v) (with_constant u op head)
    ∙ ap (λ z. after_replacing z v (next_value u)) (put_after made u op head)
    ∙ ap (λ n. after_replacing (with_constant (all_replaced made u) op head) v n) (sym (ap (λ z. length z.definitions) (only_operands made u)))

pub status_more : (made : List MaterialisedConstant) (s : MaterialisedConstant) → status_of (made ++ s ∷ []) ≡ Changed
status_more [] s = refl
status_more (r ∷ more) s = refl

-- ---- while they stand

one_longer : (u : Tree) (op : ℕ) (head : Head) → length (with_constant u op head).operations ≡ length u.operations + 1
one_longer u op head = go (parent_of u op) ∙ length-append u.operations (new_row u head ∷ [])
  where
    go : (o : Option ℕ) → length (put_next_to (after_creating u head 1 0) (length u.operations) op o).operations ≡ length (after_creating u head 1 0).operations
    go None = refl
    go (Some b) = refl

one_value : (u : Tree) (op : ℕ) (head : Head) → length (with_constant u op head).definitions ≡ length u.definitions + 1
one_value u op head = go (parent_of u op) ∙ length-append u.definitions (Result (length u.operations) 0 ∷ [])
  where
    go : (o : Option ℕ) → length (put_next_to (after_creating u head 1 0) (length u.operations) op o).definitions ≡ length (after_creating u head 1 0).definitions
    go None = refl
    go (Some b) = refl

same_operands : (u : Tree) (op k : ℕ) (head : Head) → operands_of (with_constant u op head) k ≡ operands_of u k
same_operands u op k head = go (parent_of u op) ∙ get_grown u.operands [] k
  where
    go : (o : Option ℕ) → operands_of (put_next_to (after_creating u head 1 0) (length u.operations) op o) k ≡ operands_of (after_creating u head 1 0) k
    go None = refl
    go (Some b) = refl

still_defined : (u : Tree) (op v : ℕ) (head : Head) → IsDefined (after_creating u head 1 0) v → IsDefined (with_constant u op head) v
still_defined u op v head d = go (parent_of u op)
  where
    go : (o : Option ℕ) → IsDefined (put_next_to (after_creating u head 1 0) (length u.operations) op o) v
    go None = d
    go (Some b) = d

new_defined : (u : Tree) (head : Head) → IsDefined (after_creating u head 1 0) (length u.definitions)
new_defined u head =
    let m : Tree = after_creating u head 1 0 in
    let n : length u.definitions + 0 ≡ length u.definitions = omega arith in
    let d : definition_of m (length u.definitions) ≡ Some (Result (length u.operations) 0) = ap (definition_of m) (sym n) ∙ slice_get_added u.definitions (Result (length u.operations) 0 ∷ []) 0 in
    subst (IsMadeBy m (length u.definitions)) (sym d) (ap (λ z. slice_get z.results 0) (made_row u m (length u.operations) head refl refl))

defined_within : (t : Tree) (v : ℕ) → IsDefined t v → v < length t.definitions
defined_within t v d = let p = maker_is t v d in slice_get_within t.definitions v p.0 p.1

at_last : {A : Type 0} (xs : List A) (y : A) (i : ℕ) (x : A) → slice_get (xs ++ y ∷ []) i ≡ Some x → (slice_get xs i ≡ Some x) ⊎ ((i ≡ length xs) × (x ≡ y))
at_last [] y zero x e = inr (refl, sym (same_Some y x e))
at_last [] y (suc i) x e = absurd (grind arith)
at_last (z ∷ zs) y zero x e = inl e
at_last (z ∷ zs) y (suc i) x e = elim (at_last zs y i x e) [ inl h ↦ inl h | inr h ↦ inr (ap suc h.0, h.1) ]

module _ (op : ℕ) (t : Tree) where
  pub standing_long : (made : List MaterialisedConstant) (u : Tree) → ArePutBefore op t made u → length t.operations ≤ length u.operations
  standing_long made u NoneYet = omega arith
  standing_long made u (Another {made = before} {u = b} v head s w after_placing d) =
      let l = standing_long before b s in let e = one_longer b op head in omega (arith, l, e)

  pub standing_row : (made : List MaterialisedConstant) (u : Tree) → ArePutBefore op t made u → (k : ℕ) → k < length t.operations → row_of u k ≡ row_of t k
  standing_row made u NoneYet k lt = refl
  standing_row made u (Another {made = before} {u = b} v head s w after_placing d) k lt =
      let l = standing_long before b s in put_row b op 0 k head (omega (arith, l, lt)) ∙ standing_row before b s k lt

  pub standing_parent : (made : List MaterialisedConstant) (u : Tree) → ArePutBefore op t made u → (k : ℕ) → k < length t.operations → parent_of u k ≡ parent_of t k
  standing_parent made u NoneYet k lt = refl
  standing_parent made u (Another {made = before} {u = b} v head s w after_placing d) k lt =
      let l = standing_long before b s in put_parent b op 0 k head (omega (arith, l, lt)) ∙ standing_parent before b s k lt

  standing_values : (made : List MaterialisedConstant) (u : Tree) → ArePutBefore op t made u → length u.definitions ≡ length t.definitions + length made
  standing_values made u NoneYet = omega arith
  standing_values made u (Another {made = before} {u = b} v head s w after_placing d) =
      let l = standing_values before b s in
      let e = one_value b op head in
      let n = length-append before (insert_constant b v ∷ []) in omega (arith, l, e, n)

  standing_operands : (made : List MaterialisedConstant) (u : Tree) → ArePutBefore op t made u → (k : ℕ) → operands_of u k ≡ operands_of t k
  standing_operands made u NoneYet k = refl
  standing_operands made u (Another {made = before} {u = b} v head s w after_placing d) k = same_operands b op k head ∙ standing_operands before b s k

  standing_numbered : (made : List MaterialisedConstant) (u : Tree) → ArePutBefore op t made u → (i : ℕ) (r : MaterialisedConstant) → slice_get made i ≡ Some r → r.new ≡ length t.definitions + i
  standing_numbered made u NoneYet i r e = absurd (grind arith)
  standing_numbered made u (Another {made = before} {u = b} v head s w after_placing d) i r e =
      elim (at_last before (insert_constant b v) i r e) [
        | inl h ↦ standing_numbered before b s i r h
        | inr h ↦ let l = standing_values before b s in ap (λ z. z.new) h.1 ∙ l ∙ ap (λ n. length t.definitions + n) (sym h.0)
      ]

  standing_defined : (made : List MaterialisedConstant) (u : Tree) → ArePutBefore op t made u → (i : ℕ) (r : MaterialisedConstant) → slice_get made i ≡ Some r → IsDefined u r.old × IsDefined u r.new
  standing_defined made u NoneYet i r e = absurd (grind arith)
  standing_defined made u (Another {made = before} {u = b} v head s w after_placing d) i r e =
      elim (at_last before (insert_constant b v) i r e) [
        | inl h ↦ let both = standing_defined before b s i r h in (kept r.old both.0, kept r.new both.1)
        | inr h ↦ subst (λ z. IsDefined (with_constant b op head) z.old × IsDefined (with_constant b op head) z.new) (sym h.1) (kept v d, still_defined b op (length b.definitions) head (new_defined b head))
      ]
    where
      kept : (x : ℕ) → IsDefined b x → IsDefined (with_constant b op head) x
      kept x is = still_defined b op x head (made_defined b (after_creating b head 1 0) x head refl is)

  pub standing_unused : (made : List MaterialisedConstant) (u : Tree) → IsTree t → ArePutBefore op t made u → AreUnused made u
  standing_unused made u w s = record {
    base = length t.definitions;
    operands = λ k x i. defined_within t x (w.joined.operands k x (subst (In x) (standing_operands made u s k) i));
    numbered = standing_numbered made u s;
    defined = standing_defined made u s;
  }

-- ---- while each gets the uses of its value

in_replaced : (t : Tree) (a b k x : ℕ) → In x (operands_of (after_replacing t a b) k) → In x (operands_of t k) ⊎ (x ≡ b)
in_replaced t a b k x i =
    let m = in_map (replace_target a b) (operands_of t k) x (subst (In x) (get_map (map (replace_target a b)) refl t.operands k) i) in
    elim (cases_eq m.0 a) [
      | inl e ↦ inr (m.2 ∙ ap (λ c. if c then b else m.0) (eq-eqb m.0 a e))
      | inr ne ↦ inl (subst (λ z. In z (operands_of t k)) (sym (m.2 ∙ ap (λ c. if c then b else m.0) (ne_eqb m.0 a ne))) m.1)
    ]

-- the results of those that wait have no uses
pub unused_after : (base : ℕ) (made : List MaterialisedConstant) (t : Tree) (j : ℕ) → ((k x : ℕ) → In x (operands_of t k) → x < base) → ((i : ℕ) (s : MaterialisedConstant) → slice_get made i ≡ Some s → s.new ≡ base + i) → (k x : ℕ) → In x (operands_of (all_replaced (take j made) t) k) → x < base + j
unused_after base made t zero below numbered k x i = let l = below k x i in omega (arith, l)
unused_after base [] t (suc j) below numbered k x i = let l = below k x i in omega (arith, l)
unused_after base (s ∷ more) t (suc j) below numbered k x i =
    let l = unused_after (suc base) more (after_replacing t s.old s.new) j below_next (λ n r e. let f = numbered (suc n) r e in omega (arith, f)) k x i in omega (arith, l)
  where
    below_next : (k x : ℕ) → In x (operands_of (after_replacing t s.old s.new) k) → x < suc base
    below_next k x i = elim (in_replaced t s.old s.new k x i) [
      | inl h ↦ let l = below k x h in omega (arith, l)
      | inr e ↦ let f = numbered zero s refl in omega (arith, e, f)
    ]

pub defined_after : (made : List MaterialisedConstant) (t z : Tree) (v : ℕ) → z ≡ all_replaced made t → IsDefined t v → IsDefined z v
defined_after made t z v e d = subst (λ x. IsDefined x v) (sym (e ∙ only_operands made t)) d

take_more : (made : List MaterialisedConstant) (i : ℕ) (s : MaterialisedConstant) → slice_get made i ≡ Some s → take (i + 1) made ≡ take i made ++ s ∷ []
take_more [] i s e = absurd (grind arith)
take_more (r ∷ more) zero s e = ap (λ z. z ∷ []) (same_Some r s e)
take_more (r ∷ more) (suc i) s e =
    let one : suc i + 1 ≡ suc (i + 1) = omega arith in ap (λ n. take n (r ∷ more)) one ∙ ap (λ l. r ∷ l) (take_more more i s e)

pub replaced_more : (made : List MaterialisedConstant) (t now next : Tree) (i : ℕ) (s : MaterialisedConstant) → slice_get made i ≡ Some s → now ≡ all_replaced (take i made) t → next ≡ after_replacing now s.old s.new → next ≡ all_replaced (take (i + 1) made) t
replaced_more made t now next i s at e f =
    f ∙ ap (λ z. after_replacing z s.old s.new) e ∙ sym (replaced_last (take i made) s t) ∙ ap (λ l. all_replaced l t) (sym (take_more made i s at))

pub status_after : (made : List MaterialisedConstant) (i : ℕ) (s : MaterialisedConstant) → slice_get made i ≡ Some s → Changed ≡ status_of (take (i + 1) made)
status_after made i s at = sym (ap status_of (take_more made i s at) ∙ status_more (take i made) s)

-- a constant that was just made, as it stands in the list
pub stand_in_is : (t made : Tree) (c v new : ℕ) (head : Head) → IsMadeConstant t made c head → slice_get (results_of made c) 0 ≡ Some new → (let s : MaterialisedConstant = record { constant = c; old = v; new = new } in s) ≡ insert_constant t v
stand_in_is t made c v new head f first =
    let n : new ≡ length t.definitions = sym (same_Some (length t.definitions) new (sym (ap (λ x. slice_get x.results 0) (made_row t made c head f.made f.key)) ∙ first)) in
    ap (λ k. let s : MaterialisedConstant = record { constant = k; old = v; new = new } in s) f.key ∙ ap (λ k. let s : MaterialisedConstant = record { constant = length t.operations; old = v; new = k } in s) n

-- ---- and where they are erased again

pub restored_refl : (t u : Tree) → u ≡ t → IsRestored t u
restored_refl t u e = subst (IsRestored t) (sym e) (record { same = same_refl t; slots = λ r s f. f; definitions = λ v d f. f; longer = omega arith })

restored : (t d : Tree) (n : ℕ) → IsTree t → IsBeside t d n → length t.operations ≤ length d.operations → IsRestored t (after_clearing d (nat_eq n))
restored t d n w s longer = record {
  same = subst (IsSameTree t) (erased_free d n s.loose) (beside_erased t d n w s);
  slots = s.slots;
  definitions = s.definitions;
  longer = let same : length (after_clearing d (nat_eq n)).operations ≡ length d.operations = length-blanked _ no_entry d.operations in omega (arith, longer, same);
}

-- one that was just made
pub restored_made : (t made z : Tree) (c : ℕ) (head : Head) → IsMadeConstant t made c head → z ≡ after_erasing made c → IsRestored t z
restored_made t made z c head f e =
    let free : parent_of made c ≡ None = made_free t made c head f.tree f.made f.key in
    let is : z ≡ after_clearing (after_creating t head 1 0) (nat_eq (length t.operations)) = e ∙ erased_free made c free ∙ ap (λ x. after_clearing x (nat_eq c)) f.made ∙ ap (λ n. after_clearing (after_creating t head 1 0) (nat_eq n)) f.key in
    let n = length-append t.operations (new_row t head ∷ []) in
    subst (IsRestored t) (sym is) (restored t (after_creating t head 1 0) (length t.operations) f.tree (created_beside t head 1 0 f.tree) (omega (arith, n)))

-- the last one, in a tree that is as before it but for erased handles
module _ (u w : Tree) (op b : ℕ) (head : Head) (wu : IsTree u) (ww : IsTree w) (at : parent_of u op ≡ Some b) (back : IsRestored (after_placing (after_creating u head 1 0) (length u.operations) b (put_before op (length u.operations) (body_of u b))) w) where
  abbrev c : ℕ
  c = length u.operations

  abbrev put : List ℕ
  put = put_before op c (body_of u b)

  abbrev out : Tree
  out = record w { bodies = slice_set w.bodies b (without c (body_of w b)); parents = slice_set w.parents c None }

  beside : IsBeside u (after_creating u head 1 0) c
  beside = created_beside u head 1 0 wu

  row : row_of w c ≡ new_row u head
  row = back.same.operations c ∙ made_row u (after_creating u head 1 0) c head refl refl

  pub last_live : IsLive w c
  last_live = ap (λ z. is_some z.head) row

  here : parent_of w c ≡ Some b
  here = back.same.parents c ∙ get_or-set_same (after_creating u head 1 0).parents c (Some b) None beside.place

  not_in : In c (body_of u b) → ⊥
  not_in i = let f : None ≡ Some b = sym beside.no_parent ∙ wu.bodies.owned c b i in grind arith

  bodies : (x : ℕ) → body_of out x ≡ body_of u x
  bodies x = elim (cases_eq x b) [
    | inl e ↦ subst (λ z. body_of out z ≡ body_of u z) (sym e) (get_or-set_same w.bodies b (without c (body_of w b)) [] (block-within w b ww.keys (ww.joined.all_in_place c b here).1) ∙ ap (without c) (back.same.bodies b ∙ get_or-set_same u.bodies b put [] (block-within u b wu.keys (wu.joined.all_in_place op b at).1)) ∙ without-put_before op c (body_of u b) not_in)
    | inr ne ↦ get_or-set_other w.bodies b x (without c (body_of w b)) [] ne ∙ back.same.bodies x ∙ get_or-set_other u.bodies b x put [] ne
  ]

  loose : IsBeside u out c
  loose = record {
    fresh = beside.fresh;
    no_operands = beside.no_operands;
    no_successors = beside.no_successors;
    no_parent = beside.no_parent;
    loose = blank_set None w.parents c;
    key = live-within w c last_live;
    place = let lt = live-within w c last_live in let n = length-set w.parents c None in omega (arith, lt, n, ww.keys.parents);
    operations = λ k ne. back.same.operations k ∙ beside.operations k ne;
    operands = λ k ne. back.same.operands k ∙ beside.operands k ne;
    successors = λ k ne. back.same.successors k ∙ beside.successors k ne;
    parents = λ k ne. get_or-set_other w.parents c k None None ne ∙ back.same.parents k ∙ get_or-set_other (after_creating u head 1 0).parents c k (Some b) None ne ∙ beside.parents k ne;
    bodies = bodies;
    arguments = λ x. back.same.arguments x ∙ beside.arguments x;
    block_parents = λ x. back.same.block_parents x ∙ beside.block_parents x;
    layouts = λ r. back.same.layouts r ∙ beside.layouts r;
    slots = λ r s e. back.slots r s (beside.slots r s e);
    definitions = λ v d e. back.definitions v d (beside.definitions v d e);
  }

  pub last_restored : IsRestored u (after_erasing w c)
  last_restored =
      let n = length-append u.operations (new_row u head ∷ []) in
      let l = back.longer in
      subst (IsRestored u) (sym (ap (λ o. after_clearing (taken_from w c o) (nat_eq c)) here)) (restored u out c wu loose (omega (arith, n, l)))

  pub last_contained : IsSelfContained w c
  last_contained = contained w ww c (length u.definitions) (ap (λ z. z.regions) row) (ap (λ z. z.results) row) (λ x y i.
      let same : operands_of w x ≡ operands_of u x = back.same.operands x ∙ get_grown u.operands [] x in
      let lt = defined_within u y (wu.joined.operands x y (subst (In y) same i)) in λ e. omega (arith, lt, e))

last_same : {A : Type 0} (xs ys : List A) (x y : A) → xs ++ x ∷ [] ≡ ys ++ y ∷ [] → (xs ≡ ys) × (x ≡ y)
last_same [] [] x y e = (refl, cc)
last_same [] (b ∷ ys) x y e = let n = ap length e in let l = length-append ys (y ∷ []) in absurd (omega (arith, n, l))
last_same (a ∷ xs) [] x y e = let n = ap length e in let l = length-append xs (x ∷ []) in absurd (omega (arith, n, l))
last_same (a ∷ xs) (b ∷ ys) x y e =
    let h : a ≡ b = cc in
    let more : xs ++ x ∷ [] ≡ ys ++ y ∷ [] = cc in
    let r = last_same xs ys x y more in
    (ap (λ z. z ∷ xs) h ∙ ap (λ zs. b ∷ zs) r.0, r.1)

-- the last one can be erased, and then the others stand
pub record LastGoes (op : ℕ) (t w : Tree) (rest : List MaterialisedConstant) (s : MaterialisedConstant) : Type 0 where
  pub live : IsLive w s.constant
  pub contained : IsSelfContained w s.constant
  pub before : Tree
  pub all_in_place : ArePutBefore op t rest before
  pub restored : IsRestored before (after_erasing w s.constant)

pub last_goes : (op : ℕ) (t : Tree) (made : List MaterialisedConstant) (u w : Tree) (rest : List MaterialisedConstant) (s : MaterialisedConstant) → ArePutBefore op t made u → IsRestored u w → IsTree w → made ≡ rest ++ s ∷ [] → LastGoes op t w rest s
last_goes op t made u w rest s NoneYet back ww e = let n = ap length e in let l = length-append rest (s ∷ []) in absurd (omega (arith, n, l))
last_goes op t made u w rest s (Another {made = before} {u = b} v head all_in_place wb after_placing d) back ww e =
    let same = last_same before rest (insert_constant b v) s e in
    let p = some_block (parent_of b op) after_placing in
    let there : IsRestored (put_next_to (after_creating b head 1 0) (length b.operations) op (Some p.0)) w = subst (λ o. IsRestored (put_next_to (after_creating b head 1 0) (length b.operations) op o) w) p.1 back in
    let key : length b.operations ≡ s.constant = ap (λ z. z.constant) same.1 in
    record {
      live = subst (IsLive w) key (last_live b w op p.0 head wb ww p.1 there);
      contained = subst (IsSelfContained w) key (last_contained b w op p.0 head wb ww p.1 there);
      before = b;
      all_in_place = subst (λ l. ArePutBefore op t l b) same.0 all_in_place;
      restored = subst (λ n. IsRestored b (after_erasing w n)) key (last_restored b w op p.0 head wb ww p.1 there);
    }

-- where none is left, nothing is
pub none_left : (op : ℕ) (t : Tree) (made : List MaterialisedConstant) (u w : Tree) → ArePutBefore op t made u → made ≡ [] → IsRestored u w → IsRestored t w
none_left op t made u w NoneYet e back = back
none_left op t made u w (Another {made = before} {u = b} v head all_in_place wb after_placing d) e back =
    let n = ap length e in let l = length-append before (insert_constant b v ∷ []) in absurd (omega (arith, n, l))

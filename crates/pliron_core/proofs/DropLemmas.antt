-- Operations lose operands and successors, one after the other.
use Rattle.std.proofs.Common.{◌≡◌, ◌≢◌, ◌⊎◌, ℕ, ◌<◌, Bool, true, false, nat_eq, List, [], ◌∷◌, length, Option, Some, None, IsSome, refl, sym, ap, ◌∙◌, subst, inl, inr, arith, slice_set, true≢false, if◌then◌else◌}
use Rattle.std.proofs.lemmas.Bool.{cases_eq, eq-eqb, ne_eqb}
use Rattle.std.proofs.lemmas.List.{get_or-set_other, length-set}
use Rattle.pliron_core.specs.Tree.{Tree, View, In, IsDistinct, IsLive, IsWithin, first_of, next_in, head_of, operands_of, successors_of, parent_of, body_of}
use Rattle.pliron_core.specs.Invariant.{IsTree, IsWellFormed}
use Rattle.pliron_core.specs.Erased.{is_met_above, names_dropped, uses_dropped, blank_at, is_in_operation}
use Rattle.pliron_core.specs.Dismantling.{without_names}
use Rattle.pliron_core.specs.Walks.{preorder, contents}
use Rattle.pliron_core.specs.WalkSteps.{rest_after, rest_from}
use Rattle.pliron_core.specs.declared.uses.Use.{Use}
use Rattle.pliron_core.proofs.BlankLemmas.{is_blanked, blanked_gone, blanked_kept, length-blanked}
use Rattle.pliron_core.proofs.UsedLemmas.{kept_used, in_changed}
use Rattle.pliron_core.proofs.WithinLemmas.{is_within, within_is, in_block_is, is_in_block}
use Rattle.pliron_core.proofs.ClearingLemmas.{op_gone}
use Rattle.pliron_core.proofs.DescentLemmas.{set_default}
use Rattle.pliron_core.proofs.WalkLemmas.{In-preorder, distinct-preorder}

-- what is left of a list grows shorter by the member that is passed
next_in_list : (x z : ℕ) (xs : List ℕ) → next_in x xs ≡ Some z → In z xs
next_in_list x z [] e = absurd (cc)
next_in_list x z (y ∷ ys) e = go (nat_eq x y) e (next_in_list x z ys)
  where
    first : (zs : List ℕ) → first_of zs None ≡ Some z → In z zs
    first [] f = absurd (cc)
    first (w ∷ ws) f = let g : w ≡ z = cc in inl (sym g)

    go : (b : Bool) → (if b then first_of ys None else next_in x ys) ≡ Some z → (next_in x ys ≡ Some z → In z ys) → In z (y ∷ ys)
    go true f rest = inr (first ys f)
    go false f rest = inr (rest f)

rest_here : (x : ℕ) (xs : List ℕ) → rest_after x (x ∷ xs) ≡ xs
rest_here x xs = ap (λ b. if b then xs else rest_after x xs) (eq-eqb x x refl)

rest_there : (x y : ℕ) (xs : List ℕ) → x ≢ y → rest_after x (y ∷ xs) ≡ rest_after x xs
rest_there x y xs ne = ap (λ b. if b then xs else rest_after x xs) (ne_eqb x y ne)

next_here : (x : ℕ) (xs : List ℕ) → next_in x (x ∷ xs) ≡ first_of xs None
next_here x xs = ap (λ b. if b then first_of xs None else next_in x xs) (eq-eqb x x refl)

next_there : (x y : ℕ) (xs : List ℕ) → x ≢ y → next_in x (y ∷ xs) ≡ next_in x xs
next_there x y xs ne = ap (λ b. if b then first_of xs None else next_in x xs) (ne_eqb x y ne)

pub rest_step : (x : ℕ) (xs : List ℕ) → IsDistinct xs → In x xs → rest_from (next_in x xs) xs ≡ rest_after x xs
rest_step x [] d i = absurd i
rest_step x (y ∷ ys) d i = go (cases_eq x y) i (rest_step x ys d.1)
  where
    after : (zs : List ℕ) → IsDistinct (x ∷ zs) → rest_from (first_of zs None) (x ∷ zs) ≡ zs
    after [] e = refl
    after (z ∷ zs) e = let ne : z ≢ x = λ s. e.0 (inl (sym s)) in ap (λ ws. z ∷ ws) (rest_there z x (z ∷ zs) ne ∙ rest_here z zs)

    skip : (o : Option ℕ) → next_in x ys ≡ o → rest_from o (y ∷ ys) ≡ rest_from o ys
    skip None e = refl
    skip (Some z) e = ap (λ ws. z ∷ ws) (rest_there z y ys (λ s. d.0 (subst (λ w. In w ys) s (next_in_list x z ys e))))

    go : (x ≡ y) ⊎ (x ≢ y) → In x (y ∷ ys) → (In x ys → rest_from (next_in x ys) ys ≡ rest_after x ys) → rest_from (next_in x (y ∷ ys)) (y ∷ ys) ≡ rest_after x (y ∷ ys)
    go (inl s) j rest =
        subst (λ w. rest_from (next_in x (w ∷ ys)) (w ∷ ys) ≡ rest_after x (w ∷ ys)) s
        (ap (λ o. rest_from o (x ∷ ys)) (next_here x ys) ∙ after ys (subst (λ w. IsDistinct (w ∷ ys)) (sym s) d) ∙ sym (rest_here x ys))
    go (inr ne) (inl e) rest = absurd (ne e)
    go (inr ne) (inr j) rest = ap (λ o. rest_from o (y ∷ ys)) (next_there x y ys ne) ∙ skip (next_in x ys) refl ∙ rest j ∙ sym (rest_there x y ys ne)

rest_in : (x y : ℕ) (xs : List ℕ) → In y (rest_after x xs) → In y xs
rest_in x y [] i = i
rest_in x y (z ∷ zs) i = go (nat_eq x z) i (rest_in x y zs)
  where
    go : (b : Bool) → In y (if b then zs else rest_after x zs) → (In y (rest_after x zs) → In y zs) → In y (z ∷ zs)
    go true j rest = inr j
    go false j rest = inr (rest j)

-- two trees that differ in operands and successors alone
pub record IsNamesOnly (t u : Tree) : Type 0 where
  pub shape : u ≡ record t { operands = u.operands; successors = u.successors }
  pub operands : length u.operands ≡ length t.operands
  pub successors : length u.successors ≡ length t.successors

pub names_none : (t : Tree) → IsNamesOnly t t
names_none t = record { shape = refl; operands = refl; successors = refl }

pub names_trans : (t u v : Tree) → IsNamesOnly t u → IsNamesOnly u v → IsNamesOnly t v
names_trans t u v a b = record {
  shape = b.shape ∙ ap {A = Tree} (λ (z : Tree). record z { operands = v.operands; successors = v.successors }) a.shape;
  operands = b.operands ∙ a.operands;
  successors = b.successors ∙ a.successors;
}

pub names_unnamed : (t : Tree) (op : ℕ) → IsNamesOnly t (without_names t op)
names_unnamed t op = record { shape = refl; operands = length-set _ _ _; successors = length-set _ _ _ }

pub names_of_dropped : (t : Tree) (p : ℕ → Bool) → IsNamesOnly t (names_dropped t p)
names_of_dropped t p = record { shape = refl; operands = length-blanked _ _ _; successors = length-blanked _ _ _ }

pub same_met : (t u : Tree) → IsNamesOnly t u → (p : ℕ → Bool) (o : Option ℕ) → is_met_above u p o ≡ is_met_above t p o
same_met t u n p o = ap (λ z. is_met_above z p o) n.shape

pub same_preorder : (t u : Tree) → IsNamesOnly t u → (op : ℕ) → preorder u op ≡ preorder t op
same_preorder t u n op = ap (λ z. preorder z op) n.shape

pub same_live : (t u : Tree) → IsNamesOnly t u → (op : ℕ) → head_of u op ≡ head_of t op
same_live t u n op = ap (λ z. head_of z op) n.shape

pub same_parent : (t u : Tree) → IsNamesOnly t u → (op : ℕ) → parent_of u op ≡ parent_of t op
same_parent t u n op = ap (λ z. parent_of z op) n.shape

pub same_body : (t u : Tree) → IsNamesOnly t u → (block : ℕ) → body_of u block ≡ body_of t block
same_body t u n block = ap (λ z. body_of z block) n.shape

-- the operation names nothing
abbrev pub IsBare : Tree → ℕ → Type 0
IsBare t k = (operands_of t k ≡ []) × (successors_of t k ≡ [])

abbrev pub NamesSame : Tree → Tree → ℕ → Type 0
NamesSame t u k = (operands_of u k ≡ operands_of t k) × (successors_of u k ≡ successors_of t k)

-- a tree in which those of the test name nothing, and the others what they named
pub dropped_all : (t u : Tree) (p : ℕ → Bool) → IsNamesOnly t u → ((k : ℕ) → op_gone t p k ≡ true → IsBare u k) → ((k : ℕ) → op_gone t p k ≡ false → NamesSame t u k) → u ≡ names_dropped t p
dropped_all t u p n bare same =
    n.shape
    ∙ ap (λ z. record t { operands = z; successors = u.successors }) (is_blanked (op_gone t p) [] t.operands u.operands n.operands (λ k e. (bare k e).0) (λ k e. (same k e).0))
    ∙ ap (λ z. record t { operands = blank_at (op_gone t p) [] t.operands; successors = z }) (is_blanked (op_gone t p) [] t.successors u.successors n.successors (λ k e. (bare k e).1) (λ k e. (same k e).1))

unnamed_bare : (t : Tree) (op : ℕ) → IsBare (without_names t op) op
unnamed_bare t op = (set_default t.operands [] op, set_default t.successors [] op)

unnamed_other : (t : Tree) (op k : ℕ) → k ≢ op → NamesSame t (without_names t op) k
unnamed_other t op k ne = (get_or-set_other t.operands op k [] [] ne, get_or-set_other t.successors op k [] [] ne)

unnamed_stays : (t : Tree) (op k : ℕ) → IsBare t k → IsBare (without_names t op) k
unnamed_stays t op k b = elim (cases_eq k op) [
  | inl s ↦ subst (IsBare (without_names t op)) (sym s) (unnamed_bare t op)
  | inr ne ↦ let x = unnamed_other t op k ne in (x.0 ∙ b.0, x.1 ∙ b.1)
]

-- on a walk over root: what lies behind names nothing, and what is not on it names what it named
pub record IsDropWalk (t : Tree) (root : ℕ) (at : Option ℕ) (u : Tree) : Type 0 where
  pub names : IsNamesOnly t u
  pub within : (k : ℕ) → at ≡ Some k → IsLive t k × In k (preorder t root)
  pub behind : (k : ℕ) → In k (preorder t root) → In k (rest_from at (preorder t root)) ⊎ IsBare u k
  pub others : (k : ℕ) → (In k (preorder t root) → ⊥) → NamesSame t u k

pub walk_start : (t : Tree) (root : ℕ) → IsLive t root → IsDropWalk t root (Some root) t
walk_start t root live = record {
  names = names_none t;
  within = λ k e. let s : root ≡ k = cc in (subst (IsLive t) s live, inl (sym s));
  behind = λ k i. inl (subst (λ w. In k (root ∷ w)) (sym (rest_here root (contents t root))) i);
  others = λ k out. (refl, refl);
}

pub walk_next : (t : Tree) (root k : ℕ) (u v : Tree) (o : Option ℕ) → IsTree t → IsDropWalk t root (Some k) u → v ≡ without_names u k → o ≡ next_in k (preorder v root) → ((z : ℕ) → o ≡ Some z → IsLive v z) → IsDropWalk t root o v
walk_next t root k u v o w d e f live = record {
  names = names;
  within = λ z g. (subst IsSome (same_live t v names z) (live z g), next_in_list k z (preorder t root) (sym next ∙ g));
  behind = λ z i. behind z (d.behind z i);
  others = λ z out. let s = d.others z out in let x = unnamed_other u k z (λ q. out (subst (λ y. In y (preorder t root)) (sym q) here)) in (ap (λ y. operands_of y z) e ∙ x.0 ∙ s.0, ap (λ y. successors_of y z) e ∙ x.1 ∙ s.1);
}
  where
    names : IsNamesOnly t v
    names = names_trans t u v d.names (subst (IsNamesOnly u) (sym e) (names_unnamed u k))

    next : o ≡ next_in k (preorder t root)
    next = f ∙ ap (next_in k) (same_preorder t v names root)

    here : In k (preorder t root)
    here = (d.within k refl).1

    rest : rest_from o (preorder t root) ≡ rest_after k (preorder t root)
    rest = ap (λ z. rest_from z (preorder t root)) next ∙ rest_step k (preorder t root) (distinct-preorder t w root) here

    behind : (z : ℕ) → In z (k ∷ rest_after k (preorder t root)) ⊎ IsBare u z → In z (rest_from o (preorder t root)) ⊎ IsBare v z
    behind z (inl (inl s)) = inr (subst (λ y. IsBare y z) (sym e) (subst (IsBare (without_names u k)) (sym s) (unnamed_bare u k)))
    behind z (inl (inr i)) = inl (subst (In z) (sym rest) i)
    behind z (inr b) = inr (subst (λ y. IsBare y z) (sym e) (unnamed_stays u k z b))

pub walk_falls : (t : Tree) (root k : ℕ) (u v : Tree) (o : Option ℕ) → IsTree t → IsDropWalk t root (Some k) u → IsNamesOnly u v → o ≡ next_in k (preorder v root) → length (rest_from o (preorder t root)) < length (rest_from (Some k) (preorder t root))
walk_falls t root k u v o w d n f =
    let next : o ≡ next_in k (preorder t root) = f ∙ ap (next_in k) (same_preorder u v n root ∙ same_preorder t u d.names root) in
    let e : length (rest_from o (preorder t root)) ≡ length (rest_after k (preorder t root)) = ap length (ap (λ z. rest_from z (preorder t root)) next ∙ rest_step k (preorder t root) (distinct-preorder t w root) (d.within k refl).1) in
    omega (arith, e)

pub walk_end : (t : Tree) (root : ℕ) (u : Tree) → IsTree t → IsLive t root → IsDropWalk t root None u → u ≡ names_dropped t (nat_eq root)
walk_end t root u w live d = dropped_all t u (nat_eq root) d.names
    (λ k e. elim (d.behind k ((In-preorder t w root k).1 (within_is t root k e))) [ inl i ↦ absurd i | inr b ↦ b ])
    (λ k e. d.others k (λ i. true≢false (sym (is_within t root k w.joined live ((In-preorder t w root k).0 i)) ∙ e)))

-- what has names dropped: bare where the test holds, and else as it was
pub dropped_gone : (t : Tree) (p : ℕ → Bool) (k : ℕ) → op_gone t p k ≡ true → IsBare (names_dropped t p) k
dropped_gone t p k e = (blanked_gone (op_gone t p) [] t.operands k e, blanked_gone (op_gone t p) [] t.successors k e)

pub dropped_kept : (t : Tree) (p : ℕ → Bool) (k : ℕ) → op_gone t p k ≡ false → NamesSame t (names_dropped t p) k
dropped_kept t p k e = (blanked_kept (op_gone t p) [] t.operands k e, blanked_kept (op_gone t p) [] t.successors k e)

dropped_stays : (t : Tree) (p : ℕ → Bool) (k : ℕ) → IsBare t k → IsBare (names_dropped t p) k
dropped_stays t p k b = go (op_gone t p k) refl
  where
    go : (g : Bool) → op_gone t p k ≡ g → IsBare (names_dropped t p) k
    go true e = dropped_gone t p k e
    go false e = let x = dropped_kept t p k e in (x.0 ∙ b.0, x.1 ∙ b.1)

-- on a pass over the operations of a block: what stands within those behind names nothing
pub record IsBlockPass (t : Tree) (block : ℕ) (at : Option ℕ) (u : Tree) : Type 0 where
  pub names : IsNamesOnly t u
  pub within : (c : ℕ) → at ≡ Some c → In c (body_of t block)
  pub behind : (c k : ℕ) → In c (body_of t block) → IsWithin t c k → In c (rest_from at (body_of t block)) ⊎ IsBare u k
  pub others : (k : ℕ) → op_gone t (is_in_operation t block) k ≡ false → NamesSame t u k

rest_first : (xs : List ℕ) → rest_from (first_of xs None) xs ≡ xs
rest_first [] = refl
rest_first (x ∷ xs) = ap (λ ys. x ∷ ys) (rest_here x xs)

first_in : (xs : List ℕ) (x : ℕ) → first_of xs None ≡ Some x → In x xs
first_in [] x e = absurd (cc)
first_in (y ∷ ys) x e = let f : y ≡ x = cc in inl (sym f)

pub pass_start : (t : Tree) (block : ℕ) (o : Option ℕ) → o ≡ first_of (body_of t block) None → IsBlockPass t block o t
pass_start t block o e = record {
  names = names_none t;
  within = λ c f. first_in (body_of t block) c (sym e ∙ f);
  behind = λ c k i j. inl (subst (In c) (sym (ap (λ z. rest_from z (body_of t block)) e ∙ rest_first (body_of t block))) i);
  others = λ k g. (refl, refl);
}

pub pass_live : (t : Tree) (block c : ℕ) (u : Tree) → IsTree t → IsBlockPass t block (Some c) u → IsLive u c × (parent_of u c ≡ Some block)
pass_live t block c u w d =
    let at : parent_of t c ≡ Some block = w.bodies.owned c block (d.within c refl) in
    (subst IsSome (sym (same_live t u d.names c)) (w.joined.all_in_place c block at).0, same_parent t u d.names c ∙ at)

pub pass_next : (t : Tree) (block c : ℕ) (u v : Tree) (o : Option ℕ) → IsTree t → IsBlockPass t block (Some c) u → v ≡ names_dropped u (nat_eq c) → o ≡ next_in c (body_of v block) → IsBlockPass t block o v
pass_next t block c u v o w d e f = record {
  names = names;
  within = λ z g. next_in_list c z (body_of t block) (sym next ∙ g);
  behind = λ z k i j. behind z k j (d.behind z k i j);
  others = λ k g.
      let s = d.others k g in
      let x = dropped_kept u (nat_eq c) k (outside k g) in
      (ap (λ y. operands_of y k) e ∙ x.0 ∙ s.0, ap (λ y. successors_of y k) e ∙ x.1 ∙ s.1);
}
  where
    names : IsNamesOnly t v
    names = names_trans t u v d.names (subst (IsNamesOnly u) (sym e) (names_of_dropped u (nat_eq c)))

    next : o ≡ next_in c (body_of t block)
    next = f ∙ ap (next_in c) (same_body t v names block)

    here : In c (body_of t block)
    here = d.within c refl

    at : parent_of t c ≡ Some block
    at = w.bodies.owned c block here

    rest : rest_from o (body_of t block) ≡ rest_after c (body_of t block)
    rest = ap (λ z. rest_from z (body_of t block)) next ∙ rest_step c (body_of t block) (w.bodies.distinct block) here

    deleted : (k : ℕ) → IsWithin t c k → op_gone u (nat_eq c) k ≡ true
    deleted k j = same_met t u d.names (nat_eq c) (Some k) ∙ is_within t c k w.joined (w.joined.all_in_place c block at).0 j

    outside : (k : ℕ) → op_gone t (is_in_operation t block) k ≡ false → op_gone u (nat_eq c) k ≡ false
    outside k g = go (op_gone u (nat_eq c) k) refl
      where
        go : (b : Bool) → op_gone u (nat_eq c) k ≡ b → b ≡ false
        go false q = refl
        go true q = absurd (true≢false (sym (is_in_block t block k w.joined (c, at, within_is t c k (sym (same_met t u d.names (nat_eq c) (Some k)) ∙ q))) ∙ g))

    behind : (z k : ℕ) → IsWithin t z k → In z (c ∷ rest_after c (body_of t block)) ⊎ IsBare u k → In z (rest_from o (body_of t block)) ⊎ IsBare v k
    behind z k j (inl (inl s)) = inr (subst (λ y. IsBare y k) (sym e) (dropped_gone u (nat_eq c) k (deleted k (subst (λ y. IsWithin t y k) s j))))
    behind z k j (inl (inr i)) = inl (subst (In z) (sym rest) i)
    behind z k j (inr b) = inr (subst (λ y. IsBare y k) (sym e) (dropped_stays u (nat_eq c) k b))

pub pass_falls : (t : Tree) (block c : ℕ) (u v : Tree) (o : Option ℕ) → IsTree t → IsBlockPass t block (Some c) u → v ≡ names_dropped u (nat_eq c) → o ≡ next_in c (body_of v block) → length (rest_from o (body_of t block)) < length (rest_from (Some c) (body_of t block))
pass_falls t block c u v o w d e f =
    let n : IsNamesOnly t v = names_trans t u v d.names (subst (IsNamesOnly u) (sym e) (names_of_dropped u (nat_eq c))) in
    let next : o ≡ next_in c (body_of t block) = f ∙ ap (next_in c) (same_body t v n block) in
    let g : length (rest_from o (body_of t block)) ≡ length (rest_after c (body_of t block)) = ap length (ap (λ z. rest_from z (body_of t block)) next ∙ rest_step c (body_of t block) (w.bodies.distinct block) (d.within c refl)) in
    omega (arith, g)

pub pass_end : (t : Tree) (block : ℕ) (u : Tree) → IsTree t → IsBlockPass t block None u → u ≡ uses_dropped t block
pass_end t block u w d = dropped_all t u (is_in_operation t block) d.names
    (λ k e. let s = in_block_is t block k e in elim (d.behind s.0 k (w.bodies.listed s.0 block s.1) s.2) [ inl i ↦ absurd i | inr b ↦ b ])
    d.others

-- the invariant of a context where an operation loses its operands and successors
pub well_unnamed : (v : View) (op : ℕ) (operands successors : List (List ℕ)) (uses blocks : List (List Use)) → IsWellFormed v → operands ≡ slice_set v.tree.operands op [] → successors ≡ slice_set v.tree.successors op [] → length uses ≡ length v.value_uses → length blocks ≡ length v.block_uses → IsWellFormed (record { tree = record v.tree { operands = operands; successors = successors }; value_uses = uses; block_uses = blocks })
well_unnamed v op operands successors uses blocks w e f m n = subst (λ o. IsWellFormed (record { tree = record v.tree { operands = o; successors = successors }; value_uses = uses; block_uses = blocks })) (sym e) (subst (λ o. IsWellFormed (record { tree = record v.tree { operands = slice_set v.tree.operands op []; successors = o }; value_uses = uses; block_uses = blocks })) (sym f) (record {
  keys = record { operands = length-set _ _ _ ∙ w.keys.operands; successors = length-set _ _ _ ∙ w.keys.successors; parents = w.keys.parents; arguments = w.keys.arguments; block_parents = w.keys.block_parents; slots = w.keys.slots };
  joined = kept_used v.tree (slice_set v.tree.operands op []) (slice_set v.tree.successors op []) w.joined
      (λ k x i. elim (in_changed v.tree.operands op k x [] i) [ inl c ↦ absurd c.1 | inr j ↦ w.joined.operands k x j ])
      (λ k x i. elim (in_changed v.tree.successors op k x [] i) [ inl c ↦ absurd c.1 | inr j ↦ w.joined.successors k x j ])
      (λ k g. let x = w.joined.erased k g in unnamed_stays v.tree op k (x.0, x.1));
  value_uses = m ∙ w.value_uses;
  block_uses = n ∙ w.block_uses;
}))

pub walk_within : (t : Tree) (root k : ℕ) (u v : Tree) → IsTree t → IsLive t root → IsDropWalk t root (Some k) u → v ≡ without_names u k → IsWithin v root k
walk_within t root k u v w live d e =
    let n : IsNamesOnly t v = names_trans t u v d.names (subst (IsNamesOnly u) (sym e) (names_unnamed u k)) in
    within_is v root k (same_met t v n (nat_eq root) (Some k) ∙ is_within t root k w.joined live ((In-preorder t w root k).0 (d.within k refl).1))

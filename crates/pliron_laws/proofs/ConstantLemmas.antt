-- Trees while a new operation with one result is put before another, and where it is erased again.
use Rattle.std.proofs.Common.{◌≡◌, ◌≢◌, inl, inr, ℕ, zero, suc, ◌<◌, ◌≤◌, List, [], ◌∷◌, length, nat_eq, Option, Some, None, IsSome, is_some, refl, sym, ap, ◌∙◌, subst, ⊎_elim, arith, slice_get}
use Rattle.std.proofs.lemmas.List.{get_or_past}
use Rattle.std.proofs.lemmas.Option.{same_Some, slice_get_within}
use Rattle.pliron_core.specs.declared.attrs.Head.{Head}
use Rattle.pliron_core.specs.declared.context.Def.{Def}
use Rattle.pliron_core.specs.declared.context.Def.TheVariants.{Result, Argument}
use Rattle.pliron_core.specs.declared.context.OperationEntry.{OperationEntry}
use Rattle.pliron_core.specs.declared.rewriter.OpInsertionPoint.{OpInsertionPoint}
use Rattle.pliron_core.specs.declared.rewriter.OpInsertionPoint.TheVariants.{Unset, BeforeOperation, AtBlockStart}
use Rattle.pliron_core.specs.Tree.{Tree, In, IsLive, IsBlock, IsDefined, IsMadeBy, IsDefinedWithin, IsInside, HoldsBlock, no_entry, row_of, results_of, regions_of, operands_of, parent_of, block_parent_operation_of}
use Rattle.pliron_core.specs.Invariant.{HaveSameKeys, IsTree}
use Rattle.pliron_core.specs.Writes.{after_creating, after_replacing, put_next_to, taken_from}
use Rattle.pliron_core.specs.Insertion.{IsPointFor, after_inserting}
use Rattle.pliron_core.specs.Erased.{IsSelfContained, after_clearing, after_erasing}
use Rattle.pliron_core.specs.Changes.{IsSameTree}
use Rattle.pliron_core.proofs.GrownLemmas.{get_grown, get_last, get_last_same, slice_get_kept}
use Rattle.pliron_core.proofs.CreatedLemmas.{defined_kept}
use Rattle.pliron_core.proofs.TreeLemmas.{live-within, region_owner}
use Rattle.pliron_core.proofs.HoldingLemmas.{maker_is, block_held, held_block, region_parent_is}
use Rattle.pliron_core.proofs.WalkLemmas.{inside_first, place_of, place_listed}
use Rattle.pliron_core.proofs.BlankLemmas.{length-blanked}
use Rattle.pliron_core.proofs.DescentLemmas.{taken-operations}
use Rattle.pliron_core.proofs.BesideLemmas.{same_created_erased}
use Rattle.pliron_laws.specs.Outcomes.{after_materialising, materialised_at}

-- what has no regions holds nothing
no_member : (xs : List ℕ) (i r : ℕ) → xs ≡ [] → slice_get xs i ≡ Some r → ⊥
no_member xs i r none e = let f : slice_get {X = ℕ} [] i ≡ Some r = ap (λ z. slice_get z i) (sym none) ∙ e in grind arith

pub insideless : (t : Tree) → IsTree t → (c x : ℕ) → regions_of t c ≡ [] → IsInside t c x → ⊥
insideless t w c x none i =
    let s = inside_first t c x i in
    let p = place_of t s.0 c s.1 in
    no_member (regions_of t c) p.index p.region none (place_listed t w s.0 c p)

directly : (t : Tree) → IsTree t → (c b : ℕ) → regions_of t c ≡ [] → block_parent_operation_of t b ≡ Some c → ⊥
directly t w c b none held =
    let p = block_held t b w.joined (held_block t b c held) in
    let s = region_owner t p.0 p.3 in
    let up : s.0.op ≡ p.1 = same_Some s.0.op p.1 (sym (region_parent_is t p.0 s.0 s.1) ∙ p.4) in
    let here : p.1 ≡ c = same_Some p.1 c (sym p.5 ∙ held) in
    no_member (regions_of t c) s.0.index p.0 none (ap (λ z. slice_get (regions_of t z) s.0.index) (sym (up ∙ here)) ∙ s.2)

pub blockless : (t : Tree) → IsTree t → (c b : ℕ) → regions_of t c ≡ [] → HoldsBlock t c b → ⊥
blockless t w c b none h =
    elim h.2 [ inl e ↦ directly t w c b none (h.1 ∙ ap Some e) | inr i ↦ insideless t w c h.0 none i ]

single : (v u i : ℕ) → slice_get (v ∷ []) i ≡ Some u → u ≡ v
single v u zero e = sym (same_Some v u e)
single v u (suc i) e = absurd (no_member [] i u refl e)

-- what has no regions, and one result without uses, is used nowhere
made_outside : (z : Tree) → IsTree z → (c v u : ℕ) → regions_of z c ≡ [] → results_of z c ≡ v ∷ [] → u ≢ v → (o : Option Def) → IsDefinedWithin z c o → IsMadeBy z u o → ⊥
made_outside z w c v u none one other None m d = m
made_outside z w c v u none one other (Some (Result k i)) (inl e) d =
    other (single v u i (ap (λ x. slice_get x i) (sym one) ∙ ap (λ x. slice_get (results_of z x) i) (sym e) ∙ d))
made_outside z w c v u none one other (Some (Result k i)) (inr j) d = insideless z w c k none j
made_outside z w c v u none one other (Some (Argument b i)) h d = blockless z w c b none h

pub contained : (z : Tree) → IsTree z → (c v : ℕ) → regions_of z c ≡ [] → results_of z c ≡ v ∷ [] → ((x u : ℕ) → In u (operands_of z x) → u ≢ v) → IsSelfContained z c
contained z w c v none one unused = record {
  values = λ x u i m. absurd (made_outside z w c v u none one (unused x u i) _ m (w.joined.operands x u i));
  blocks = λ x b i h. absurd (blockless z w c b none h);
}

-- the row of the new operation
abbrev pub new_row : Tree → Head → OperationEntry
new_row t head = record { head = Some head; results = length t.definitions ∷ []; regions = [] }

pub made_row : (t made : Tree) (c : ℕ) (head : Head) → made ≡ after_creating t head 1 0 → c ≡ length t.operations → row_of made c ≡ new_row t head
made_row t made c head e k =
    ap (λ z. row_of z c) e ∙ ap (row_of (after_creating t head 1 0)) k ∙ get_last_same t.operations (new_row t head) no_entry

made_parent : (t made : Tree) (x : ℕ) (head : Head) → made ≡ after_creating t head 1 0 → parent_of made x ≡ parent_of t x
made_parent t made x head e = ap (λ z. parent_of z x) e ∙ get_grown t.parents None x

new_free : (t : Tree) → HaveSameKeys t → parent_of t (length t.operations) ≡ None
new_free t keys = get_or_past t.parents (length t.operations) None (omega (arith, keys.parents))

pub made_free : (t made : Tree) (c : ℕ) (head : Head) → IsTree t → made ≡ after_creating t head 1 0 → c ≡ length t.operations → parent_of made c ≡ None
made_free t made c head w e k = made_parent t made c head e ∙ ap (parent_of t) k ∙ new_free t w.keys

-- a value that stood is not the new one
old_value : (t : Tree) (v : ℕ) → IsDefined t v → v ≢ length t.definitions
old_value t v d e = let p = maker_is t v d in let lt = slice_get_within t.definitions v p.0 p.1 in omega (arith, lt, e)

-- what is used in the tree with the new operation stood before
old_operand : (t made : Tree) (x u : ℕ) (head : Head) → IsTree t → made ≡ after_creating t head 1 0 → In u (operands_of made x) → IsDefined t u
old_operand t made x u head w e i = w.joined.operands x u (subst (In u) (ap (λ y. operands_of y x) e ∙ get_grown t.operands [] x) i)

pub made_point : (t made : Tree) (op c : ℕ) (head : Head) (p : OpInsertionPoint) → IsTree made → made ≡ after_creating t head 1 0 → c ≡ length t.operations → p ≡ BeforeOperation op → IsLive t op → IsSome (parent_of t op) → IsPointFor made p c
made_point t made op c head p w e k at live is =
    let none : regions_of made c ≡ [] = ap (λ z. z.regions) (made_row t made c head e k) in
    let lt = live-within t op live in
    subst (λ z. IsPointFor made z c) (sym at) (subst IsSome (sym (made_parent t made op head e)) is, λ f. omega (arith, lt, f, k), λ i. insideless made w c op none i)

pub made_point_first : (t made : Tree) (block c : ℕ) (head : Head) (p : OpInsertionPoint) → IsTree made → made ≡ after_creating t head 1 0 → c ≡ length t.operations → p ≡ AtBlockStart block → IsBlock t block → IsPointFor made p c
made_point_first t made block c head p w e k at is =
    let none : regions_of made c ≡ [] = ap (λ z. z.regions) (made_row t made c head e k) in
    subst (λ z. IsPointFor made z c) (sym at) (subst (λ z. IsBlock z block) (sym e) is, λ h. blockless made w c block none h)

pub made_defined : (t made : Tree) (v : ℕ) (head : Head) → made ≡ after_creating t head 1 0 → IsDefined t v → IsDefined made v
made_defined t made v head e d =
    subst (λ z. IsDefined z v) (sym e) (defined_kept t (after_creating t head 1 0) v (λ f g. slice_get_kept t.definitions _ v f g) listed (λ b i g. g) d)
  where
    listed : (k i : ℕ) → slice_get (results_of t k) i ≡ Some v → slice_get (results_of (after_creating t head 1 0) k) i ≡ Some v
    listed k i g = ⊎_elim
        (λ s. ap (λ z. slice_get z.results i) s ∙ g)
        (λ s. absurd (no_member (results_of t k) i v (ap (λ z. z.results) s.1) g))
        (get_last t.operations (new_row t head) no_entry k)

pub made_live : (t made : Tree) (c : ℕ) (head : Head) → made ≡ after_creating t head 1 0 → c ≡ length t.operations → IsLive made c
made_live t made c head e k = ap (λ x. is_some x.head) (made_row t made c head e k)

pub made_result : (t made : Tree) (c : ℕ) (head : Head) → made ≡ after_creating t head 1 0 → c ≡ length t.operations → 0 < length (results_of made c)
made_result t made c head e k = let one = ap (λ x. length x.results) (made_row t made c head e k) in omega (arith, one)

pub made_contained : (t made : Tree) (c : ℕ) (head : Head) → IsTree t → IsTree made → made ≡ after_creating t head 1 0 → c ≡ length t.operations → IsSelfContained made c
made_contained t made c head w wm e k =
    let row = made_row t made c head e k in
    contained made wm c (length t.definitions) (ap (λ x. x.regions) row) (ap (λ x. x.results) row) (λ x u i. old_value t u (old_operand t made x u head w e i))

-- putting it somewhere keeps operands, and what stands
put_operands : (t : Tree) (p : OpInsertionPoint) (c k : ℕ) → operands_of (after_inserting t p c) k ≡ operands_of t k
put_operands t Unset c k = refl
put_operands t (BeforeOperation at) c k = go (parent_of t at)
  where
    go : (o : Option ℕ) → operands_of (put_next_to t c at o) k ≡ operands_of t k
    go None = refl
    go (Some b) = refl
put_operands t (AtBlockStart b) c k = refl

pub put_defined : (t z : Tree) (p : OpInsertionPoint) (c v : ℕ) → z ≡ after_inserting t p c → IsDefined t v → IsDefined z v
put_defined t z p c v e d = subst (λ x. IsDefined x v) (sym e) (by p)
  where
    next : (at : ℕ) (o : Option ℕ) → IsDefined (put_next_to t c at o) v
    next at None = d
    next at (Some b) = d

    by : (p : OpInsertionPoint) → IsDefined (after_inserting t p c) v
    by Unset = d
    by (BeforeOperation at) = next at (parent_of t at)
    by (AtBlockStart b) = d

-- its result has no uses
pub put_unused : (t made z : Tree) (c new k : ℕ) (head : Head) (p : OpInsertionPoint) → IsTree t → made ≡ after_creating t head 1 0 → c ≡ length t.operations → slice_get (results_of made c) 0 ≡ Some new → z ≡ after_inserting made p c → In new (operands_of z k) → ⊥
put_unused t made z c new k head p w e key first is i =
    let n : length t.definitions ≡ new = same_Some (length t.definitions) new (sym (ap (λ x. slice_get x.results 0) (made_row t made c head e key)) ∙ first) in
    old_value t new (old_operand t made k new head w e (subst (In new) (ap (λ x. operands_of x k) is ∙ put_operands made p c k) i)) (sym n)

-- erasing it leaves the tree as it was, but for erased handles
pub erased_made : (t made : Tree) (c : ℕ) (head : Head) → IsTree t → made ≡ after_creating t head 1 0 → c ≡ length t.operations → IsSameTree t (after_erasing made c)
erased_made t made c head w e k =
    subst (λ z. IsSameTree t z) (sym (ap (λ z. after_erasing z c) e ∙ ap (after_erasing (after_creating t head 1 0)) k)) (same_created_erased t head 1 0 w)

pub erased_free : (m : Tree) (c : ℕ) → parent_of m c ≡ None → after_erasing m c ≡ after_clearing m (nat_eq c)
erased_free m c free = ap (λ o. after_clearing (taken_from m c o) (nat_eq c)) free

pub some_block : (o : Option ℕ) → IsSome o → (b : ℕ) × (o ≡ Some b)
some_block None is = absurd (grind arith)
some_block (Some b) is = (b, refl)

-- no key is given back
pub erased_long : (made z : Tree) (c : ℕ) → z ≡ after_erasing made c → length made.operations ≤ length z.operations
erased_long made z c g =
    let same : length z.operations ≡ length made.operations = ap (λ x. length x.operations) g ∙ length-blanked _ no_entry (taken_from made c (parent_of made c)).operations ∙ ap length (taken-operations made c (parent_of made c)) in
    omega (arith, same)

-- the tree where all went well
pub put_done : (t made z : Tree) (c old new : ℕ) (head : Head) (p : OpInsertionPoint) → made ≡ after_creating t head 1 0 → c ≡ length t.operations → slice_get (results_of made c) 0 ≡ Some new → z ≡ after_replacing (after_inserting made p c) old new → z ≡ materialised_at t p old head
put_done t made z c old new head p e k h f =
    let n : new ≡ length t.definitions = sym (same_Some (length t.definitions) new (sym (ap (λ x. slice_get x.results 0) (made_row t made c head e k)) ∙ h)) in
    f
    ∙ ap (λ x. after_replacing (after_inserting x p c) old new) e
    ∙ ap (λ x. after_replacing (after_inserting (after_creating t head 1 0) p x) old new) k
    ∙ ap (λ x. after_replacing (after_inserting (after_creating t head 1 0) p (length t.operations)) old x) n

-- before an operation
pub put_before_is : (t : Tree) (op old : ℕ) (head : Head) (p : OpInsertionPoint) → p ≡ BeforeOperation op → materialised_at t p old head ≡ after_materialising t op old head
put_before_is t op old head p at =
    ap (λ x. materialised_at t x old head) at
    ∙ ap (λ o. after_replacing (put_next_to (after_creating t head 1 0) (length t.operations) op o) old (length t.definitions)) (get_grown t.parents None op)

-- The same tree but for erased handles.
use Rattle.std.proofs.Common.{◌≡◌, ◌↔◌, ℕ, Option, Some, None, IsSome, slice_get, refl, sym, ap, ◌∙◌, subst}
use Rattle.pliron_core.specs.declared.context.Def.{Def}
use Rattle.pliron_core.specs.declared.context.Def.TheVariants.{Result, Argument}
use Rattle.pliron_core.specs.Tree.{Tree, parent_of, block_parent_of, slot_of, definition_of, region_parent_of, block_parent_operation_of, parent_operation_of, up_from, op_of_slot, IsLive, IsBlock, IsRegion, IsDefined, IsMadeBy, IsInside, IsWithin, HoldsBlock}
use Rattle.pliron_core.specs.Invariant.{IsJoined}
use Rattle.pliron_core.specs.Changes.{IsSameTree, HoldsRegion, IsDefiningOperationInside, IsDefinedInside}
use Rattle.pliron_core.proofs.HoldingLemmas.{slot_is, region_by, maker_is, inside_alike, within_alike}

pub same_refl : (t : Tree) → IsSameTree t t
same_refl t = record { operations = λ k. refl; operands = λ k. refl; successors = λ k. refl; parents = λ k. refl; bodies = λ b. refl; arguments = λ b. refl; block_parents = λ b. refl; layouts = λ r. refl }

pub same_sym : (t u : Tree) → IsSameTree t u → IsSameTree u t
same_sym t u s = record { operations = λ k. sym (s.operations k); operands = λ k. sym (s.operands k); successors = λ k. sym (s.successors k); parents = λ k. sym (s.parents k); bodies = λ b. sym (s.bodies b); arguments = λ b. sym (s.arguments b); block_parents = λ b. sym (s.block_parents b); layouts = λ r. sym (s.layouts r) }

pub same_trans : (t u v : Tree) → IsSameTree t u → IsSameTree u v → IsSameTree t v
same_trans t u v s z = record {
  operations = λ k. z.operations k ∙ s.operations k;
  operands = λ k. z.operands k ∙ s.operands k;
  successors = λ k. z.successors k ∙ s.successors k;
  parents = λ k. z.parents k ∙ s.parents k;
  bodies = λ b. z.bodies b ∙ s.bodies b;
  arguments = λ b. z.arguments b ∙ s.arguments b;
  block_parents = λ b. z.block_parents b ∙ s.block_parents b;
  layouts = λ r. z.layouts r ∙ s.layouts r;
}

-- what stands in the one stands in the other, with the same place and the same maker
module _ (t u : Tree) (w : IsJoined u) (s : IsSameTree t u) where
  live : (x : ℕ) → IsLive t x → IsLive u x
  live x l = subst (λ z. IsSome z.head) (sym (s.operations x)) l

  block : (b : ℕ) → IsBlock t b → IsBlock u b
  block b i = subst IsSome (sym (s.block_parents b)) i

  region : (r : ℕ) → IsRegion t r → IsRegion u r × (slot_of u r ≡ slot_of t r)
  region r is =
      let p = slot_is t r is in
      let listed = ap (λ z. slice_get z.regions p.0.index) (s.operations p.0.op) ∙ p.2 in
      let place = w.regions p.0.op p.0.index r listed in
      (region_by u r p.0 place listed, place ∙ sym p.1)

  made : (v : ℕ) (d : Def) → IsMadeBy t v (Some d) → IsMadeBy u v (Some d) × (definition_of u v ≡ Some d)
  made v (Result k i) m = let listed = ap (λ z. slice_get z.results i) (s.operations k) ∙ m in (listed, w.results k i v listed)
  made v (Argument b i) m = let listed = ap (λ z. slice_get z i) (s.arguments b) ∙ m in (listed, w.arguments b i v listed)

  value : (v : ℕ) → IsDefined t v → IsDefined u v × (definition_of u v ≡ definition_of t v)
  value v is =
      let p = maker_is t v is in
      let m = made v p.0 p.2 in
      (subst (IsMadeBy u v) (sym m.1) m.0, m.1 ∙ sym p.1)

module _ (t u : Tree) (wt : IsJoined t) (wu : IsJoined u) (s : IsSameTree t u) where
  pub same_live : (x : ℕ) → IsLive t x ↔ IsLive u x
  same_live x = (live t u wu s x, live u t wt (same_sym t u s) x)

  pub same_block : (b : ℕ) → IsBlock t b ↔ IsBlock u b
  same_block b = (block t u wu s b, block u t wt (same_sym t u s) b)

  pub same_region : (r : ℕ) → IsRegion t r ↔ IsRegion u r
  same_region r = (λ i. (region t u wu s r i).0, λ i. (region u t wt (same_sym t u s) r i).0)

  pub same_slot : (r : ℕ) → IsRegion t r → slot_of u r ≡ slot_of t r
  same_slot r i = (region t u wu s r i).1

  pub same_value : (v : ℕ) → IsDefined t v ↔ IsDefined u v
  same_value v = (λ i. (value t u wu s v i).0, λ i. (value u t wt (same_sym t u s) v i).0)

  pub same_definition : (v : ℕ) → IsDefined t v → definition_of u v ≡ definition_of t v
  same_definition v i = (value t u wu s v i).1

  -- the same holders
  pub same_block_holder : (b : ℕ) → block_parent_operation_of u b ≡ block_parent_operation_of t b
  same_block_holder b = ap (λ o. up_from o (λ r. region_parent_of u r)) (s.block_parents b) ∙ go (block_parent_of t b) refl
    where
      go : (o : Option ℕ) → block_parent_of t b ≡ o → up_from o (λ r. region_parent_of u r) ≡ up_from o (λ r. region_parent_of t r)
      go None e = refl
      go (Some r) e = ap op_of_slot (same_slot r (wt.placed b r e))

  pub same_holder : (x : ℕ) → parent_operation_of u x ≡ parent_operation_of t x
  same_holder x = ap (λ o. up_from o (λ b. block_parent_operation_of u b)) (s.parents x) ∙ go (parent_of t x)
    where
      go : (o : Option ℕ) → up_from o (λ b. block_parent_operation_of u b) ≡ up_from o (λ b. block_parent_operation_of t b)
      go None = refl
      go (Some b) = same_block_holder b

  pub same_inside : (op x : ℕ) → IsInside t op x ↔ IsInside u op x
  same_inside op x = (λ i. inside_alike t u same_holder i, λ i. inside_alike u t (λ y. sym (same_holder y)) i)

  pub same_within : (op x : ℕ) → IsWithin t op x ↔ IsWithin u op x
  same_within op x = (λ i. within_alike t u same_holder i, λ i. within_alike u t (λ y. sym (same_holder y)) i)

  pub same_holds : (op b : ℕ) → HoldsBlock t op b ↔ HoldsBlock u op b
  same_holds op b = (λ h. (h.0, same_block_holder b ∙ h.1, (same_within op h.0).0 h.2), λ h. (h.0, sym (same_block_holder b) ∙ h.1, (same_within op h.0).1 h.2))

  pub same_holds_region : (op r : ℕ) → IsRegion t r → HoldsRegion t op r ↔ HoldsRegion u op r
  same_holds_region op r i =
      let up = ap op_of_slot (same_slot r i) in
      (λ h. (h.0, up ∙ h.1, (same_within op h.0).0 h.2), λ h. (h.0, sym up ∙ h.1, (same_within op h.0).1 h.2))

  pub same_made_inside : (op v : ℕ) → IsDefined t v → IsDefinedInside t op v ↔ IsDefinedInside u op v
  same_made_inside op v i =
      let e = same_definition v i in
      (λ m. subst (IsDefiningOperationInside u op) (sym e) ((maker (definition_of t v)).0 m), λ m. (maker (definition_of t v)).1 (subst (IsDefiningOperationInside u op) e m))
    where
      maker : (o : Option Def) → IsDefiningOperationInside t op o ↔ IsDefiningOperationInside u op o
      maker None = (λ m. m, λ m. m)
      maker (Some (Result k i)) = same_inside op k
      maker (Some (Argument b i)) = same_holds op b

-- What stands inside an operation is on the lists of its blocks and values.
use Rattle.std.proofs.Common.{◌≡◌, inl, inr, ℕ, List, ◌∷◌, Some, refl, sym, ◌∙◌, subst}
use Rattle.std.specs.List.{flat_map}
use Rattle.pliron_core.specs.declared.context.Def.{Def}
use Rattle.pliron_core.specs.declared.context.Def.TheVariants.{Result, Argument}
use Rattle.pliron_core.specs.Lists.{In}
use Rattle.pliron_core.specs.Changes.{IsDefiningOperationInside, IsDefinedInside}
use Rattle.pliron_core.specs.Tree.{Tree, IsLive, IsInside, IsMadeBy, IsDefined, HoldsBlock, regions_of, results_of, parent_of, body_of, arguments_of, layout_of, block_parent_operation_of, parent_operation_of}
use Rattle.pliron_core.specs.Tree.IsInside.{Directly, Deeper}
use Rattle.pliron_core.specs.Invariant.{IsTree}
use Rattle.pliron_core.proofs.ListLemmas.{In-left, In-right}
use Rattle.pliron_core.proofs.FlatLemmas.{In-flat_map}
use Rattle.pliron_core.proofs.HoldingLemmas.{some_is, in_slice, slot_is, region_parent_is, maker_is, block_held, held_block, holder_is, inside_up, block_inside}
use Rattle.pliron_opt_sccp.specs.Chain.{blocks_inside}
use Rattle.pliron_opt_sccp.specs.Inside.{block_values, values_inside}
use Rattle.pliron_opt_sccp.proofs.DistinctLists.{inside_nested}

module _ (t : Tree) (w : IsTree t) where
  -- the region of a block is one of the operation that holds the block
  region_of : (m z : ℕ) → block_parent_operation_of t z ≡ Some m → (r : ℕ) × In r (regions_of t m) × In z (layout_of t r)
  region_of m z e =
      let h = block_held t z w.joined (held_block t z m e) in
      let s = slot_is t h.0 h.3 in
      let same = some_is (sym (region_parent_is t h.0 s.0 s.1) ∙ h.4 ∙ sym h.5 ∙ e) in
      (h.0, subst (λ y. In h.0 (regions_of t y)) same (in_slice (regions_of t s.0.op) s.0.index h.0 s.2), w.layouts.listed z h.0 h.2)

  -- the part of an operation's list that one of its blocks begins
  abbrev from : ℕ → List ℕ
  from b = b ∷ flat_map (λ k. blocks_inside t k) (body_of t b)

  listed_from : (m b z : ℕ) → block_parent_operation_of t b ≡ Some m → In z (from b) → In z (blocks_inside t m)
  listed_from m b z e i =
      let r = region_of m b e in
      let held = block_held t b w.joined (held_block t b m e) in
      let same = some_is (sym held.5 ∙ e) in
      subst (In z) (sym (inside_nested t w m (subst (λ y. IsLive t y) same held.6)))
      (In-flat_map (λ r. flat_map (λ b. from b) (layout_of t r)) (regions_of t m) r.0 z r.1 (In-flat_map (λ b. from b) (layout_of t r.0) b z r.2 i))

  listed_up : (m p z : ℕ) → parent_operation_of t m ≡ Some p → In z (blocks_inside t m) → In z (blocks_inside t p)
  listed_up m p z e i =
      let h = holder_is t m p e in
      listed_from p h.0 z h.2 (inr (In-flat_map (λ k. blocks_inside t k) (body_of t h.0) m z (w.bodies.listed m h.0 h.1) i))

  listed_in : (x m z : ℕ) → IsInside t x m → In z (blocks_inside t m) → In z (blocks_inside t x)
  listed_in x m z (Directly e) i = listed_up m x z e i
  listed_in x m z (Deeper p e j) i = listed_in x p z j (listed_up m p z e i)

  -- a block inside the operation
  pub holds_listed : (x z : ℕ) → HoldsBlock t x z → In z (blocks_inside t x)
  holds_listed x z (m, e, inl s) = subst (λ y. In z (blocks_inside t y)) s (listed_from m z z e (inl refl))
  holds_listed x z (m, e, inr i) = listed_in x m z i (listed_from m z z e (inl refl))

  pub argument_listed : (x b v : ℕ) → In b (blocks_inside t x) → In v (arguments_of t b) → In v (values_inside t x)
  argument_listed x b v i j = In-flat_map (λ b. block_values t b) (blocks_inside t x) b v i (In-left v (arguments_of t b) (flat_map (λ k. results_of t k) (body_of t b)) j)

  pub result_listed : (x b k v : ℕ) → In b (blocks_inside t x) → parent_of t k ≡ Some b → In v (results_of t k) → In v (values_inside t x)
  result_listed x b k v i p j = In-flat_map (λ b. block_values t b) (blocks_inside t x) b v i (In-right v (arguments_of t b) (flat_map (λ k. results_of t k) (body_of t b)) (In-flat_map (λ k. results_of t k) (body_of t b) k v (w.bodies.listed k b p) j))

  -- a value that is defined inside the operation
  pub made_listed : (x v : ℕ) → IsDefinedInside t x v → IsDefined t v → In v (values_inside t x)
  made_listed x v inside defined = let m = maker_is t v defined in by m.0 m.2 (subst (IsDefiningOperationInside t x) m.1 inside)
    where
      by : (d : Def) → IsMadeBy t v (Some d) → IsDefiningOperationInside t x (Some d) → In v (values_inside t x)
      by (Argument b i) made held = argument_listed x b v (holds_listed x b held) (in_slice (arguments_of t b) i v made)
      by (Result k i) made held =
          let u = inside_up held in
          let h = holder_is t k u.0 u.1 in
          result_listed x h.0 k v (holds_listed x h.0 (block_inside h.0 h.1 held)) h.1 (in_slice (results_of t k) i v made)

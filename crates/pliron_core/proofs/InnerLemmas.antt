-- What stands last inside an operation.
use Rattle.std.proofs.Common.{◌≡◌, ℕ, ◌-◌, ◌<◌, length, get_or, Some, None, sym, ap, ◌∙◌, arith, slice_get}
use Rattle.std.proofs.lemmas.List.{get_or_read}
use Rattle.std.proofs.lemmas.Option.{slice_get_within}
use Rattle.pliron_core.specs.declared.context.OperationEntry.{OperationEntry}
use Rattle.pliron_core.specs.Tree.{Tree, IsLive, no_entry, op_of_slot, row_of, regions_of, region_parent_of, layout_of, body_of, block_parent_operation_of, parent_of, parent_operation_of, last_of}
use Rattle.pliron_core.specs.Invariant.{IsTree}
use Rattle.pliron_core.specs.Dismantling.{last_region_of}
use Rattle.pliron_core.proofs.LastLemmas.{get_last_is, last_in}
use Rattle.pliron_core.proofs.TreeLemmas.{in_at, live-within}
use Rattle.pliron_core.proofs.WithinLemmas.{holder_from, block_holder_from}

module _ (t : Tree) (op r : ℕ) (is : IsTree t) (last : last_region_of t op ≡ Some r) where
  pub last_region_parent : region_parent_of t r ≡ Some op
  last_region_parent = let i = in_at (regions_of t op) r (last_in (regions_of t op) r last) in ap (λ o. op_of_slot o) (is.joined.regions op i.0 r i.1)

  pub last_region_within : r < length t.layouts
  last_region_within =
      let i = in_at (regions_of t op) r (last_in (regions_of t op) r last) in
      let k = is.keys.slots in
      let h = slice_get_within t.slots r _ (is.joined.regions op i.0 r i.1) in
      omega (arith, h, k)

  pub last_block_holder : (b : ℕ) → last_of None (layout_of t r) ≡ Some b → block_parent_operation_of t b ≡ Some op
  last_block_holder b e = block_holder_from t b r (is.layouts.owned b r (last_in (layout_of t r) b e)) ∙ last_region_parent

  pub last_operation : (b c : ℕ) → last_of None (layout_of t r) ≡ Some b → last_of None (body_of t b) ≡ Some c → IsLive t c × (parent_operation_of t c ≡ Some op)
  last_operation b c e f =
      let at : parent_of t c ≡ Some b = is.bodies.owned c b (last_in (body_of t b) c f) in
      ((is.joined.all_in_place c b at).0, holder_from t c b at ∙ last_block_holder b e)

-- the row that was read at an operation's key
pub row_read : (t : Tree) (op : ℕ) (row : OperationEntry) → IsLive t op → row ≡ get_or t.operations op row → row ≡ row_of t op
row_read t op row live e = get_or_read t.operations op row (live-within t op live) e no_entry

pub last_read : (t : Tree) (op : ℕ) (row : OperationEntry) (count r : ℕ) → IsLive t op → row ≡ get_or t.operations op row → count ≡ length row.regions → slice_get row.regions (count - 1) ≡ Some r → last_region_of t op ≡ Some r
last_read t op row count r live e n f =
    let same : row.regions ≡ regions_of t op = ap (λ z. z.regions) (row_read t op row live e) in
    get_last_is (regions_of t op) r (ap (λ xs. slice_get xs (length xs - 1)) (sym same) ∙ ap (λ k. slice_get row.regions (k - 1)) (sym n) ∙ f)

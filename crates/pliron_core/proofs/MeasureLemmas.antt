-- Each step of taking an operation apart leaves less to do.
use Rattle.std.proofs.Common.{◌≡◌, ℕ, suc, ◌+◌, ◌-◌, ◌<◌, ◌≤◌, nat_eq, [], ◌∷◌, length, get_or, take, Option, Some, None, is_some, refl, ap, ◌∙◌, arith, slice_set, if◌then◌else◌, length-append}
use Rattle.std.specs.List.{sum_by}
use Rattle.std.proofs.lemmas.List.Sums.{sum_by-set}
use Rattle.pliron_core.specs.declared.context.OperationEntry.{OperationEntry}
use Rattle.pliron_core.specs.Tree.{Tree, no_entry, row_of, head_of, regions_of, parent_of, block_parent_of, parent_operation_of}
use Rattle.pliron_core.specs.Invariant.{IsTree}
use Rattle.pliron_core.specs.Writes.{taken_from}
use Rattle.pliron_core.specs.Erased.{block_taken_from}
use Rattle.pliron_core.specs.Dismantling.{IsStep, Down, LessBlock, LessRegion, Up, after_dismantling, region_popped, last_region_of}
use Rattle.pliron_core.proofs.TreeLemmas.{live-within, within-some}
use Rattle.pliron_core.proofs.LastLemmas.{last_front, take_front}
use Rattle.pliron_core.proofs.ChainLemmas.{height, height-le, height_step}
use Rattle.pliron_core.proofs.WithinLemmas.{block_steps, held_below, holder_live}
use Rattle.pliron_core.proofs.ClearingLemmas.{block_gone, holder_was}
use Rattle.pliron_core.proofs.DescentLemmas.{IsDescent, taken-operations, taken-block_parents}

-- what an operation, a block still asks: a live operation two steps more than its regions
abbrev pub weight : OperationEntry → ℕ
weight e = length e.regions + (if is_some e.head then 2 else 0)

abbrev pub block_weight : Option ℕ → ℕ
block_weight o = if is_some o then 1 else 0

abbrev pub size : Tree → ℕ
size t = sum_by weight t.operations + sum_by block_weight t.block_parents

-- how much deeper the way may still go
abbrev pub gap : Tree → Option ℕ → ℕ
gap t None = 0
gap t (Some k) = length t.operations - height (parent_operation_of t) (length t.operations) (Some k)

abbrev pub left_over : Tree → Option ℕ → Tree → ℕ
left_over t at u = size u + gap t at

module _ (t : Tree) (op : ℕ) (w : IsTree t) (u : Tree) (k : ℕ) (d : IsDescent t op (Some k) u) where
  -- one step down is one deeper
  deeper : (x y : ℕ) → parent_operation_of t x ≡ Some y → height (parent_operation_of t) (length t.operations) (Some x) ≡ suc (height (parent_operation_of t) (length t.operations) (Some y))
  deeper x y e = height_step (parent_operation_of t) w.joined.rooted (length t.operations) (held_below t (nat_eq op) w.joined) x (live-within t x (holder_live t x y w.joined e).0) ∙ ap (λ o. suc (height (parent_operation_of t) (length t.operations) o)) e

  was : (x y : ℕ) → parent_operation_of u x ≡ Some y → parent_operation_of t x ≡ Some y
  was x y e = holder_was t u (nat_eq op) (block_gone t (nat_eq op)) w d.tree d.clearing x y e

  down : (c : ℕ) → parent_operation_of u c ≡ Some k → gap t (Some c) < gap t (Some k)
  down c e =
      let h = deeper c k (was c k e) in
      let m = height-le (parent_operation_of t) (length t.operations) (Some c) in
      omega (arith, h, m)

  up : (o : Option ℕ) → parent_operation_of u k ≡ o → gap t o ≤ suc (gap t (Some k))
  up None e = omega arith
  up (Some y) e =
      let h = deeper k y (was k y e) in
      omega (arith, h)

  less_block : (b r : ℕ) → block_parent_of u b ≡ Some r → size (block_taken_from u b (Some r)) < size u
  less_block b r e =
      let lt : b < length u.block_parents = within-some u.block_parents b (ap is_some e) in
      let s : sum_by block_weight (slice_set u.block_parents b None) + block_weight (get_or u.block_parents b None) ≡ sum_by block_weight u.block_parents + block_weight None = sum_by-set block_weight u.block_parents b None None lt in
      let h : block_weight (get_or u.block_parents b None) ≡ 1 = ap block_weight e in
      omega (arith, s, h)

  less_region : (r : ℕ) → last_region_of u k ≡ Some r → size (region_popped u k) < size u
  less_region r e =
      let f = last_front (regions_of u k) r e in
      let short : take (length (regions_of u k) - 1) (regions_of u k) ≡ f.0 = ap (λ xs. take (length xs - 1) xs) f.1 ∙ take_front f.0 r in
      let s = sum_by-set weight u.operations k (record (row_of u k) { regions = take (length (regions_of u k) - 1) (regions_of u k) }) no_entry (live-within u k d.place.0) in
      let n : length (regions_of u k) ≡ suc (length f.0) = ap length f.1 ∙ omega (arith, length-append f.0 (r ∷ [])) in
      let m : length (take (length (regions_of u k) - 1) (regions_of u k)) ≡ length f.0 = ap length short in
      omega (arith, s, n, m)

  less_operation : (o : Option ℕ) → regions_of u k ≡ [] → size (after_dismantling (taken_from u k o) k) + 1 < size u
  less_operation o n =
      let s : sum_by weight (slice_set u.operations k no_entry) + weight (row_of u k) ≡ sum_by weight u.operations + weight no_entry = sum_by-set weight u.operations k no_entry no_entry (live-within u k d.place.0) in
      let h : weight (row_of u k) ≡ 2 = ap (λ xs. length xs + (if is_some (head_of u k) then 2 else 0)) n ∙ ap (λ b. 0 + (if b then 2 else 0)) d.place.0 in
      let a : sum_by weight (slice_set (taken_from u k o).operations k no_entry) ≡ sum_by weight (slice_set u.operations k no_entry) = ap (λ xs. sum_by weight (slice_set xs k no_entry)) (taken-operations u k o) in
      let b : sum_by block_weight (taken_from u k o).block_parents ≡ sum_by block_weight u.block_parents = ap (sum_by block_weight) (taken-block_parents u k o) in
      omega (arith, s, h, a, b)

  pub descent_falls : (o : Option ℕ) (v : Tree) → IsStep u k o v → left_over t o v < left_over t (Some k) u
  descent_falls o v (Down c to l h e) =
      let a : left_over t o v ≡ left_over t (Some c) u = ap (λ z. left_over t z v) to ∙ ap (λ z. left_over t (Some c) z) e in
      let b = down c h in
      omega (arith, a, b)
  descent_falls o v (LessBlock b to h n e) =
      let s = block_steps u b k h in
      let a : left_over t o v ≡ left_over t (Some k) (block_taken_from u b (Some s.0)) = ap (λ z. left_over t z v) to ∙ ap (λ z. left_over t (Some k) z) (e ∙ ap (block_taken_from u b) s.1) in
      let c = less_block b s.0 s.1 in
      omega (arith, a, c)
  descent_falls o v (LessRegion r to last n e) =
      let a : left_over t o v ≡ left_over t (Some k) (region_popped u k) = ap (λ z. left_over t z v) to ∙ ap (λ z. left_over t (Some k) z) e in
      let c = less_region r last in
      omega (arith, a, c)
  descent_falls o v (Up to n e) =
      let a : left_over t o v ≡ left_over t (parent_operation_of u k) (after_dismantling (taken_from u k (parent_of u k)) k) = ap (λ z. left_over t z v) to ∙ ap (λ z. left_over t (parent_operation_of u k) z) e in
      let b = up (parent_operation_of u k) refl in
      let c = less_operation (parent_of u k) n in
      omega (arith, a, b, c)

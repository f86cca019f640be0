-- What stands where a branch was replaced by one with other successors.
use Rattle.std.proofs.Common.{◌≡◌, ◌≢◌, inl, ⊎_elim, ℕ, zero, suc, ◌<◌, Bool, true, false, nat_eq, if◌then◌else◌, List, [], ◌∷◌, ◌++◌, length, get_or, Option, Some, None, slice_get, slice_set, refl, sym, ap, ◌∙◌, subst, append-nil, length-append, arith}
use Rattle.std.proofs.lemmas.List.{get_or-set_other, get_or-set_same}
use Rattle.pliron_core.specs.declared.attrs.Head.{Head}
use Rattle.pliron_core.specs.Tree.{Tree, In, IsInside, IsInside.Directly, IsInside.Deeper, no_entry, row_of, operands_of, successors_of, regions_of, parent_of, body_of, block_parent_of, region_parent_of, block_parent_operation_of, up_from, op_of_slot}
use Rattle.pliron_core.specs.Invariant.{IsTree}
use Rattle.pliron_core.specs.Writes.{after_creating, taken_from, put_next_to}
use Rattle.pliron_core.specs.Erased.{is_met_above, blank_at, after_clearing, after_erasing}
use Rattle.pliron_core.proofs.TreeLemmas.{live-within}
use Rattle.pliron_core.proofs.ListLemmas.{In-right}
use Rattle.pliron_core.proofs.BlankLemmas.{blanked_kept, length-blanked}
use Rattle.pliron_core.proofs.ClearedLemmas.{met_itself}
use Rattle.pliron_core.proofs.WithinLemmas.{within_is}
use Rattle.pliron_core.proofs.HoldingLemmas.{some_is, not_none, slot_is, region_parent_is, block_held, held_block, holder_is}
use Rattle.pliron_laws.specs.Replacing.{with_edges, branch_replaced}
use Rattle.pliron_opt_edges.proofs.LedTrees.{with_targets}

reported : (b : Bool) → (b ≡ true → ⊥) → b ≡ false
reported true f = absurd (f refl)
reported false f = refl

app_other : {A : Type 0} (xs : List A) (x d : A) (k : ℕ) → k ≢ length xs → get_or (xs ++ x ∷ []) k d ≡ get_or xs k d
app_other [] x d zero ne = absurd (ne refl)
app_other [] x d (suc k) ne = refl
app_other (y ∷ xs) x d zero ne = refl
app_other (y ∷ xs) x d (suc k) ne = app_other xs x d k (λ e. ne (ap suc e))

app_same : {A : Type 0} (xs : List A) (x d : A) → get_or (xs ++ x ∷ []) (length xs) d ≡ x
app_same [] x d = refl
app_same (y ∷ xs) x d = app_same xs x d

-- an entry that is blank afterwards may be any before
blanked_over : {A : Type 0} (deleted : ℕ → Bool) (none : A) (xs : List A) (i : ℕ) (v : A) → deleted i ≡ true → blank_at deleted none (slice_set xs i v) ≡ blank_at deleted none xs
blanked_over deleted none [] i v e = refl
blanked_over deleted none (x ∷ xs) zero v e =
    ap (λ b. (if b then none else v) ∷ blank_at (λ k. deleted (suc k)) none xs) e ∙ sym (ap (λ b. (if b then none else x) ∷ blank_at (λ k. deleted (suc k)) none xs) e)
blanked_over deleted none (x ∷ xs) (suc i) v e = ap (λ z. (if deleted 0 then none else x) ∷ z) (blanked_over (λ k. deleted (suc k)) none xs i v e)

-- a write before the last entry, and the last entry
set_last : {A : Type 0} (xs : List A) (i : ℕ) (v y z : A) → i < length xs → slice_set (slice_set xs i v ++ y ∷ []) (length xs) z ≡ slice_set (slice_set (xs ++ y ∷ []) (length xs) z) i v
set_last [] i v y z lt = absurd (omega (arith, lt))
set_last (x ∷ xs) zero v y z lt = refl
set_last (x ∷ xs) (suc i) v y z lt = ap (λ l. x ∷ l) (set_last xs i v y z (omega (arith, lt)))

set_before : {A : Type 0} (xs : List A) (n i : ℕ) (v y z : A) → n ≡ length xs → i < length xs → slice_set (slice_set xs i v ++ y ∷ []) n z ≡ slice_set (slice_set (xs ++ y ∷ []) n z) i v
set_before xs n i v y z e lt = subst (λ k. slice_set (slice_set xs i v ++ y ∷ []) k z ≡ slice_set (slice_set (xs ++ y ∷ []) k z) i v) (sym e) (set_last xs i v y z lt)

-- the new operation in the place of the other, in the block a
abbrev pub placed : Tree → ℕ → ℕ → Head → List ℕ → List ℕ → Tree
placed t a op head operands successors = after_clearing (taken_from (put_next_to (with_edges (after_creating t head 0 0) (length t.operations) operands successors) (length t.operations) op (Some a)) op (Some a)) (nat_eq op)

pub placed_long : (t : Tree) (a op : ℕ) (head : Head) (operands successors : List ℕ) → length (placed t a op head operands successors).operations ≡ suc (length t.operations)
placed_long t a op head operands successors =
    let x = length-append t.operations (record { head = Some head; results = []; regions = [] } ∷ []) in
    length-blanked _ no_entry _ ∙ x ∙ omega arith

module _ (t : Tree) (a op : ℕ) (head : Head) (operands successors front : List ℕ) (w : IsTree t) (split : body_of t a ≡ front ++ op ∷ []) (childless : regions_of t op ≡ []) where
  abbrev n : ℕ
  n = length t.operations

  in_a : parent_of t op ≡ Some a
  in_a = w.bodies.owned op a (subst (In op) (sym split) (In-right op front (op ∷ []) (inl refl)))

  op_in : op < length t.operations
  op_in = live-within t op (w.joined.all_in_place op a in_a).0

  not_new : op ≢ length t.operations
  not_new e = let lt = op_in in absurd (omega (arith, lt, e))

  abbrev put : Tree
  put = put_next_to (with_edges (after_creating t head 0 0) (length t.operations) operands successors) (length t.operations) op (Some a)

  abbrev free : Tree
  free = taken_from put op (Some a)

  parent_put : parent_of put op ≡ Some a
  parent_put = get_or-set_other (t.parents ++ None ∷ []) n op (Some a) None not_new ∙ app_other t.parents None None op (λ e. not_new (e ∙ w.keys.parents)) ∙ in_a

  pub is_placed : branch_replaced t op head operands successors ≡ placed t a op head operands successors
  is_placed = ap {A = Option ℕ} (λ o. after_erasing (put_next_to (with_edges (after_creating t head 0 0) (length t.operations) operands successors) (length t.operations) op o) op) in_a ∙ ap {A = Option ℕ} (λ o. after_clearing (taken_from put op o) (nat_eq op)) parent_put

  -- nothing stands inside the branch that goes
  no_block : (c : ℕ) → block_parent_operation_of t c ≡ Some op → ⊥
  no_block c e =
      let x = block_held t c w.joined (held_block t c op e) in
      let s = slot_is t x.0 x.3 in
      let its : s.0.op ≡ op = some_is (sym (region_parent_is t x.0 s.0 s.1) ∙ x.4 ∙ sym x.5 ∙ e) in
      not_none (sym (ap (λ l. slice_get l s.0.index) (ap (regions_of t) its ∙ childless)) ∙ s.2)

  block_same : (c : ℕ) → block_parent_operation_of free c ≡ block_parent_operation_of t c
  block_same c = go (block_parent_of t c)
    where
      go : (o : Option ℕ) → up_from o (λ r. region_parent_of free r) ≡ up_from o (λ r. region_parent_of t r)
      go None = refl
      go (Some r) = ap (λ l. op_of_slot (slice_get l r)) (append-nil t.slots)

  nothing_inside : (x : ℕ) → IsInside free op x → ⊥
  nothing_inside x (Directly e) = let y = holder_is free x op e in no_block y.0 (sym (block_same y.0) ∙ y.2)
  nothing_inside x (Deeper q e i) = nothing_inside q i

  kept : (k : ℕ) → k ≢ op → is_met_above free (nat_eq op) (Some k) ≡ false
  kept k ne = reported _ (λ e. ⊎_elim ne (λ i. nothing_inside k i) (within_is free op k e))

  op_gone : is_met_above free (nat_eq op) (Some op) ≡ true
  op_gone = met_itself free op (let x = length-append t.operations (record { head = Some head; results = []; regions = [] } ∷ []) in let y = op_in in omega (arith, x, y))

  pub new_row : row_of (placed t a op head operands successors) (length t.operations) ≡ record { head = Some head; results = []; regions = [] }
  new_row = blanked_kept _ no_entry free.operations n (kept n (λ e. not_new (sym e))) ∙ app_same t.operations (record { head = Some head; results = []; regions = [] }) no_entry

  pub new_operands : operands_of (placed t a op head operands successors) (length t.operations) ≡ operands
  new_operands = blanked_kept _ [] free.operands n (kept n (λ e. not_new (sym e))) ∙ get_or-set_same (t.operands ++ [] ∷ []) n operands [] (let y = w.keys.operands in let z = length-append t.operands ([] ∷ []) in omega (arith, y, z))

  pub new_successors : successors_of (placed t a op head operands successors) (length t.operations) ≡ successors
  new_successors = blanked_kept _ [] free.successors n (kept n (λ e. not_new (sym e))) ∙ get_or-set_same (t.successors ++ [] ∷ []) n successors [] (let y = w.keys.successors in let z = length-append t.successors ([] ∷ []) in omega (arith, y, z))

  -- the successors of the branch that goes may have been any
  pub placed_any : (xs : List ℕ) → placed (with_targets t op xs) a op head operands successors ≡ placed t a op head operands successors
  placed_any xs =
      let within : op < length t.successors = (let lt = op_in in omega (arith, lt, w.keys.successors)) in
      ap (λ z. let u : Tree = record (placed t a op head operands successors) { successors = z } in u)
      (ap (blank_at (λ k. is_met_above free (nat_eq op) (Some k)) []) (set_before t.successors (length t.operations) op xs [] successors (sym w.keys.successors) within)
      ∙ blanked_over (λ k. is_met_above free (nat_eq op) (Some k)) [] (slice_set (t.successors ++ [] ∷ []) (length t.operations) successors) op xs op_gone)

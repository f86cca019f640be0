-- What marks say once one of them is written.
use Rattle.std.proofs.Common.{◌≡◌, ℕ, ◌<◌, Bool, true, false, nat_eq, if◌then◌else◌, List, length, Some, refl, ap, ◌∙◌, sym}
use Rattle.std.specs.List.{position, slice_index_or, slice_set}
use Rattle.pliron_opt_sccp.specs.declared.lattice_tables.BlockState.{BlockState}
use Rattle.pliron_opt_sccp.specs.declared.lattice_tables.BlockState.TheVariants.{NotExecutable, Waiting, Visited}
use Rattle.pliron_opt_sccp.specs.LatticeCells.{table_at, is_marked_executable, is_waiting}
use Rattle.pliron_opt_sccp.proofs.Worklists.{read_set}
use Rattle.std.proofs.lemmas.Bool.{eqb-true}

-- a test of what was written at one place
pub test_if : {A B : Type 0} (test : A → B) (c : Bool) (x y : A) → test (if c then x else y) ≡ (if c then test x else test y)
test_if test true x y = refl
test_if test false x y = refl

module _ (marks : List BlockState) (keys : List ℕ) (k n : ℕ) (at : position (nat_eq k) keys ≡ Some n) (lt : n < length marks) where
  -- the block is entered
  pub reached_entered : (b : ℕ) → is_marked_executable (table_at NotExecutable (slice_set marks n Waiting) (position (nat_eq b) keys)) ≡ (if nat_eq k b then true else is_marked_executable (table_at NotExecutable marks (position (nat_eq b) keys)))
  reached_entered b = ap is_marked_executable (read_set NotExecutable Waiting marks keys k n at lt b) ∙ test_if is_marked_executable (nat_eq k b) Waiting (table_at NotExecutable marks (position (nat_eq b) keys))

  pub waits_entered : slice_index_or marks n NotExecutable ≡ NotExecutable → (b : ℕ) → is_waiting (table_at NotExecutable (slice_set marks n Waiting) (position (nat_eq b) keys)) ≡ (if nat_eq k b then (if is_marked_executable (table_at NotExecutable marks (position (nat_eq k) keys)) then is_waiting (table_at NotExecutable marks (position (nat_eq k) keys)) else true) else is_waiting (table_at NotExecutable marks (position (nat_eq b) keys)))
  waits_entered fails b =
      let old : is_marked_executable (table_at NotExecutable marks (position (nat_eq k) keys)) ≡ false = ap (λ o. is_marked_executable (table_at NotExecutable marks o)) at ∙ ap is_marked_executable fails in
      let first : (if is_marked_executable (table_at NotExecutable marks (position (nat_eq k) keys)) then is_waiting (table_at NotExecutable marks (position (nat_eq k) keys)) else true) ≡ true = ap (λ c. if c then is_waiting (table_at NotExecutable marks (position (nat_eq k) keys)) else true) old in
      ap is_waiting (read_set NotExecutable Waiting marks keys k n at lt b) ∙ test_if is_waiting (nat_eq k b) Waiting (table_at NotExecutable marks (position (nat_eq b) keys)) ∙ ap (λ z. if nat_eq k b then z else is_waiting (table_at NotExecutable marks (position (nat_eq b) keys))) (sym first)

  -- the block is taken
  pub waits_taken : (b : ℕ) → is_waiting (table_at NotExecutable (slice_set marks n Visited) (position (nat_eq b) keys)) ≡ (if nat_eq k b then false else is_waiting (table_at NotExecutable marks (position (nat_eq b) keys)))
  waits_taken b = ap is_waiting (read_set NotExecutable Visited marks keys k n at lt b) ∙ test_if is_waiting (nat_eq k b) Visited (table_at NotExecutable marks (position (nat_eq b) keys))

  pub reached_taken : is_marked_executable (slice_index_or marks n NotExecutable) ≡ true → (b : ℕ) → is_marked_executable (table_at NotExecutable (slice_set marks n Visited) (position (nat_eq b) keys)) ≡ is_marked_executable (table_at NotExecutable marks (position (nat_eq b) keys))
  reached_taken passes b = ap is_marked_executable (read_set NotExecutable Visited marks keys k n at lt b) ∙ test_if is_marked_executable (nat_eq k b) Visited (table_at NotExecutable marks (position (nat_eq b) keys)) ∙ by (nat_eq k b) refl
    where
      by : (c : Bool) → nat_eq k b ≡ c → (if c then true else is_marked_executable (table_at NotExecutable marks (position (nat_eq b) keys))) ≡ is_marked_executable (table_at NotExecutable marks (position (nat_eq b) keys))
      by false e = refl
      by true e = sym (ap (λ z. is_marked_executable (table_at NotExecutable marks (position (nat_eq z) keys))) (sym (eqb-true k b e)) ∙ ap (λ o. is_marked_executable (table_at NotExecutable marks o)) at ∙ passes)

pub waits_reached : (m : BlockState) → is_waiting m ≡ true → is_marked_executable m ≡ true
waits_reached NotExecutable e = e
waits_reached Waiting e = refl
waits_reached Visited e = refl

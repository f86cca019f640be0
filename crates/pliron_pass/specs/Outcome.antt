-- What `run_pass` does.
use Rattle.std.specs.Prelude.{◌≡◌, ◌≢◌, ℕ, List, [], Bool, true, false, ◌⊎◌, Result, Ok, Err}
use Rattle.pliron_core.specs.Tree.{Tree}
use Rattle.pliron_laws.specs.declared.fault.OptError.{OptError}
use Rattle.pliron_laws.specs.declared.fault.OptError.TheVariants.{Memory, VerifyBefore, VerifyAfter}
use Rattle.pliron_pass.specs.Answer.{has_changed, kept_kinds, IsNewAnswer}
use Rattle.pliron_pass.specs.Config.{skips, verifies_before, verifies_after, counted_data}
use Rattle.pliron_pass.specs.Stage.{Stage}
use Rattle.pliron_pass.specs.declared.result.PassResult.{PassResult}

abbrev pub count_run : {K E : Type 0} → Stage K E → Stage K E
count_run s = record s { common = counted_data s.common }

-- what verifying answers for a tree and a root
abbrev pub Verifying : Type 1
Verifying = Tree → ℕ → Result (Unit {0}) OptError → Type 0

-- allocation failure stays what it is, and any other fault becomes f
abbrev pub IsFaultOf : Verifying → OptError → Tree → ℕ → OptError → Type 0
IsFaultOf verifies f t op e = ((e ≡ Memory) × verifies t op (Err Memory)) ⊎ ((e ≡ f) × ((g : OptError) × (g ≢ Memory) × verifies t op (Err g)))

-- what comes of verifying where it is wanted
abbrev pub IsVerified : Verifying → OptError → Bool → Tree → ℕ → Result (Unit {0}) OptError → Type 0
IsVerified verifies f wanted t op (Ok _) = wanted ≡ true → verifies t op (Ok tt)
IsVerified verifies f wanted t op (Err e) = (wanted ≡ true) × IsFaultOf verifies f t op e

-- what a pass does: itself before and after, the operation, tree, cache, configuration and state before
-- and after, and the answer
abbrev pub OutcomeOf : Type 0 → Type 0 → Type 0 → Type 1
OutcomeOf P K E = P → P → ℕ → Stage K E → Stage K E → Result (PassResult K) OptError → Type 0

module _ {K E P : Type 0} (name : P → List ℕ) (outcome : OutcomeOf P K E) (verifies : Verifying) where
  -- what `run_pass` does with a pass that is no manager
  pub data RunsPlain (p p' : P) (op : ℕ) (s s' : Stage K E) (r : Result (PassResult K) OptError) : Type 0 where
    Skipped : skips s.common (name p) ≡ true → p' ≡ p → s' ≡ s → (a : PassResult K) → r ≡ Ok a → IsNewAnswer a → RunsPlain p p' op s s' r
    Refused : skips s.common (name p) ≡ false → (e : OptError) → IsVerified verifies VerifyBefore (verifies_before s.common (name p)) s.tree op (Err e) → p' ≡ p → s' ≡ s → r ≡ Err e → RunsPlain p p' op s s' r
    Ran : skips s.common (name p) ≡ false → IsVerified verifies VerifyBefore (verifies_before s.common (name p)) s.tree op (Ok tt) → (u : Stage K E) → outcome p p' op s u r → IsVerified verifies VerifyAfter (verifies_after s.common (name p)) u.tree op (Ok tt) → s' ≡ count_run u → RunsPlain p p' op s s' r
    Spoilt : skips s.common (name p) ≡ false → IsVerified verifies VerifyBefore (verifies_before s.common (name p)) s.tree op (Ok tt) → (a : Result (PassResult K) OptError) → outcome p p' op s s' a → (e : OptError) → IsVerified verifies VerifyAfter (verifies_after s.common (name p)) s'.tree op (Err e) → r ≡ Err e → RunsPlain p p' op s s' r

  abbrev pub RunsBy : (managed : Bool) → OutcomeOf P K E
  RunsBy true = outcome
  RunsBy false = RunsPlain

  -- what `run_pass` does
  abbrev pub RunsPass : (P → Bool) → OutcomeOf P K E
  RunsPass managed p = RunsBy (managed p) p

-- What the program runs.
use Rattle.std.specs.Prelude.{◌≡◌, ℕ, Bool, false, List, []}
use Rattle.pliron_core.specs.Tree.{Tree}
use Rattle.pliron_core.specs.declared.attrs.IRStatus.{IRStatus}
use Rattle.pliron_pass.specs.Combined.{StepsTo}
use Rattle.pliron_pass.specs.Config.{skips, verifies_before, verifies_after}
use Rattle.pliron_pass.specs.Outcome.{OutcomeOf}
use Rattle.pliron_pass.specs.Stage.{Stage}
use Rattle.pliron_pass.specs.declared.config.PMData.{PMData}

-- nothing is skipped, verified or counted
pub record IsPlain (d : PMData) : Type 0 where
  pub count : d.state.pass_run_count ≡ 0
  pub skips_none : (n : List ℕ) → skips d n ≡ false
  pub before_none : (n : List ℕ) → verifies_before d n ≡ false
  pub after_none : (n : List ℕ) → verifies_after d n ≡ false

-- the pass ran once on the operation, with nothing configured and nothing cached
pub record RunsAlone {K E P : Type 0} (eq : K → K → Bool) (outcome : OutcomeOf P K E) (p : P) (root : ℕ) (t t' : Tree) (status : IRStatus) : Type 0 where
  pub later : P
  pub first : Stage K E
  pub last : Stage K E
  pub from : first.tree ≡ t
  pub to : last.tree ≡ t'
  pub empty : first.cache ≡ []
  pub plain : IsPlain first.common
  pub steps : StepsTo eq outcome p later root first last status

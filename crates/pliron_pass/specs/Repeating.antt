-- A pass again and again.
use Rattle.std.specs.Prelude.{◌≡◌, zero, suc, ℕ, ◌+◌, ◌<◌, List, [], ◌∷◌, Bool, Result, Ok, Err}
use Rattle.pliron_core.specs.declared.attrs.IRStatus.{IRStatus}
use Rattle.pliron_core.specs.declared.attrs.IRStatus.TheVariants.{Changed, Unchanged}
use Rattle.pliron_laws.specs.declared.fault.OptError.{OptError}
use Rattle.pliron_pass.specs.Stage.{Stage}
use Rattle.pliron_pass.specs.Outcome.{OutcomeOf}
use Rattle.pliron_pass.specs.Combined.{StepsTo}

abbrev pub repeat_name : List ℕ
repeat_name = 0x72 ∷ 0x65 ∷ 0x70 ∷ 0x65 ∷ 0x61 ∷ 0x74 ∷ []

module _ {K E P : Type 0} (eq : K → K → Bool) (inner : OutcomeOf P K E) where
  -- n runs on one operation, each of which changed something; the status says whether there was one
  pub data Repeats (op : ℕ) (p : P) (s : Stage K E) : ℕ → P → Stage K E → IRStatus → Type 0 where
    NoRun : Repeats op p s 0 p s Unchanged
    OneMore : {n : ℕ} {q : P} {u : Stage K E} {c : IRStatus} (p' : P) (s' : Stage K E) → Repeats op p s n q u c → StepsTo eq inner q p' op u s' Changed → Repeats op p s (n + 1) p' s' Changed

  -- it stops after the first run that changed nothing, after an error, or after max runs
  pub data RepeatsTo (max op : ℕ) (p p' : P) (s : Stage K E) (runs : ℕ) (s' : Stage K E) (r : Result IRStatus OptError) : Type 0 where
    Full : (c : IRStatus) → r ≡ Ok c → runs ≡ max → Repeats op p s runs p' s' c → RepeatsTo max op p p' s runs s' r
    Settled : (c : IRStatus) (n : ℕ) (q : P) (u : Stage K E) → r ≡ Ok c → runs ≡ n + 1 → n < max → Repeats op p s n q u c → StepsTo eq inner q p' op u s' Unchanged → RepeatsTo max op p p' s runs s' r
    Failed : (e : OptError) (c : IRStatus) (n : ℕ) (q : P) (u : Stage K E) → r ≡ Err e → runs ≡ n + 1 → n < max → Repeats op p s n q u c → inner q p' op u s' (Err e) → RepeatsTo max op p p' s runs s' r

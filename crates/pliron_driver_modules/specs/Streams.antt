-- What streams get.
use Rattle.std.specs.Prelude.{◌≡◌, ◌≢◌, ◌⊎◌, ℕ, List, Option}
use Rattle.std.specs.Io.KnownBytes.{Appends, Keeps}
use Rattle.pliron_driver.specs.Ending.{IsRestOfInput, WritesPart}
use Rattle.pliron_driver_modules.specs.declared.outcome.ModuleOutcome.{ModuleOutcome}

-- an outcome on the output, of which it is known what it holds before and after, and the status
pub data IsOutcomeWritten (o : ModuleOutcome) (before after : Option (List ℕ)) (status : ℕ) : Type 0 where
  -- the whole module, with 0
  Whole : o.status ≡ 0 → status ≡ 0 → Appends before after o.output.items → IsOutcomeWritten o before after status
  -- with another status of the outcome nothing
  Nothing : o.status ≢ 0 → status ≡ o.status → Keeps before after → IsOutcomeWritten o before after status
  -- writing the module failed, after a first part of it
  Failed : o.status ≡ 0 → status ≡ 2 → WritesPart before after o.output.items → IsOutcomeWritten o before after status

-- the outcome is one of all that was left to be read, where that is known
abbrev pub IsOfInput : (ends : List ℕ → ModuleOutcome → Type 0) (known : Option (List ℕ)) → ModuleOutcome → Type 0
IsOfInput ends known o = (text : List ℕ) × IsRestOfInput known text × ends text o

-- such an outcome is written; or memory was refused, and nothing is
pub data EndsOnStreams (ends : List ℕ → ModuleOutcome → Type 0) (known before after : Option (List ℕ)) (status : ℕ) : Type 0 where
  WithOutcome : (o : ModuleOutcome) → IsOfInput ends known o → IsOutcomeWritten o before after status → EndsOnStreams ends known before after status
  WithoutOutcome : status ≡ 1 → Keeps before after → EndsOnStreams ends known before after status

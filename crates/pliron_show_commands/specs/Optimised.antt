-- What is written of a text that passes ran on.
use Rattle.std.specs.Prelude.{◌≡◌, ℕ, Bool, List, [], ◌++◌, IsTrue}
use Rattle.pliron_core.specs.Tree.{Tree}
use Rattle.pliron_core.specs.declared.attrs.IRStatus.{IRStatus}
use Rattle.pliron_laws.specs.Datum.{Meaning}
use Rattle.pliron_show_places.specs.Layout.{words_of}
use Rattle.pliron_driver.specs.Answered.{Reads, Prints, IsOptimised, status_line}
use Rattle.pliron_show_commands.specs.Outcomes.{EndsEither}
use Rattle.pliron_show.specs.Faults.{TextFaults}
use Rattle.pliron_show_commands.specs.declared.outcome.Outcome.{Outcome}

-- it has the same words in the same order
abbrev pub IsLaidOut : (printed output : List ℕ) → Type 0
IsLaidOut printed output = words_of output ≡ words_of printed

-- what is written is laid out as the tree, printed, that the passes made of one that was read of the text
pub record IsOptimisedOutput (reads : Reads) (prints : Prints) (m : Meaning) (ran : ℕ → Tree → Tree → IRStatus → Type 0) (text output : List ℕ) : Type 0 where
  pub printed : List ℕ
  pub status : IRStatus
  pub made : IsOptimised reads prints m ran text (printed ++ status_line status)
  pub laid : IsLaidOut printed output

-- how optimising a text by these passes ends: with 3 only where each run of a pass is verified, and nothing is to be
-- written
abbrev pub EndsOptimised : Reads → Prints → TextFaults → Meaning → (ran : ℕ → Tree → Tree → IRStatus → Type 0) → (verifies : Bool) → (text : List ℕ) → Outcome → Type 0
EndsOptimised reads prints faults m ran verifies text o = EndsEither (faults text) (IsOptimisedOutput reads prints m ran text o.output.items) (IsTrue verifies × (o.output.items ≡ [])) o

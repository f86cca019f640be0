-- How a program ends: its status, and what it has written.
use Rattle.std.specs.Prelude.{◌≡◌, ℕ, List, ◌++◌, Option, IfSome}
use Rattle.std.specs.Io.KnownBytes.{Appends, Keeps}
use Rattle.pliron_driver.specs.declared.program.failure.Failure.{Failure}
use Rattle.pliron_driver.specs.declared.program.failure.Failure.TheVariants.{Arguments, Reading, Text, Refused, Writing}

abbrev pub exit_status : Failure → ℕ
exit_status Arguments = 2
exit_status Reading = 2
exit_status Text = 2
exit_status (Refused e) = 1
exit_status Writing = 2

-- the text is all that was left to be read, where that is known
abbrev pub IsRestOfInput : Option (List ℕ) → List ℕ → Type 0
IsRestOfInput known text = IfSome known (λ bytes. bytes ≡ text)

-- what was left to be read, where that is known, is answered so by what the words ask for
pub record IsAnswer {Command : Type 0} (asks : List (List ℕ) → Command → Type 0) (answers : Command → List ℕ → List ℕ → Type 0) (words : List (List ℕ)) (known : Option (List ℕ)) (answer : List ℕ) : Type 0 where
  pub command : Command
  pub text : List ℕ
  pub asked : asks words command
  pub whole : IsRestOfInput known text
  pub answered : answers command text answer

-- a first part of the answer was written
abbrev pub WritesPart : (before after : Option (List ℕ)) → List ℕ → Type 0
WritesPart before after answer = (first : List ℕ) × (rest : List ℕ) × (answer ≡ first ++ rest) × Appends before after first

-- the statuses, and what the writer holds after each, where that is known
pub data Ends (answers : List ℕ → Type 0) (before after : Option (List ℕ)) (status : ℕ) : Type 0 where
  Whole : (answer : List ℕ) → answers answer → status ≡ 0 → Appends before after answer → Ends answers before after status
  -- no answer is known: an allocation failed, or the optimisation gave up
  Refuses : status ≡ 1 → Keeps before after → Ends answers before after status
  -- no answer is known: the words are not understood, nothing can be read, or the text is unreadable
  Faults : status ≡ 2 → Keeps before after → Ends answers before after status
  -- the answer is known, and writing it failed
  Part : (answer : List ℕ) → answers answer → status ≡ 2 → WritesPart before after answer → Ends answers before after status

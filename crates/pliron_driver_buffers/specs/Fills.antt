-- What a call leaves in its caller's buffer, and what it reports.
use Rattle.std.specs.Prelude.{◌≡◌, ◌<◌, ◌≤◌, ℕ, List, ◌++◌, length, drop}
use Rattle.pliron_driver_buffers.specs.declared.status.CallFailure.{CallFailure}
use Rattle.pliron_driver_buffers.specs.declared.status.Status.{Status}
use Rattle.pliron_driver_buffers.specs.declared.status.Status.TheVariants.{Answered, TooSmall}
use Rattle.pliron_driver_buffers.specs.Statuses.{status_of_failure, number_of_status}

-- the buffer before and after, the length that is reported, and the status, of a call that knows such an answer or
-- failed so
pub data Fills (answers : List ℕ → Type 0) (fails : CallFailure → Type 0) (before after : List ℕ) (needed : ℕ) (status : Status) : Type 0 where
  -- the whole answer is at the buffer's start; what was behind that is unchanged
  Whole : (answer : List ℕ) → answers answer → status ≡ Answered → needed ≡ length answer → length answer ≤ length before → after ≡ answer ++ drop (length answer) before → Fills answers fails before after needed status
  -- the answer is longer than the buffer, in which nothing changed
  Short : (answer : List ℕ) → answers answer → status ≡ TooSmall → needed ≡ length answer → length before < length answer → after ≡ before → Fills answers fails before after needed status
  -- no answer is known, and nothing changed in the buffer
  Fails : (failure : CallFailure) → fails failure → status ≡ status_of_failure failure → needed ≡ 0 → after ≡ before → Fills answers fails before after needed status

-- the same of the number by which other languages know the status
pub record FillsBy (answers : List ℕ → Type 0) (fails : CallFailure → Type 0) (before after : List ℕ) (needed number : ℕ) : Type 0 where
  pub status : Status
  pub numbered : number ≡ number_of_status status
  pub fills : Fills answers fails before after needed status

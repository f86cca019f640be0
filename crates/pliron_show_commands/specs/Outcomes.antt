-- How a command ends.
use Rattle.std.specs.Prelude.{◌≡◌, [], string_bytes}
use Rattle.pliron_show_commands.specs.Reports.{TellsRefusal}
use Rattle.pliron_show.specs.Faults.{Faults}
use Rattle.pliron_show_commands.specs.declared.outcome.Outcome.{Outcome}

-- memory or passes were refused, and the report says so: nothing is to be written
pub record IsRefused (o : Outcome) : Type 0 where
  pub status : o.status ≡ 1
  pub empty : o.output.items ≡ []
  pub told : TellsRefusal (string_bytes o.report)

module _ (faults : Faults) where
  -- without an answer: nothing is to be written
  pub data EndsBadly (o : Outcome) : Type 0 where
    Refuses : IsRefused o → EndsBadly o
    -- something can't be used, and the report is one of those that say so
    IsFaulty : o.status ≡ 2 → o.output.items ≡ [] → faults (string_bytes o.report) → EndsBadly o

  -- with 0 where this holds, with 3 where that does, or without an answer
  pub data EndsEither (this that : Type 0) (o : Outcome) : Type 0 where
    Says : this → o.status ≡ 0 → EndsEither this that o
    Denies : that → o.status ≡ 3 → EndsEither this that o
    Fails : EndsBadly o → EndsEither this that o

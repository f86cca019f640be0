-- How passes end on texts that may be unfit to run.
use Rattle.std.proofs.Common.{◌≡◌, ◌⊎◌, inl, inr, ℕ, Bool, List, IsTrue, Result, Ok, Err, IfOk}
use Rattle.pliron_laws.specs.Datum.{Meaning}
use Rattle.pliron_driver.specs.Answered.{Reads}
use Rattle.pliron_show_commands.specs.Parts.{IsFitByParts.AsAWhole, IsFitByParts.InParts}
use Rattle.pliron_show_commands.specs.CheckOutcome.{IsWholeText, IsTextOfParts, IsFitText}
use Rattle.pliron_show_commands.specs.declared.outcome.Outcome.{Outcome}

-- where no pass ran
strictly : (A B : Outcome → Type 0) (strict : Bool) → IsTrue strict → (o : Outcome) → A o ⊎ B o → A o ⊎ (IsTrue strict × B o)
strictly A B strict is o (inl a) = inl a
strictly A B strict is o (inr b) = inr (is, b)

module _ {X : Type 0} where
  -- it ends so, or otherwise
  pub either_way : (A B : Outcome → Type 0) (r : Result Outcome X) → IfOk r A → IfOk r (λ o. A o ⊎ B o)
  either_way A B (Ok o) a = inl a
  either_way A B (Err e) a = tt

  pub rejected_strictly : (A B : Outcome → Type 0) (strict : Bool) (r : Result Outcome X) → IsTrue strict → IfOk r (λ o. A o ⊎ B o) → IfOk r (λ o. A o ⊎ (IsTrue strict × B o))
  rejected_strictly A B strict (Ok o) is ends = strictly A B strict is o ends
  rejected_strictly A B strict (Err e) is ends = tt

  -- however it ends, this is so
  pub anyway : (A : Type 0) (r : Result Outcome X) → A → IfOk r (λ o. o.status ≡ 0 → A)
  anyway A (Ok o) a = λ e. a
  anyway A (Err e) a = tt

-- what is fit as a whole is fit by its parts
pub whole_fit : (reads : Reads) (m : Meaning) (text : List ℕ) → IsWholeText reads m text → IsFitText reads m text
whole_fit reads m text whole = record { tree = whole.tree; root = whole.root; read = whole.read; fit = AsAWhole whole.fit }

-- and so is a container whose parts are
pub parts_fit : (reads : Reads) (m : Meaning) (text : List ℕ) → IsTextOfParts reads m text → IsFitText reads m text
parts_fit reads m text of = record { tree = of.tree; root = of.root; read = of.read; fit = InParts of.container of.parts }

-- What is reported of a text that was read, for proofs inside the crate.
use Rattle.std.specs.Prelude.{ℕ, List}
use Rattle.pliron_laws.specs.Datum.{Meaning}
use Rattle.pliron_driver.specs.Answered.{Reads}
use Rattle.pliron_show_commands.specs.CheckOutcome.{IsWholeText, IsTextOfParts, IsUnfitText}
use Rattle.pliron_show_commands.specs.declared.checking.Finding.{Finding}
use Rattle.pliron_show_commands.specs.declared.checking.Finding.TheVariants.{Whole, ByParts, Wrong}

abbrev pub IsFinding : Reads → Meaning → (text : List ℕ) → Finding → Type 0
IsFinding reads m text Whole = IsWholeText reads m text
IsFinding reads m text ByParts = IsTextOfParts reads m text
IsFinding reads m text (Wrong reported) = IsUnfitText reads m text

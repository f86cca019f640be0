-- What stops reading.
use Rattle.std.specs.Prelude.{◌≡◌, ℕ, List, ⊤}
use Rattle.pliron_text_llvm_syntax.specs.Tokens.{IsFaultIn}
use Rattle.pliron_text_llvm_syntax.specs.declared.fault.LlvmFault.TheVariants.{NoMemory}
use Rattle.pliron_text_llvm_reader.specs.declared.stop.StatementStop.{StatementStop}
use Rattle.pliron_text_llvm_reader.specs.declared.stop.StatementStop.TheVariants.{Kept, Broken}

-- the statement isn't in the table, or memory lacks
abbrev pub IsUnread : StatementStop → Type 0
IsUnread (Kept reason) = ⊤
IsUnread (Broken fault) = fault ≡ NoMemory

-- the statement isn't in the table, memory lacks, or something else was expected at a byte of the text, or at its end
abbrev pub IsStopIn : List ℕ → StatementStop → Type 0
IsStopIn text (Kept reason) = ⊤
IsStopIn text (Broken fault) = IsFaultIn text fault

-- What stops reading.
use Rattle.std.proofs.Common.{◌≡◌, ℕ, List, sym, subst, refl}
use Rattle.pliron_text_llvm_syntax.specs.Tokens.{IsFaultIn}
use Rattle.pliron_text_llvm_syntax.specs.declared.fault.LlvmFault.{LlvmFault}
use Rattle.pliron_text_llvm_syntax.specs.declared.fault.LlvmFault.TheVariants.{NoMemory}
use Rattle.pliron_text_llvm_reader.specs.declared.stop.StatementStop.{StatementStop}
use Rattle.pliron_text_llvm_reader.specs.declared.stop.StatementStop.TheVariants.{Kept, Broken}
use Rattle.pliron_text_llvm_reader.specs.Stops.{IsUnread, IsStopIn}

pub fault_memory : (text : List ℕ) (fault : LlvmFault) → fault ≡ NoMemory → IsFaultIn text fault
fault_memory text fault e = subst (IsFaultIn text) (sym e) tt

pub unread_memory : (stop : StatementStop) → stop ≡ Broken NoMemory → IsUnread stop
unread_memory stop e = subst IsUnread (sym e) refl

-- what is unread stops in every text
pub stop_unread : (text : List ℕ) (stop : StatementStop) → IsUnread stop → IsStopIn text stop
stop_unread text (Kept reason) h = tt
stop_unread text (Broken fault) h = fault_memory text fault h

pub stop_fault : (text : List ℕ) (stop : StatementStop) (fault : LlvmFault) → stop ≡ Broken fault → IsFaultIn text fault → IsStopIn text stop
stop_fault text stop fault e h = subst (IsStopIn text) (sym e) h

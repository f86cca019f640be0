-- Faults of a text.
use Rattle.std.proofs.Common.{◌≡◌, ℕ, List, sym, subst}
use Rattle.pliron_text_llvm_syntax.specs.declared.fault.LlvmFault.{LlvmFault}
use Rattle.pliron_text_llvm_syntax.specs.declared.fault.LlvmFault.TheVariants.{NoMemory}
use Rattle.pliron_text_llvm_syntax.specs.Tokens.{IsFaultIn}

pub fault_memory : (text : List ℕ) (fault : LlvmFault) → fault ≡ NoMemory → IsFaultIn text fault
fault_memory text fault e = subst (IsFaultIn text) (sym e) tt

use Rattle.pliron_theory_llvm.proofs.LlvmOrder.{become_preorder, elements_preorder}
use Rattle.pliron_theory_llvm.proofs.LlvmMonotone.{llvm_monotone}
use Rattle.pliron_theory_llvm.proofs.llvm_is_monotone.Goals as goal

pub returns : goal.returns
returns c = record { orders = record { data_ordered = λ l mono. become_preorder l mono.flat; effects_ordered = λ l mono. elements_preorder l mono.flat }; law = llvm_monotone }

use Rattle.std.proofs.Common.{arith, rules}
use Rattle.std.proofs.lemmas.Grind.{common_steps}
use Rattle.pliron_text_llvm_trees.proofs.PassedLemmas.{passed_at}
use Rattle.pliron_text_llvm_trees.proofs.passed.value_for.Goals as goal

pub returns : goal.returns
returns c = first_of (search (rules, passed_at), grind (arith, common_steps, passed_at))

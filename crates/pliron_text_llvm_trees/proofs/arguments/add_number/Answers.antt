use Rattle.std.proofs.Common.{arith, rules}
use Rattle.pliron_text_llvm_trees.proofs.ArgumentLemmas.{number_put}
use Rattle.pliron_text_llvm_trees.proofs.arguments.add_number.Goals as goal

pub returns-in_ok-push : goal.returns-in_ok-push
returns-in_ok-push c = number_put (λ list. list.items) c.args.lists.now.items c.args.block c.args.number c.push.new.self c.index_mut.result.now (omega arith) (search rules)

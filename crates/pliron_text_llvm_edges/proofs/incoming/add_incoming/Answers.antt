use Rattle.std.proofs.Common.{arith, rules}
use Rattle.pliron_text_llvm_edges.proofs.IncomingLemmas.{incoming_put}
use Rattle.pliron_text_llvm_edges.proofs.incoming.add_incoming.Goals as goal

pub returns-in_ok-push : goal.returns-in_ok-push
returns-in_ok-push c = incoming_put (λ list. list.items) c.args.lists.now.items c.args.edge c.push.new.self c.index_mut.result.now (omega arith) (search rules)

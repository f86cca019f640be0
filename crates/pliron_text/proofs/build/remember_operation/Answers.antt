use Rattle.pliron_text.proofs.BuildLemmas.{adds-last}
use Rattle.pliron_text.proofs.build.remember_operation.Goals as goal

pub returns-in_err-remember_results-clause-operations : goal.returns-in_err-remember_results-clause-operations
returns-in_err-remember_results-clause-operations c = adds-last c.args.built.now.operations.items c.remember.new.table.items c.args.op c.in_ok-remember.ensures.ok

pub returns-clause-operations : goal.returns-clause-operations
returns-clause-operations c = adds-last c.args.built.now.operations.items c.remember.new.table.items c.args.op c.in_ok-remember.ensures.ok

use Rattle.pliron_core.specs.Tree.{regions_of}
use Rattle.std.proofs.Common.{arith}
use Rattle.pliron_evaluator.proofs.EvaluatorSteps.{entry_at, no_entry}
use Rattle.pliron_evaluator.proofs.evaluator.state.entry.Goals as goal

pub returns-then-i-num_region-clause-block : goal.returns-then-i-num_region-clause-block
returns-then-i-num_region-clause-block c =
    let t = c.args.ctx.now.tree in
    entry_at t (regions_of t c.args.op) c.args.i c.get_region.result c.get_head.result c.get_region.ensures.region c.get_region.ensures.liveness c.get_head.ensures.first

pub returns-else-i-num_region-clause-block : goal.returns-else-i-num_region-clause-block
returns-else-i-num_region-clause-block c =
    let t = c.args.ctx.now.tree in no_entry t (regions_of t c.args.op) c.args.i (omega arith)

use Rattle.std.proofs.Common.{◌∙◌}
use Rattle.pliron_core.specs.Tree.{successors_of}
use Rattle.pliron_laws.specs.Tree.{block_at, count_arguments}
use Rattle.pliron_evaluator.proofs.EvaluatorSteps.{block_count}
use Rattle.pliron_role_runs.proofs.ListReads.{map_more}
use Rattle.pliron_role_runs.proofs.counts.all_target_arguments.Goals as goal

pub loop-i-preserved : goal.loop-i-preserved
loop-i-preserved c =
    let t = c.args.ctx.now.tree in
    map_more (λ b. count_arguments (block_at t b)) (successors_of t c.args.op) c.loop-i.i c.get_successor.result c.num_argument.result c.loop-i.counts.items c.push.new.self.items c.get_successor.ensures.successor (c.num_argument.ensures ∙ block_count t c.get_successor.result c.get_successor.ensures.liveness) c.in_ok-push.ensures.items c.loop-i.invariant

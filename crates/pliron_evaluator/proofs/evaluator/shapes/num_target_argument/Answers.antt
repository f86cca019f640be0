use Rattle.std.proofs.Common.{sym, ◌∙◌, arith}
use Rattle.pliron_core.specs.Tree.{successors_of}
use Rattle.pliron_laws.specs.Tree.{block_at, count_arguments}
use Rattle.pliron_evaluator.proofs.EvaluatorSteps.{block_count, index-map, no_index-map}
use Rattle.pliron_evaluator.proofs.evaluator.shapes.num_target_argument.Goals as goal

pub returns-then-i-num_successor : goal.returns-then-i-num_successor
returns-then-i-num_successor c =
    let t = c.args.ctx.now.tree in
    c.num_argument.ensures ∙ block_count t c.get_successor.result c.get_successor.ensures.liveness ∙ sym (index-map (λ b. count_arguments (block_at t b)) (successors_of t c.args.op) c.args.i c.get_successor.result c.get_successor.ensures.successor)

pub returns-else-i-num_successor : goal.returns-else-i-num_successor
returns-else-i-num_successor c =
    let t = c.args.ctx.now.tree in sym (no_index-map (λ b. count_arguments (block_at t b)) (successors_of t c.args.op) c.args.i (omega arith))

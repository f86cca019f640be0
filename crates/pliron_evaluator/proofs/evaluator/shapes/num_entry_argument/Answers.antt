use Rattle.std.proofs.Common.{sym, ◌∙◌, arith}
use Rattle.pliron_core.specs.Tree.{regions_of}
use Rattle.pliron_laws.specs.Tree.{entry_block, count_arguments}
use Rattle.pliron_evaluator.proofs.EvaluatorSteps.{index-map, no_index-map}
use Rattle.pliron_evaluator.proofs.evaluator.shapes.num_entry_argument.Goals as goal

pub returns-then-i-num_region : goal.returns-then-i-num_region
returns-then-i-num_region c =
    let t = c.args.ctx.now.tree in
    c.num_region_argument.ensures ∙ sym (index-map (λ r. count_arguments (entry_block t r)) (regions_of t c.args.op) c.args.i c.get_region.result c.get_region.ensures.region)

pub returns-else-i-num_region : goal.returns-else-i-num_region
returns-else-i-num_region c =
    let t = c.args.ctx.now.tree in sym (no_index-map (λ r. count_arguments (entry_block t r)) (regions_of t c.args.op) c.args.i (omega arith))

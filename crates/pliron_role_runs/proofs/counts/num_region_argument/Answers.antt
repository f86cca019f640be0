use Rattle.std.proofs.Common.{sym, ap, ◌∙◌}
use Rattle.pliron_laws.specs.Tree.{and_block, count_arguments}
use Rattle.pliron_evaluator.proofs.EvaluatorSteps.{begins, block_count}
use Rattle.pliron_role_runs.proofs.counts.num_region_argument.Goals as goal

pub returns-in-Some : goal.returns-in-Some
returns-in-Some c =
    let t = c.args.ctx.now.tree in
    c.num_argument.ensures ∙ block_count t c.in-Some.block c.in-Some.ensures.liveness ∙ ap (λ o. count_arguments (and_block t o)) (sym c.in-Some.is) ∙ ap count_arguments (begins t c.args.region c.get_head.result c.requires c.get_head.ensures.first)

pub returns-in-None : goal.returns-in-None
returns-in-None c =
    let t = c.args.ctx.now.tree in
    ap (λ o. count_arguments (and_block t o)) (sym c.in-None.is) ∙ ap count_arguments (begins t c.args.region c.get_head.result c.requires c.get_head.ensures.first)

use Rattle.pliron_opt_inline.proofs.CalleeLemmas.{result_of_region, argument_of_region}
use Rattle.pliron_opt_inline.proofs.callee.is_defined_in.Goals as goal

pub returns-in-Result : goal.returns-in-Result
returns-in-Result c =
    let own = result_of_region c.args.ctx.now.tree c.well_formed-2.ensures.tree c.args.region c.args.value _ _ c.requires c.in-Result.ensures.definition in
    (λ e. own.0 (c.is_directly_in.ensures.0 e), λ i. c.is_directly_in.ensures.1 (own.1 i))

pub returns-in-Argument : goal.returns-in-Argument
returns-in-Argument c =
    let own = argument_of_region c.args.ctx.now.tree c.well_formed-2.ensures.tree c.args.region c.args.value _ _ c.requires c.in-Argument.ensures.definition in
    (λ e. own.0 (c.is_block_of.ensures.0 e), λ i. c.is_block_of.ensures.1 (own.1 i))

use Rattle.std.proofs.Common.{◌≡◌, rules, true≢false, sym}
use Rattle.pliron_opt_canonicalize.proofs.Putting.{is_result, no_result, result_is}
use Rattle.pliron_opt_canonicalize.proofs.sweep.is_result_of.Goals as goal

pub returns-in-Result : goal.returns-in-Result
returns-in-Result c = (
  λ e. result_is c.args.ctx.now.tree c.well_formed-2.ensures.tree c.args.value c.args.op c.in-Result.maker c.in-Result.field-1 c.requires c.in-Result.ensures.definition (search (rules, e)),
  λ i. let e : c.in-Result.maker ≡ c.args.op = is_result c.args.ctx.now.tree c.well_formed-2.ensures.tree c.args.value c.args.op c.in-Result.maker c.in-Result.field-1 c.in-Result.ensures.definition i in search (rules, e),
)

pub returns-in-Argument : goal.returns-in-Argument
returns-in-Argument c = (
  λ never. absurd (true≢false (sym never)),
  λ i. absurd (no_result c.args.ctx.now.tree c.well_formed-2.ensures.tree c.args.value c.args.op c.in-Argument.field-0 c.in-Argument.field-1 c.in-Argument.ensures.definition i),
)

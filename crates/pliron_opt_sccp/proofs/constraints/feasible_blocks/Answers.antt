use Rattle.std.proofs.Common.{◌∙◌, sym}
use Rattle.pliron_laws.proofs.Records.{op_shows}
use Rattle.pliron_opt_sccp.proofs.constraints.feasible_blocks.Goals as goal

pub returns-in_ok-blocks-clause-ok : goal.returns-in_ok-blocks-clause-ok
returns-in_ok-blocks-clause-ok g c = λ o e. (
  sym (c.folds_branch.ensures o.head (op_shows c.args.ctx.now.tree c.args.op o e).head) ∙ c.if-folds_branch.true,
  λ b. c.in_ok-blocks.ensures.ok o e b,
)

use Rattle.pliron_opt_dce.proofs.Reaches.{holds_up}
use Rattle.pliron_opt_dce.proofs.around.is_held_up_to.Goals as goal

pub returns : goal.returns
returns c = λ e. holds_up c.args.ctx.now.tree c.args.op c.args.top c.args.value c.args.user c.requires.live (c.is_within.ensures.0 c.if-not-is_within.false) (c.is_defined_inside.ensures.0 c.if-not-is_defined_inside.false) c.requires.used (c.is_apart.ensures e)

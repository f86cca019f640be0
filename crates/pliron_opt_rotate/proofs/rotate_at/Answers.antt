use Rattle.pliron_theory.proofs.WholeChanges.{whole_refl}
use Rattle.pliron_opt_rotate.proofs.rotate_at.Goals as goal

pub returns-in_err-planned-clause-change : goal.returns-in_err-planned-clause-change
returns-in_err-planned-clause-change g c = whole_refl g.D.HasMeaning.meaning c.args.ctx.now.tree c.args.op c.requires.live c.requires.linked

pub returns-in-None-clause-change : goal.returns-in-None-clause-change
returns-in-None-clause-change g c = whole_refl g.D.HasMeaning.meaning c.args.ctx.now.tree c.args.op c.requires.live c.requires.linked

pub returns-then-not-is_live-clause-change : goal.returns-then-not-is_live-clause-change
returns-then-not-is_live-clause-change g c = whole_refl g.D.HasMeaning.meaning c.args.ctx.now.tree c.args.op c.requires.live c.requires.linked

use Rattle.std.proofs.Common.{refl, subst}
use Rattle.pliron_core.specs.Tree.{HoldsBlock, parent_of}
use Rattle.pliron_core.proofs.PlacedLemmas.{taken_outside}
use Rattle.pliron_core.proofs.context.place.move_last.Goals as goal

pub place_last-requires-clause-outside : goal.place_last-requires-clause-outside
place_last-requires-clause-outside c h = c.requires.outside (taken_outside c.args.ctx.now.tree c.args.op (parent_of c.args.ctx.now.tree c.args.op) c.args.block refl (subst (λ v. HoldsBlock v.tree c.args.op c.args.block) c.take_out.ensures h))

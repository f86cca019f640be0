use Rattle.pliron_text.specs.Building.{AreLive, BuildingContinues}
use Rattle.pliron_text.specs.Laid.{HasMoreSuccessors}
use Rattle.pliron_text.proofs.build.add_successors.Given as goal

abbrev pub invariant-loop-number : goal.invariant-loop-number
invariant-loop-number l = BuildingContinues l.fn.ctx.tree l.built l.ctx.tree l.built × AreLive l.ctx.tree l.built × HasMoreSuccessors l.built l.fn.ctx.tree l.ctx.tree l.op l.number-index l.successors

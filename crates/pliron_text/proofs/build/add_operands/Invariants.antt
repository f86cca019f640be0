use Rattle.pliron_core.specs.Tree.{IsLive}
use Rattle.pliron_text.specs.Building.{AreLive, BuildingContinuesAt}
use Rattle.pliron_text.specs.Laid.{HasMoreOperands}
use Rattle.pliron_text.proofs.build.add_operands.Given as goal

abbrev pub invariant-loop-number : goal.invariant-loop-number
invariant-loop-number l = BuildingContinuesAt l.op l.fn.ctx.tree l.built l.ctx.tree l.built × AreLive l.ctx.tree l.built × IsLive l.ctx.tree l.op × HasMoreOperands l.fn.ctx.tree l.ctx.tree l.op l.number-index

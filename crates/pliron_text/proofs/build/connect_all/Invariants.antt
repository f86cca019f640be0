use Rattle.pliron_text.specs.Building.{AreLive, BuildingContinues}
use Rattle.pliron_text.specs.Laid.{Wires}
use Rattle.pliron_text.proofs.build.connect_all.Given as goal

abbrev pub invariant-loop-number : goal.invariant-loop-number
invariant-loop-number l = BuildingContinues l.fn.ctx.tree l.built l.ctx.tree l.built × AreLive l.ctx.tree l.built × Wires l.syntax 0 l.number l.fn.ctx.tree l.ctx.tree l.built

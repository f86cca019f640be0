use Rattle.std.proofs.Common.{drop}
use Rattle.pliron_text.specs.declared.syntax.MadeCounts.{MadeCounts}
use Rattle.pliron_text.specs.Notation.{IsOrdered}
use Rattle.pliron_text.specs.Building.{AreLive, BuildingContinues, HasMade}
use Rattle.pliron_text.specs.Laid.{LaysOn}
use Rattle.pliron_text.proofs.build.make_all.Given as goal

abbrev pub invariant-loop-step : goal.invariant-loop-step
invariant-loop-step l = BuildingContinues l.fn.ctx.tree l.fn.built l.ctx.tree l.built × AreLive l.ctx.tree l.built × ((m : MadeCounts) × HasMade l.built m × IsOrdered l.syntax m (drop l.step-index l.syntax.steps.items)) × LaysOn l.syntax l.fn.ctx.tree l.fn.built l.ctx.tree l.built

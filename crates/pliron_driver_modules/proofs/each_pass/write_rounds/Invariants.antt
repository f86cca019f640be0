use Rattle.pliron_core.specs.Tree.{IsLive}
use Rattle.pliron_laws.specs.Linked.{IsWellLinked}
use Rattle.pliron_driver_modules.proofs.each_pass.write_rounds.Given as goal

abbrev pub invariant-loop : goal.invariant-loop
invariant-loop g l = IsLive l.ctx.tree l.loaded.root × IsWellLinked g.N.D.HasMeaning.meaning l.ctx.tree l.loaded.root

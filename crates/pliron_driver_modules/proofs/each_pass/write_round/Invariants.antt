use Rattle.pliron_core.specs.Tree.{IsLive}
use Rattle.pliron_laws.specs.Linked.{IsWellLinked}
use Rattle.pliron_driver_modules.proofs.each_pass.write_round.Given as goal

abbrev pub invariant-loop-name : goal.invariant-loop-name
invariant-loop-name g l = IsLive l.ctx.tree l.loaded.root × IsWellLinked g.N.D.HasMeaning.meaning l.ctx.tree l.loaded.root

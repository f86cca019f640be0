use Rattle.std.specs.Prelude.{IfSome}
use Rattle.pliron_core.specs.Tree.{IsBlock}
use Rattle.pliron_driver_instrument.proofs.contents_count.ContentsCount.add_region.Given as goal

abbrev pub invariant-loop : goal.invariant-loop
invariant-loop l = IfSome l.at (λ b. IsBlock l.ctx.tree b)

use Rattle.std.specs.Prelude.{IfSome}
use Rattle.pliron_core.specs.Tree.{IsBlock}
use Rattle.pliron_text.proofs.printer.Printer.number_blocks.Given as goal

abbrev pub invariant-loop-number : goal.invariant-loop-number
invariant-loop-number l = IfSome l.next (λ b. IsBlock l.ctx.tree b)

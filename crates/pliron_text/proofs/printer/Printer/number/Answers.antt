use Rattle.std.proofs.Common.{sym, subst}
use Rattle.pliron_text.specs.Printing.{IsStepLive}
use Rattle.pliron_text.proofs.CheckLemmas.{stand-at}
use Rattle.pliron_text.proofs.printer.Printer.number.Goals as goal

pub number_step-requires : goal.number_step-requires
number_step-requires g c = subst (IsStepLive c.args.ctx.now.tree) (sym c.step-item.is) (stand-at c.args.ctx.now.tree c.args.steps.now c.loop-step.step-index c.step-item.result c.requires c.loop-step-test.true)

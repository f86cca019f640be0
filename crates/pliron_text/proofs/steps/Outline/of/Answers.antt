use Rattle.std.proofs.Common.{sym, subst}
use Rattle.std.specs.Prelude.{IfSome}
use Rattle.pliron_text.specs.Printing.{AreStepsLive, IsStepLive}
use Rattle.pliron_text.proofs.CheckLemmas.{stand-more}
use Rattle.pliron_text.proofs.steps.Outline.of.Goals as goal

pub loop-init : goal.loop-init
loop-init c = (subst (AreStepsLive c.args.ctx.now.tree) (sym c.new-steps.ensures.items) tt, c.requires)

pub step_after-next-requires : goal.step_after-next-requires
step_after-next-requires c = subst (λ next. IfSome next (λ step. IsStepLive c.args.ctx.now.tree step)) c.in-Some.is c.loop.invariant.1

pub loop-preserved : goal.loop-preserved
loop-preserved c =
    let t = c.args.ctx.now.tree in
    let liveness : IsStepLive t c.in-Some.step = subst (λ next. IfSome next (λ step. IsStepLive t step)) c.in-Some.is c.loop.invariant.1 in
    (subst (AreStepsLive t) (sym c.in_ok-push-in-Some.ensures.items) (stand-more t c.loop.steps.items c.in-Some.step c.loop.invariant.0 liveness), c.step_after-next.ensures)

pub returns : goal.returns
returns c = c.loop.invariant.0

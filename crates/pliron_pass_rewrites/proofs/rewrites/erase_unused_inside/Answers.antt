use Rattle.std.proofs.Common.{ap}
use Rattle.std.proofs.lemmas.Result.{IfOk-weaker}
use Rattle.pliron_core.proofs.StandingLemmas.{inside_live}
use Rattle.pliron_pass_rewrites.proofs.InsideRewrites.{err_weaker, erased_same, erased_passes}
use Rattle.pliron_pass_rewrites.proofs.rewrites.erase_unused_inside.Goals as goal

pub erase_unused-erased-requires-clause-live : goal.erase_unused-erased-requires-clause-live
erase_unused-erased-requires-clause-live g c = (inside_live c.args.ctx.now.tree c.well_formed-2.ensures.tree.joined c.requires.inside).1

pub returns-clause-change : goal.returns-clause-change
returns-clause-change g c =
    let r = c.erase_unused-erased in
    erased_passes g.D.HasMeaning.meaning c.args.ctx.now.tree r.new.ctx.tree c.args.holder c.args.op c.well_formed-2.ensures.tree c.well_formed-3.ensures.tree c.requires.inside c.requires.contained c.requires.linked r.ensures.runs g.D.SideEffects.side_effects r.result r.ensures.ok (err_weaker r.result (λ e. ap (λ z. z.tree) e) r.ensures.refused)

pub returns-clause-same : goal.returns-clause-same
returns-clause-same g c =
    let r = c.erase_unused-erased in
    IfOk-weaker r.result _ _ (λ status is. erased_same g.D.SideEffects.side_effects c.args.op c.args.ctx.now.tree r.new.ctx.tree status is) r.ensures.ok

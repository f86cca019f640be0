use Rattle.pliron_opt_dce.proofs.CandidateLemmas.{all_ready, ok_weaker}
use Rattle.pliron_opt_dce.proofs.Progress.{tells_dead, tells_same}
use Rattle.pliron_opt_dce.proofs.dce_with_regions.Goals as goal

pub sweep-requires-clause-all : goal.sweep-requires-clause-all
sweep-requires-clause-all g c = all_ready g.D.HasMeaning.meaning g.D.SideEffects.side_effects g.D.BlockArgRemoval.removable c.args.ctx.now.tree c.args.op c.in_ok-worklist.worklist.items c.in_ok-worklist.ensures

pub returns-clause-status : goal.returns-clause-status
returns-clause-status g c =
    let way = c.sweep.ensures.deleted in
    ok_weaker c.sweep.result _ _ (λ a end. tells_dead _ _ _ _ g.met.D.Dialect.forwards_operands (λ h h' s. s.branch) g.met.D.Dialect.keeps_counts g.D.SideEffects.side_effects g.met.D.Dialect.gives_at_once g.D.BlockArgRemoval.removable g.met.D.Dialect.acts_without_argument c.args.ctx.now.tree c.sweep.new.ctx.tree c.args.op way.0 a.0 way.1 end.0 end.1) way.2

pub returns-clause-accurate : goal.returns-clause-accurate
returns-clause-accurate g c =
    let way = c.sweep.ensures.deleted in
    ok_weaker c.sweep.result _ _ (λ a end. tells_same _ _ _ _ g.met.D.Dialect.forwards_operands (λ h h' s. s.branch) g.met.D.Dialect.keeps_counts g.D.SideEffects.side_effects g.met.D.Dialect.gives_at_once g.D.BlockArgRemoval.removable g.met.D.Dialect.acts_without_argument c.args.ctx.now.tree c.sweep.new.ctx.tree c.args.op way.0 a.0 way.1 end.0 end.1) way.2

pub returns-clause-deleted : goal.returns-clause-deleted
returns-clause-deleted g c =
    let way = c.sweep.ensures.deleted in
    (way.0, way.1.went, way.1.dead, ok_weaker c.sweep.result _ _ (λ a end. end.2) way.2)

use Rattle.std.proofs.Common.{refl, arith}
use Rattle.pliron_laws.proofs.AnswerLemmas.{no, refuted}
use Rattle.pliron_opt_dce.proofs.LeafLemmas.{leaf_contained}
use Rattle.pliron_opt_dce.specs.Readiness.{IsReadyOperation}
use Rattle.pliron_opt_dce.proofs.ReadyTests.{ready_told, ready_unheld, ready_unused}
use Rattle.pliron_opt_dce.proofs.TakeLemmas.{op_live, op_contained}
use Rattle.pliron_opt_dce.proofs.ready.is_ready_operation.Goals as goal

pub returns-then-not-is_live : goal.returns-then-not-is_live
returns-then-not-is_live g c = no (IsReadyOperation g.D.HasMeaning.meaning g.D.SideEffects.side_effects c.args.ctx.now.tree c.args.root c.args.op) (λ r. refuted c.is_live.result c.if-not-is_live.true (c.is_live.ensures.1 (op_live g.D.HasMeaning.meaning g.D.SideEffects.side_effects c.args.ctx.now.tree c.args.root c.args.op c.well_formed-2.ensures.tree c.requires.linked g.met.D.Dialect.keeps_counts g.D.BlockArgRemoval.removable g.met.D.Dialect.gives_at_once r)))

pub returns-then-is_kept_alive : goal.returns-then-is_kept_alive
returns-then-is_kept_alive g c = no (IsReadyOperation g.D.HasMeaning.meaning g.D.SideEffects.side_effects c.args.ctx.now.tree c.args.root c.args.op) (λ r. ready_unheld g.D.HasMeaning.meaning g.D.SideEffects.side_effects c.args.ctx.now.tree c.args.root c.args.op r (c.is_kept_alive.ensures c.if-is_kept_alive.true))

pub returns-then-not-is_unused : goal.returns-then-not-is_unused
returns-then-not-is_unused g c = no (IsReadyOperation g.D.HasMeaning.meaning g.D.SideEffects.side_effects c.args.ctx.now.tree c.args.root c.args.op) (λ r. refuted c.is_unused.result c.if-not-is_unused.true (c.is_unused.ensures.1 (ready_unused g.D.HasMeaning.meaning g.D.SideEffects.side_effects c.args.ctx.now.tree c.args.root c.args.op r)))

pub returns : goal.returns
returns g c = (
  (λ e. ready_told g.D.HasMeaning.meaning g.D.SideEffects.side_effects c.args.ctx.now.tree c.args.root c.args.op c.well_formed-2.ensures.tree (c.is_inside.ensures.0 c.if-not-is_inside.false) (c.is_harmless.ensures.0 c.if-not-is_harmless.false) (c.is_unused.ensures.0 c.if-not-is_unused.false) (c.is_self_contained.ensures.0 e)),
  (λ r. c.is_self_contained.ensures.1 (op_contained g.D.HasMeaning.meaning g.D.SideEffects.side_effects c.args.ctx.now.tree c.args.root c.args.op c.well_formed-2.ensures.tree c.requires.linked g.met.D.Dialect.keeps_counts g.D.BlockArgRemoval.removable g.met.D.Dialect.gives_at_once r)),
)

pub returns-then-num_region-eq0 : goal.returns-then-num_region-eq0
returns-then-num_region-eq0 g c = (
  (λ e. ready_told g.D.HasMeaning.meaning g.D.SideEffects.side_effects c.args.ctx.now.tree c.args.root c.args.op c.well_formed-2.ensures.tree (c.is_inside.ensures.0 c.if-not-is_inside.false) (c.is_harmless.ensures.0 c.if-not-is_harmless.false) (c.is_unused.ensures.0 c.if-not-is_unused.false)
      (leaf_contained c.args.ctx.now.tree c.well_formed-2.ensures.tree c.args.op (omega (arith, c.num_region.ensures, c.if-num_region-eq0.true)) (c.is_unused.ensures.0 c.if-not-is_unused.false))),
  (λ r. refl),
)

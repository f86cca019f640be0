use Rattle.std.proofs.Common.{◌++◌, map, subst}
use Rattle.pliron_opt_dce.specs.declared.worklist.DeadCandidate.TheVariants.{Operation}
use Rattle.pliron_opt_dce.specs.Worklist.{KeepsReady}
use Rattle.pliron_opt_dce.proofs.WorkLemmas.{around_ready}
use Rattle.pliron_opt_dce.proofs.worklist.begin_around.Goals as goal

pub returns-clause-kept : goal.returns-clause-kept
returns-clause-kept g c root = around_ready g.D.HasMeaning.meaning g.D.SideEffects.side_effects g.D.BlockArgRemoval.removable c.args.ctx.now.tree root (map (λ k. Operation k) c.args.worklist.now.around.ops.items) c.args.worklist.now.later.items c.args.worklist.now.round.items c.push_unheld.new.round.items (map (λ k. Operation k) c.clear.new.self.ops.items) (subst (λ z. KeepsReady g.D.HasMeaning.meaning g.D.SideEffects.side_effects g.D.BlockArgRemoval.removable c.args.ctx.now.tree root (map (λ k. Operation k) z ++ c.args.worklist.now.round.items) c.push_unheld.new.round.items) c.deref.ensures.value (c.in_ok-push_unheld.ensures root))

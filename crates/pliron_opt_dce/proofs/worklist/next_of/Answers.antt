use Rattle.std.proofs.Common.{map}
use Rattle.pliron_opt_dce.specs.declared.worklist.DeadCandidate.TheVariants.{Operation}
use Rattle.pliron_opt_dce.proofs.WorkLemmas.{next_kept, none_kept}
use Rattle.pliron_opt_dce.proofs.worklist.next_of.Goals as goal

pub returns-clause-kept : goal.returns-clause-kept
returns-clause-kept g c = next_kept g.D.HasMeaning.meaning g.D.SideEffects.side_effects g.D.BlockArgRemoval.removable c.args.ctx.now.tree c.args.root (map (λ k. Operation k) c.args.worklist.now.around.ops.items) c.args.worklist.now.later.items c.args.worklist.now.round.items c.next_in_round.new.round.items c.next_in_round.result c.next_in_round.ensures.kept

pub returns-clause-none : goal.returns-clause-none
returns-clause-none g c = none_kept g.D.HasMeaning.meaning g.D.SideEffects.side_effects g.D.BlockArgRemoval.removable c.args.ctx.now.tree c.args.root (map (λ k. Operation k) c.args.worklist.now.around.ops.items) c.args.worklist.now.later.items c.args.worklist.now.round.items c.next_in_round.new.round.items c.next_in_round.result c.next_in_round.ensures.none

use Rattle.std.proofs.Common.{◌++◌, sym, subst, map}
use Rattle.pliron_opt_dce.specs.declared.worklist.DeadCandidate.TheVariants.{Operation}
use Rattle.pliron_opt_dce.specs.Readiness.{Among}
use Rattle.pliron_opt_dce.specs.Worklist.{items_of}
use Rattle.pliron_opt_dce.proofs.WorkLemmas.{among_permuted, later_kept}
use Rattle.pliron_opt_dce.proofs.worklist.begin_round.Goals as goal

pub returns-clause-kept : goal.returns-clause-kept
returns-clause-kept g c =
    later_kept g.D.HasMeaning.meaning g.D.SideEffects.side_effects g.D.BlockArgRemoval.removable c.args.ctx.now.tree c.args.root (map (λ k. Operation k) c.args.worklist.now.around.ops.items) c.args.worklist.now.later.items c.args.worklist.now.round.items c.put_arguments_last.new.candidates.items _
    (λ x r i.
    among_permuted x c.push_ready.new.round.items c.put_arguments_last.new.candidates.items c.in_ok-put_arguments_last.ensures
    (c.in_ok-push_ready.ensures x r (subst (λ z. Among x (items_of (z ++ c.args.worklist.now.round.items))) (sym c.deref.ensures.value) i)))

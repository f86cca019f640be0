use Rattle.std.proofs.Common.{◌≡◌, sym, ap, ◌∙◌, subst}
use Rattle.pliron_core.specs.Tree.{IsLive}
use Rattle.pliron_core.specs.Invariant.{IsTree}
use Rattle.pliron_core.specs.Erased.{after_erasing, IsSelfContained}
use Rattle.pliron_theory.specs.Keeps.{KeepsRuns, with_roots}
use Rattle.pliron_rewrite_equals.specs.Merging.{after_merging}
use Rattle.pliron_rewrite_equals.proofs.Merging.{redundant_lives, merged_lives, contained_all, part_keeps, deleted}
use Rattle.pliron_rewrite_equals.proofs.rewrites.merge_into_leader.Goals as goal

pub num_result-requires : goal.num_result-requires
num_result-requires g c = redundant_lives g.D.SideEffects.side_effects c.args.ctx.now.tree c.args.leader c.args.redundant 0 c.well_formed-2.ensures.tree c.requires.leads

pub returns-in_err-hand_over-clause-runs : goal.returns-in_err-hand_over-clause-runs
returns-in_err-hand_over-clause-runs g c = part_keeps g.D.HasMeaning.meaning g.D.SideEffects.side_effects g.met.D.Dialect.keeps_counts g.met.D.Dialect.gives_at_once c.args.ctx.now.tree c.hand_over.new.ctx.tree c.args.leader c.args.redundant c.well_formed-2.ensures.tree c.requires.leads c.in_err-hand_over.ensures.err

pub erase_operation-requires-clause-live : goal.erase_operation-requires-clause-live
erase_operation-requires-clause-live g c = subst (λ z. IsLive z c.args.redundant) (sym c.in_ok-hand_over.ensures.ok) (merged_lives g.D.SideEffects.side_effects c.args.ctx.now.tree c.args.leader c.args.redundant c.well_formed-2.ensures.tree c.requires.leads)

pub erase_operation-requires-clause-contained : goal.erase_operation-requires-clause-contained
erase_operation-requires-clause-contained g c = subst (λ z. IsSelfContained z c.args.redundant) (sym c.in_ok-hand_over.ensures.ok) (contained_all g.D.SideEffects.side_effects c.args.leader c.args.redundant c.args.ctx.now.tree c.well_formed-2.ensures.tree c.requires.leads)

pub returns-clause-runs : goal.returns-clause-runs
returns-clause-runs g c = λ chosen.
    let e : c.erase_operation.new.ctx.tree ≡ after_merging c.args.ctx.now.tree c.args.leader c.args.redundant = c.erase_operation.ensures.erased ∙ ap (λ z. after_erasing z c.args.redundant) c.in_ok-hand_over.ensures.ok in
    subst (λ z. KeepsRuns (with_roots g.D.HasMeaning.meaning chosen) c.args.ctx.now.tree z) (sym e) (deleted g.D.HasMeaning.meaning g.D.SideEffects.side_effects g.met.D.Dialect.keeps_counts g.met.D.Dialect.gives_at_once c.args.ctx.now.tree c.args.leader c.args.redundant c.well_formed-2.ensures.tree (subst IsTree e c.well_formed-4.ensures.tree) c.requires.leads chosen)

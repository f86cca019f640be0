use Rattle.std.proofs.Common.{◌≡◌, ◌<◌, suc, length, Some, refl, sym, ap, ap₂, ◌∙◌, subst, arith, slice_get, ◌+◌}
use Rattle.std.proofs.lemmas.List.{take_all}
use Rattle.pliron_laws.proofs.FoldLemmas.{on_err}
use Rattle.pliron_core.specs.Tree.{IsLive, results_of}
use Rattle.pliron_core.specs.Writes.{after_replacing}
use Rattle.pliron_rewrite_equals.specs.Merging.{replaced_all, partly_merged}
use Rattle.pliron_rewrite_equals.proofs.Merging.{leader_lives, redundant_lives, partly_results, one_more, part_of}
use Rattle.pliron_rewrite_equals.proofs.rewrites.hand_over.Goals as goal

pub num_result-i-end-requires : goal.num_result-i-end-requires
num_result-i-end-requires g c = redundant_lives g.D.SideEffects.side_effects c.args.ctx.now.tree c.args.leader c.args.redundant 0 c.well_formed-2.ensures.tree c.requires.leads

pub loop-i-init : goal.loop-i-init
loop-i-init g c = record { tree = refl; point = refl }

pub get_result-old-requires-clause-live : goal.get_result-old-requires-clause-live
get_result-old-requires-clause-live g c = subst (λ z. IsLive z c.args.redundant) (sym c.loop-i.invariant.tree) (redundant_lives g.D.SideEffects.side_effects c.args.ctx.now.tree c.args.leader c.args.redundant c.loop-i.i c.well_formed-2.ensures.tree c.requires.leads)

pub get_result-old-requires-clause-index : goal.get_result-old-requires-clause-index
get_result-old-requires-clause-index g c =
    let e = c.num_result-i-end.ensures in
    let l = c.loop-i-test.true in
    let n : c.loop-i.i < length (results_of c.args.ctx.now.tree c.args.redundant) = omega (arith, e, l) in
    subst (λ z. c.loop-i.i < length z) (sym (partly_results c.args.ctx.now.tree c.args.leader c.args.redundant c.loop-i.i c.args.redundant) ∙ ap (λ z. results_of z c.args.redundant) (sym c.loop-i.invariant.tree)) n

pub get_result-new-requires-clause-live : goal.get_result-new-requires-clause-live
get_result-new-requires-clause-live g c = subst (λ z. IsLive z c.args.leader) (sym c.loop-i.invariant.tree) (leader_lives g.D.SideEffects.side_effects c.args.ctx.now.tree c.args.leader c.args.redundant c.loop-i.i c.well_formed-2.ensures.tree c.requires.leads)

pub get_result-new-requires-clause-index : goal.get_result-new-requires-clause-index
get_result-new-requires-clause-index g c =
    let e = c.num_result-i-end.ensures in
    let l = c.loop-i-test.true in
    let k = c.requires.leads.alike.results in
    let n : c.loop-i.i < length (results_of c.args.ctx.now.tree c.args.leader) = omega (arith, e, l, k) in
    subst (λ z. c.loop-i.i < length z) (sym (partly_results c.args.ctx.now.tree c.args.leader c.args.redundant c.loop-i.i c.args.leader) ∙ ap (λ z. results_of z c.args.leader) (sym c.loop-i.invariant.tree)) n

pub returns-in_err-replace_value_uses_with-clause-err : goal.returns-in_err-replace_value_uses_with-clause-err
returns-in_err-replace_value_uses_with-clause-err g c =
    let e = c.num_result-i-end.ensures in
    let l = c.loop-i-test.true in
    on_err _ c.from_residual.result (part_of c.args.ctx.now.tree c.replace_value_uses_with.new.ctx.tree c.args.leader c.args.redundant c.loop-i.i (omega (arith, e, l)) (ap (λ z. z.tree) c.in_err-replace_value_uses_with.ensures.err ∙ c.loop-i.invariant.tree))

pub returns-in_err-replace_value_uses_with-clause-point : goal.returns-in_err-replace_value_uses_with-clause-point
returns-in_err-replace_value_uses_with-clause-point g c = c.replace_value_uses_with.ensures.point ∙ c.loop-i.invariant.point

pub loop-i-preserved : goal.loop-i-preserved
loop-i-preserved g c =
    let old : slice_get (results_of c.args.ctx.now.tree c.args.redundant) c.loop-i.i ≡ Some c.get_result-old.result = ap (λ z. slice_get z c.loop-i.i) (sym (partly_results c.args.ctx.now.tree c.args.leader c.args.redundant c.loop-i.i c.args.redundant) ∙ ap (λ z. results_of z c.args.redundant) (sym c.loop-i.invariant.tree)) ∙ c.get_result-old.ensures.value in
    let new : slice_get (results_of c.args.ctx.now.tree c.args.leader) c.loop-i.i ≡ Some c.get_result-new.result = ap (λ z. slice_get z c.loop-i.i) (sym (partly_results c.args.ctx.now.tree c.args.leader c.args.redundant c.loop-i.i c.args.leader) ∙ ap (λ z. results_of z c.args.leader) (sym c.loop-i.invariant.tree)) ∙ c.get_result-new.ensures.value in
    let next : suc c.loop-i.i ≡ c.loop-i.i + 1 = omega arith in
    record { tree = c.in_ok-replace_value_uses_with.ensures.ok ∙ ap (λ z. after_replacing z c.get_result-old.result c.get_result-new.result) c.loop-i.invariant.tree ∙ sym (one_more c.args.ctx.now.tree (results_of c.args.ctx.now.tree c.args.redundant) (results_of c.args.ctx.now.tree c.args.leader) c.loop-i.i c.get_result-old.result c.get_result-new.result old new) ∙ ap (partly_merged c.args.ctx.now.tree c.args.leader c.args.redundant) next; point = c.replace_value_uses_with.ensures.point ∙ c.loop-i.invariant.point }

pub returns-clause-ok : goal.returns-clause-ok
returns-clause-ok g c =
    let e = c.num_result-i-end.ensures in
    let l = c.loop-i-test.false in
    let k = c.requires.leads.alike.results in
    c.loop-i.invariant.tree ∙ ap₂ (replaced_all c.args.ctx.now.tree) (take_all c.loop-i.i (results_of c.args.ctx.now.tree c.args.redundant) (omega (arith, e, l))) (take_all c.loop-i.i (results_of c.args.ctx.now.tree c.args.leader) (omega (arith, e, l, k)))

pub returns-clause-point : goal.returns-clause-point
returns-clause-point g c = c.loop-i.invariant.point

use Rattle.std.proofs.Common.{length, Some, slice_get, sym, ap, ◌∙◌, subst}
use Rattle.pliron_core.specs.Tree.{Tree, In, IsDefined, results_of, arguments_of}
use Rattle.pliron_rewrite_blocks.specs.Pairs.{forwarded_uses}
use Rattle.pliron_rewrite_calls.proofs.CallMade.{handed_back}
use Rattle.pliron_rewrite_calls.proofs.CallSteps.{result_defined, argument_defined, results_apart, arguments_apart, call_twins, results_unused, results_still, arguments_still, block_still}
use Rattle.pliron_rewrite_calls.proofs.HandedOver.{all_defined}
use Rattle.pliron_rewrite_calls.proofs.preparing.lead_to.Goals as goal

pub hand_over_all-requires-clause-olds : goal.hand_over_all-requires-clause-olds
hand_over_all-requires-clause-olds g c = λ v i. result_defined c.args.ctx.now.tree c.well_formed-2.ensures.tree c.args.call v (subst (In v) (c.as_slice.ensures.value ∙ c.in_ok-results.ensures) i)

pub hand_over_all-requires-clause-news : goal.hand_over_all-requires-clause-news
hand_over_all-requires-clause-news g c = λ v i. argument_defined c.args.ctx.now.tree c.well_formed-2.ensures.tree c.args.block v (subst (In v) (c.as_slice-2.ensures.value ∙ c.in_ok-arguments.ensures) i)

pub hand_over_all-requires-clause-long : goal.hand_over_all-requires-clause-long
hand_over_all-requires-clause-long g c = ap length (c.as_slice.ensures.value ∙ c.in_ok-results.ensures) ∙ c.requires.long ∙ sym (ap length (c.as_slice-2.ensures.value ∙ c.in_ok-arguments.ensures))

pub hand_over_all-requires-clause-apart : goal.hand_over_all-requires-clause-apart
hand_over_all-requires-clause-apart g c = λ i j v e f.
    let ys = sym (c.as_slice-2.ensures.value ∙ c.in_ok-arguments.ensures) in
    arguments_apart c.args.ctx.now.tree c.well_formed-2.ensures.tree c.args.block i j v (ap (λ xs. slice_get xs i) ys ∙ e) (ap (λ xs. slice_get xs j) ys ∙ f)

pub hand_over_all-requires-clause-unused : goal.hand_over_all-requires-clause-unused
hand_over_all-requires-clause-unused g c = λ v k i o. c.requires.unused v k (subst (In v) (c.as_slice-2.ensures.value ∙ c.in_ok-arguments.ensures) i) o

pub make_jump-requires-clause-values : goal.make_jump-requires-clause-values
make_jump-requires-clause-values g c = λ v i. all_defined c.args.ctx.now.tree c.hand_over_all.new.ctx.tree c.as_slice.result.now c.as_slice-2.result.now v c.hand_over_all.ensures.replaced (result_defined c.args.ctx.now.tree c.well_formed-2.ensures.tree c.args.call v (subst (In v) (c.as_slice-3.ensures.value ∙ c.in_ok-results.ensures) i))

pub make_jump-requires-clause-target : goal.make_jump-requires-clause-target
make_jump-requires-clause-target g c = block_still c.args.ctx.now.tree c.hand_over_all.new.ctx.tree c.args.block c.as_slice.result.now c.as_slice-2.result.now c.hand_over_all.ensures.replaced c.requires.block

-- ---- the way back

pub hand_over_all-requires-in-Err-clause-olds : goal.hand_over_all-requires-in-Err-clause-olds
hand_over_all-requires-in-Err-clause-olds g c = λ v i.
    argument_defined c.make_jump.new.ctx.tree c.well_formed-in-Err.ensures.tree c.args.block v
    (subst (In v) (sym (arguments_still c.args.ctx.now.tree c.hand_over_all.new.ctx.tree c.make_jump.new.ctx.tree c.args.block c.as_slice.result.now c.as_slice-2.result.now c.hand_over_all.ensures.replaced c.in-Err.ensures.refused))
    (subst (In v) (c.as_slice-in-Err.ensures.value ∙ c.in_ok-arguments.ensures) i))

pub hand_over_all-requires-in-Err-clause-news : goal.hand_over_all-requires-in-Err-clause-news
hand_over_all-requires-in-Err-clause-news g c = λ v i.
    result_defined c.make_jump.new.ctx.tree c.well_formed-in-Err.ensures.tree c.args.call v
    (subst (In v) (sym (results_still c.args.ctx.now.tree c.hand_over_all.new.ctx.tree c.make_jump.new.ctx.tree c.args.call c.as_slice.result.now c.as_slice-2.result.now c.hand_over_all.ensures.replaced c.in-Err.ensures.refused))
    (subst (In v) (c.as_slice-in-Err-2.ensures.value ∙ c.in_ok-results.ensures) i))

pub hand_over_all-requires-in-Err-clause-long : goal.hand_over_all-requires-in-Err-clause-long
hand_over_all-requires-in-Err-clause-long g c = ap length (c.as_slice-in-Err.ensures.value ∙ c.in_ok-arguments.ensures) ∙ sym c.requires.long ∙ sym (ap length (c.as_slice-in-Err-2.ensures.value ∙ c.in_ok-results.ensures))

pub hand_over_all-requires-in-Err-clause-apart : goal.hand_over_all-requires-in-Err-clause-apart
hand_over_all-requires-in-Err-clause-apart g c = λ i j v e f.
    let xs = sym (c.as_slice-in-Err-2.ensures.value ∙ c.in_ok-results.ensures) in
    results_apart c.args.ctx.now.tree c.well_formed-2.ensures.tree c.args.call i j v (ap (λ l. slice_get l i) xs ∙ e) (ap (λ l. slice_get l j) xs ∙ f)

pub hand_over_all-requires-in-Err-clause-unused : goal.hand_over_all-requires-in-Err-clause-unused
hand_over_all-requires-in-Err-clause-unused g c = λ v k i o.
    let e = c.hand_over_all.ensures.replaced
    ∙ ap (λ xs. forwarded_uses c.args.ctx.now.tree xs c.as_slice-2.result.now) (c.as_slice.ensures.value ∙ c.in_ok-results.ensures)
    ∙ ap (forwarded_uses c.args.ctx.now.tree (results_of c.args.ctx.now.tree c.args.call)) (c.as_slice-2.ensures.value ∙ c.in_ok-arguments.ensures) in
    results_unused c.args.ctx.now.tree c.hand_over_all.new.ctx.tree c.make_jump.new.ctx.tree c.well_formed-2.ensures.tree c.args.call c.args.block c.requires.long e c.in-Err.ensures.refused v k (subst (In v) (c.as_slice-in-Err-2.ensures.value ∙ c.in_ok-results.ensures) i) o

pub returns-clause-refused : goal.returns-clause-refused
returns-clause-refused g c =
    let t = c.args.ctx.now.tree in
    let xs = c.as_slice.ensures.value ∙ c.in_ok-results.ensures in
    let ys = c.as_slice-2.ensures.value ∙ c.in_ok-arguments.ensures in
    let xs' = c.as_slice-in-Err-2.ensures.value ∙ c.in_ok-results.ensures in
    let ys' = c.as_slice-in-Err.ensures.value ∙ c.in_ok-arguments.ensures in
    let e = c.hand_over_all.ensures.replaced ∙ ap (λ l. forwarded_uses t l c.as_slice-2.result.now) xs ∙ ap (forwarded_uses t (results_of t c.args.call)) ys in
    let f = c.hand_over_all-in-Err.ensures.replaced ∙ ap (λ l. forwarded_uses c.make_jump.new.ctx.tree l c.as_slice-in-Err-2.result.now) ys' ∙ ap (forwarded_uses c.make_jump.new.ctx.tree (arguments_of t c.args.block)) xs' in
    handed_back t c.hand_over_all.new.ctx.tree c.make_jump.new.ctx.tree c.hand_over_all-in-Err.new.ctx.tree (results_of t c.args.call) (arguments_of t c.args.block) (call_twins t c.well_formed-2.ensures.tree c.args.call c.args.block c.requires.long) c.requires.unused e c.in-Err.ensures.refused f

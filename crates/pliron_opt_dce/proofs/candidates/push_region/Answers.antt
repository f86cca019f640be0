use Rattle.std.proofs.Common.{◌<◌, Some, length, refl, sym, subst}
use Rattle.pliron_core.specs.Tree.{layout_of}
use Rattle.pliron_core.specs.WalkSteps.{rest_from}
use Rattle.pliron_laws.proofs.PassedLemmas.{ArePassed, passed_all, passed_start}
use Rattle.pliron_laws.proofs.EdgeLastLemmas.{layout_first, layout_placed, layout_smaller, layout_passed}
use Rattle.pliron_opt_dce.specs.Dead.{Arg}
use Rattle.pliron_opt_dce.specs.Worklist.{items_of}
use Rattle.pliron_opt_dce.proofs.CandidateLemmas.{HasArguments, passed_weaker}
use Rattle.pliron_opt_dce.proofs.candidates.push_region.Goals as goal

pub loop-at-init : goal.loop-at-init
loop-at-init c =
    let t = c.args.ctx.now.tree in
    let w = c.well_formed-2.ensures.tree in
    record {
      kept = λ x i. i;
      placed = λ b e. layout_first t w c.args.region c.get_head-at.result c.get_head-at.ensures.first b e;
      passed = passed_start (λ b. HasArguments t (items_of c.args.worklist.now.items) b) (layout_of t c.args.region) c.get_head-at.result c.get_head-at.ensures.first;
    }

pub loop-at-smaller : goal.loop-at-smaller
loop-at-smaller c =
    let t = c.args.ctx.now.tree in
    subst (λ o. length (rest_from c.get_next-at.result (layout_of t c.args.region)) < length (rest_from o (layout_of t c.args.region))) (sym c.in-Some.is)
    (layout_smaller t c.well_formed-2.ensures.tree c.args.region c.in-Some.block c.get_next-at.result (c.loop-at.invariant.placed c.in-Some.block c.in-Some.is) c.get_next-at.ensures.next)

pub loop-at-preserved : goal.loop-at-preserved
loop-at-preserved c =
    let t = c.args.ctx.now.tree in
    let w = c.well_formed-2.ensures.tree in
    let here = c.loop-at.invariant.placed c.in-Some.block c.in-Some.is in
    let adds = c.in_ok-push_arguments.ensures in
    let xs = layout_of t c.args.region in
    let before = subst (ArePassed (λ b. HasArguments t (items_of c.loop-at.worklist.items) b) xs) c.in-Some.is c.loop-at.invariant.passed in
    let more = passed_weaker (λ b. HasArguments t (items_of c.loop-at.worklist.items) b) (λ b. HasArguments t (items_of c.push_arguments.new.worklist.items) b) xs (Some c.in-Some.block) (λ b h v i. adds.kept (Arg v) (h v i)) before in
    record {
      kept = λ x i. adds.kept x (c.loop-at.invariant.kept x i);
      placed = layout_placed t w c.args.region c.in-Some.block c.get_next-at.result here c.get_next-at.ensures.next;
      passed = layout_passed t w (λ b. HasArguments t (items_of c.push_arguments.new.worklist.items) b) c.args.region c.in-Some.block c.get_next-at.result here c.get_next-at.ensures.next (λ v i. adds.added c.in-Some.block v refl i) more;
    }

pub returns : goal.returns
returns c =
    let t = c.args.ctx.now.tree in
    let all = subst (ArePassed (λ b. HasArguments t (items_of c.loop-at.worklist.items) b) (layout_of t c.args.region)) c.in_default.is c.loop-at.invariant.passed in
    record {
      kept = λ x i. c.loop-at.invariant.kept x i;
      added = λ b v e i. passed_all (λ b. HasArguments t (items_of c.loop-at.worklist.items) b) (layout_of t c.args.region) all b (c.well_formed-2.ensures.tree.layouts.listed b c.args.region e) v i;
    }

use Rattle.std.proofs.Common.{Some, slice_get, sym, ap, ◌∙◌, arith}
use Rattle.std.proofs.lemmas.Option.{slice_get_within}
use Rattle.pliron_core.specs.Tree.{regions_of}
use Rattle.pliron_core.proofs.HoldingLemmas.{some_is, slice_in}
use Rattle.pliron_opt_dce.specs.Dead.{Arg}
use Rattle.pliron_opt_dce.proofs.ReadyTests.{less_or_same}
use Rattle.pliron_opt_dce.proofs.CandidateLemmas.{region_of_held}
use Rattle.pliron_opt_dce.proofs.candidates.push_contents_of.Goals as goal

pub loop-i-preserved : goal.loop-i-preserved
loop-i-preserved c =
    let t = c.args.ctx.now.tree in
    let adds = c.in_ok-push_region.ensures in
    record {
      kept = λ x i. adds.kept x (c.loop-i.invariant.kept x i);
      added = λ j r b v l e p i. less_or_same c.loop-i.i j l
          (λ lt. adds.kept (Arg v) (c.loop-i.invariant.added j r b v lt e p i))
          (λ s. adds.added b v (p ∙ ap Some (sym (some_is (sym c.get_region.ensures.region ∙ ap (slice_get (regions_of t c.args.op)) (sym s) ∙ e)))) i);
    }

pub returns : goal.returns
returns c =
    let t = c.args.ctx.now.tree in
    record {
      kept = λ x i. c.loop-i.invariant.kept x i;
      added = λ b v held i.
          let r = region_of_held t c.well_formed-2.ensures.tree b c.args.op held in
          let p = slice_in (regions_of t c.args.op) r.0 r.2 in
          c.loop-i.invariant.added p.0 r.0 b v (let lt = slice_get_within (regions_of t c.args.op) p.0 r.0 p.1 in let e2 = c.num_region-i-end.ensures in let e3 = c.loop-i-test.false in omega (arith, lt, e2, e3)) p.1 r.1 i;
    }

use Rattle.std.proofs.Common.{⊎_elim, length, slice_get, refl, sym, ap, ◌∙◌, subst, arith, rules}
use Rattle.std.proofs.lemmas.Bool.{cases_eq}
use Rattle.std.proofs.lemmas.Option.{slice_get_read, slice_get_within}
use Rattle.pliron_core.specs.Tree.{In, IsLive}
use Rattle.pliron_core.proofs.HoldingLemmas.{some_is, in_slice, slice_in}
use Rattle.pliron_rewrite_rotation.specs.HeaderSteps.{IsEnteredHeader, IsLeadingIn}
use Rattle.pliron_rewrite_rotation.proofs.header.lead_all_in.Goals as goal

pub lead_in-requires : goal.lead_in-requires
lead_in-requires g c κs within =
    let h = c.loop-i-test.true in
    let at = slice_get_read c.args.entering.now (length c.args.entering.now) c.loop-i.i c.index-entering-i.result refl (omega (arith, h)) c.index-entering-i.is in
    let among : In c.index-entering-i.result g.x.entering = subst (In c.index-entering-i.result) (sym c.requires.1.1.0) (in_slice c.args.entering.now c.loop-i.i c.index-entering-i.result at) in
    let source : IsEnteredHeader g.x = c.requires.1.0 in
    let leading : IsLeadingIn g.x c.loop-i.ctx.tree = c.loop-i.invariant.leading in
    search rules

pub loop-i-preserved : goal.loop-i-preserved
loop-i-preserved g c =
    let h = c.loop-i-test.true in
    let at = slice_get_read c.args.entering.now (length c.args.entering.now) c.loop-i.i c.index-entering-i.result refl (omega (arith, h)) c.index-entering-i.is in
    record {
      tree = c.well_formed-in-loop-i.ensures.tree;
      leading = c.in_ok-lead_in.ensures.leading;
      gone = λ n k lt there live. ⊎_elim
          (λ e. c.in_ok-lead_in.ensures.not_live (subst (IsLive c.lead_in.new.ctx.tree) (some_is (sym there ∙ ap (slice_get c.args.entering.now) e ∙ at)) live))
          (λ ne. c.loop-i.invariant.gone n k (omega (arith, lt, ne)) there (c.in_ok-lead_in.ensures.live_before k (subst (In k) (sym c.requires.1.1.0) (in_slice c.args.entering.now n k there)) live))
          (cases_eq n c.loop-i.i);
      bound = (let old = c.loop-i.invariant.bound in let more = c.in_ok-lead_in.ensures.bound in omega (arith, old, more));
    }

pub returns-clause-none_live : goal.returns-clause-none_live
returns-clause-none_live g c = λ k i live.
    let past = c.loop-i-test.false in
    let s = slice_in c.args.entering.now k (subst (In k) c.requires.1.1.0 i) in
    let lt = slice_get_within c.args.entering.now s.0 k s.1 in
    c.loop-i.invariant.gone s.0 k (omega (arith, past, lt)) s.1 live

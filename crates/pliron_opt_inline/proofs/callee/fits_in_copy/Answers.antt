use Rattle.std.proofs.Common.{◌≡◌, [], length, arith, ap}
use Rattle.std.proofs.lemmas.Bool.{false≢true}
use Rattle.pliron_core.specs.Reads.{next_of}
use Rattle.pliron_core.specs.Tree.{regions_of}
use Rattle.pliron_laws.specs.Answers.{HeadPasses}
use Rattle.pliron_laws.proofs.AnswerLemmas.{no, refuted}
use Rattle.pliron_opt_inline.specs.Copying.{FitsInCopy, EndsCopyByHead}
use Rattle.pliron_opt_inline.proofs.CalleeLemmas.{by_next, no_length}
use Rattle.pliron_opt_inline.proofs.callee.fits_in_copy.Goals as goal

pub returns-then-num_region-ne0-clause-exact : goal.returns-then-num_region-ne0-clause-exact
returns-then-num_region-ne0-clause-exact g c =
    let t = c.args.ctx.now.tree in
    let D = g.D.InliningDialect in
    no (FitsInCopy (EndsCopyByHead D.returns D.stays D.closes t c.args.results) (λ k. HeadPasses D.stays t k) t c.args.region c.args.op)
    (λ fit. let none : length (regions_of t c.args.op) ≡ 0 = ap length fit.childless in absurd (omega (arith, none, c.num_region.ensures, c.if-num_region-ne0.true)))

pub returns-then-not-uses_values_of-clause-exact : goal.returns-then-not-uses_values_of-clause-exact
returns-then-not-uses_values_of-clause-exact g c =
    let t = c.args.ctx.now.tree in
    let D = g.D.InliningDialect in
    no (FitsInCopy (EndsCopyByHead D.returns D.stays D.closes t c.args.results) (λ k. HeadPasses D.stays t k) t c.args.region c.args.op)
    (λ fit. refuted c.uses_values_of.result c.if-not-uses_values_of.true (c.uses_values_of.ensures.1 fit.values))

pub returns-then-not-leads_to_blocks_of-clause-exact : goal.returns-then-not-leads_to_blocks_of-clause-exact
returns-then-not-leads_to_blocks_of-clause-exact g c =
    let t = c.args.ctx.now.tree in
    let D = g.D.InliningDialect in
    no (FitsInCopy (EndsCopyByHead D.returns D.stays D.closes t c.args.results) (λ k. HeadPasses D.stays t k) t c.args.region c.args.op)
    (λ fit. refuted c.leads_to_blocks_of.result c.if-not-leads_to_blocks_of.true (c.leads_to_blocks_of.ensures.1 fit.blocks))

pub returns-clause-exact : goal.returns-clause-exact
returns-clause-exact g c =
    let t = c.args.ctx.now.tree in
    let none : length (regions_of t c.args.op) ≡ 0 = omega (arith, c.num_region.ensures, c.if-num_region-ne0.false) in (
      λ e. record {
        childless = no_length (regions_of t c.args.op) none;
        values = c.uses_values_of.ensures.0 c.if-not-uses_values_of.false;
        blocks = c.leads_to_blocks_of.ensures.0 c.if-not-leads_to_blocks_of.false;
        ends = λ last. (c.may_stand.ensures.last last).0 e;
        stands = λ j behind. (c.may_stand.ensures.stays j behind).0 e;
      },
      λ fit. by_next (next_of t c.args.op) (λ last. (c.may_stand.ensures.last last).1 (fit.ends last)) (λ j behind. (c.may_stand.ensures.stays j behind).1 (fit.stands j behind)),
    )

pub returns-clause-fits : goal.returns-clause-fits
returns-clause-fits g c = λ e.
    let t = c.args.ctx.now.tree in
    let none : length (regions_of t c.args.op) ≡ 0 = omega (arith, c.num_region.ensures, c.if-num_region-ne0.false) in
    record {
      childless = no_length (regions_of t c.args.op) none;
      values = c.uses_values_of.ensures.0 c.if-not-uses_values_of.false;
      blocks = c.leads_to_blocks_of.ensures.0 c.if-not-leads_to_blocks_of.false;
      ends = λ last. c.may_stand.ensures.ends last e;
      stands = λ j behind. c.may_stand.ensures.leaves j behind e;
    }

use Rattle.std.proofs.Common.{◌≡◌, ◌<◌, length, Some, None, refl, sym, ◌∙◌, subst}
use Rattle.pliron_core.specs.Lists.{next_in}
use Rattle.pliron_core.specs.Tree.{IsLive, body_of}
use Rattle.pliron_core.specs.WalkSteps.{rest_from}
use Rattle.pliron_core.proofs.ContainedLemmas.{IsWalked, walk-first, walk-next, walk-smaller, walk-all, next_in_body}
use Rattle.pliron_laws.proofs.AnswerLemmas.{yes, no, refuted}
use Rattle.pliron_opt_inline.specs.Copying.{IsBlockCopyableByHead}
use Rattle.pliron_opt_inline.proofs.CalleeLemmas.{FitsBothWays, first_none, first_some}
use Rattle.pliron_opt_inline.proofs.callee.may_copy_block.Goals as goal

pub returns-in_default-clause-exact : goal.returns-in_default-clause-exact
returns-in_default-clause-exact g c =
    let t = c.args.ctx.now.tree in
    let D = g.D.InliningDialect in
    no (IsBlockCopyableByHead D.returns D.stays D.closes t c.args.results c.args.region c.args.block) (λ fit. fit.some (first_none (body_of t c.args.block) c.get_head.result c.get_head.ensures.first c.in_default.is))

pub loop-at-init : goal.loop-at-init
loop-at-init g c = walk-first _ _ _ c.in-Some.ensures.first

pub fits_in_copy-requires : goal.fits_in_copy-requires
fits_in_copy-requires g c =
    let w = c.well_formed-2.ensures.tree in
    (w.joined.all_in_place c.in-Some-at.op c.args.block (w.bodies.owned c.in-Some-at.op c.args.block (c.loop-at.invariant.member c.in-Some-at.op c.in-Some-at.is))).0

pub returns-then-not-fits_in_copy-clause-exact : goal.returns-then-not-fits_in_copy-clause-exact
returns-then-not-fits_in_copy-clause-exact g c =
    let t = c.args.ctx.now.tree in
    let D = g.D.InliningDialect in
    no (IsBlockCopyableByHead D.returns D.stays D.closes t c.args.results c.args.region c.args.block)
    (λ fit. refuted c.fits_in_copy.result c.if-not-fits_in_copy.true (c.fits_in_copy.ensures.exact.1 (fit.each c.in-Some-at.op (c.loop-at.invariant.member c.in-Some-at.op c.in-Some-at.is))))

pub get_next-at-requires : goal.get_next-at-requires
get_next-at-requires g c =
    let w = c.well_formed-2.ensures.tree in
    (w.joined.all_in_place c.in-Some-at.op c.args.block (w.bodies.owned c.in-Some-at.op c.args.block (c.loop-at.invariant.member c.in-Some-at.op c.in-Some-at.is))).0

pub loop-at-smaller : goal.loop-at-smaller
loop-at-smaller g c =
    let t = c.args.ctx.now.tree in
    let D = g.D.InliningDialect in
    let w = c.well_formed-2.ensures.tree in
    let xs = body_of t c.args.block in
    let P = FitsBothWays g.D.HasMeaning.meaning D.returns D.stays D.closes t c.args.results c.args.region in
    let next = c.get_next-at.ensures.next ∙ next_in_body t w c.in-Some-at.op c.args.block (c.loop-at.invariant.member c.in-Some-at.op c.in-Some-at.is) in
    subst (λ o. length (rest_from c.get_next-at.result xs) < length (rest_from o xs)) (sym c.in-Some-at.is)
    (walk-smaller P xs c.in-Some-at.op c.get_next-at.result (w.bodies.distinct c.args.block) next (subst (IsWalked P xs) c.in-Some-at.is c.loop-at.invariant))

pub loop-at-preserved : goal.loop-at-preserved
loop-at-preserved g c =
    let t = c.args.ctx.now.tree in
    let D = g.D.InliningDialect in
    let w = c.well_formed-2.ensures.tree in
    let xs = body_of t c.args.block in
    let P = FitsBothWays g.D.HasMeaning.meaning D.returns D.stays D.closes t c.args.results c.args.region in
    let next = c.get_next-at.ensures.next ∙ next_in_body t w c.in-Some-at.op c.args.block (c.loop-at.invariant.member c.in-Some-at.op c.in-Some-at.is) in
    let fits = c.if-not-fits_in_copy.false in
    walk-next P xs c.in-Some-at.op c.get_next-at.result (w.bodies.distinct c.args.block) next (record { by_head = c.fits_in_copy.ensures.exact.0 fits; by_doing = c.fits_in_copy.ensures.fits fits }) (subst (IsWalked P xs) c.in-Some-at.is c.loop-at.invariant)

pub returns-clause-exact : goal.returns-clause-exact
returns-clause-exact g c =
    let t = c.args.ctx.now.tree in
    let D = g.D.InliningDialect in
    let P = FitsBothWays g.D.HasMeaning.meaning D.returns D.stays D.closes t c.args.results c.args.region in
    let xs = body_of t c.args.block in
    let all = walk-all P xs (subst (IsWalked P xs) c.in_default-at.is c.loop-at.invariant) in
    yes (IsBlockCopyableByHead D.returns D.stays D.closes t c.args.results c.args.region c.args.block)
    (record { some = first_some (body_of t c.args.block) (Some c.in-Some.first) c.in-Some.first c.in-Some.ensures.first refl; each = λ k i. (all k i).by_head })

pub returns-clause-copyable : goal.returns-clause-copyable
returns-clause-copyable g c = λ e.
    let t = c.args.ctx.now.tree in
    let D = g.D.InliningDialect in
    let P = FitsBothWays g.D.HasMeaning.meaning D.returns D.stays D.closes t c.args.results c.args.region in
    let xs = body_of t c.args.block in
    let all = walk-all P xs (subst (IsWalked P xs) c.in_default-at.is c.loop-at.invariant) in
    record { some = first_some (body_of t c.args.block) (Some c.in-Some.first) c.in-Some.first c.in-Some.ensures.first refl; each = λ k i. (all k i).by_doing }

use Rattle.std.proofs.Common.{◌≡◌, ◌+◌, ◌≤◌, length, refl, arith, sym, subst}
use Rattle.std.proofs.lemmas.Option.{slice_get_read}
use Rattle.pliron_opt_symbols.specs.Rows.{AreUnlisted}
use Rattle.pliron_opt_symbols.proofs.UnkeptLemmas.{unlisted_none, unlisted_step}
use Rattle.pliron_opt_symbols.proofs.erasing.unreached_functions.Goals as goal

pub loop-place-init : goal.loop-place-init
loop-place-init c = subst (AreUnlisted c.args.functions.now c.args.search.now.pre 0) (sym c.new-gone.ensures.items) (unlisted_none c.args.functions.now c.args.search.now.pre)

pub loop-place-preserved : goal.loop-place-preserved
loop-place-preserved c =
    let fs = c.args.functions.now in
    let i = c.loop-place.place in
    let f = c.index-functions-place.result in
    unlisted_step fs c.args.search.now.pre c.requires i f c.loop-place.gone.items c.push_if_unreached.new.gone.items (slice_get_read fs (length fs) i f refl c.loop-place-test.true c.index-functions-place.is) c.in_ok-push_if_unreached.ensures.gone c.loop-place.invariant

pub returns-clause-gone : goal.returns-clause-gone
returns-clause-gone c =
    let fs = c.args.functions.now in
    let end : c.loop-place.place ≡ length fs = omega (arith, c.loop-place-test.false, c.loop-place.auto.place-end) in
    subst (λ n. AreUnlisted fs c.args.search.now.pre n c.loop-place.gone.items) end c.loop-place.invariant

use Rattle.std.proofs.Common.{length, refl, subst, sym}
use Rattle.pliron_pass_fit.specs.Found.{AreViolations}
use Rattle.std.proofs.lemmas.Option.{slice_get_read}
use Rattle.pliron_show_commands.proofs.FaultLemmas.{at_place, one_more}
use Rattle.pliron_show_commands.proofs.one_by_one.add_violations.Goals as goal

pub loop-violation-preserved : goal.loop-violation-preserved
loop-violation-preserved g c =
    let m = g.D.HasMeaning.meaning in
    let t = c.args.ctx.now.tree in
    let xs = c.deref-violation-items.result.now in
    let all = subst (AreViolations m t c.args.part) (sym c.deref-violation-items.ensures.value) c.in_ok-violations.ensures.found in
    let at = slice_get_read xs (length xs) c.loop-violation.violation-index c.violation-item.result refl c.loop-violation-test.true c.violation-item.is in
    one_more m t c.loop-violation.found.items c.push.new.self.items _ c.in_ok-push.ensures.items c.loop-violation.invariant (at_place m t c.args.part xs c.loop-violation.violation-index c.violation-item.result all at)

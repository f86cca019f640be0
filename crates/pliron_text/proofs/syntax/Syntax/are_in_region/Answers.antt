use Rattle.std.proofs.Common.{rules, ◌≡◌, length, get_or, Some, slice_get, refl, subst, arith}
use Rattle.std.proofs.lemmas.Option.{slice_get_read}
use Rattle.pliron_text.proofs.CheckLemmas.{region-step, region-end}
use Rattle.pliron_text.proofs.syntax.Syntax.are_in_region.Goals as goal

pub loop-number-preserved : goal.loop-number-preserved
loop-number-preserved c =
    let i = get_or c.args.blocks.now c.loop-number.number-index 0 in
    let at : slice_get c.args.self.now.blocks.items i ≡ Some c.in-Some.block.now = subst (λ z. slice_get z i ≡ Some c.in-Some.block.now) c.deref.ensures.value (slice_get_read c.deref.result.now (length c.deref.result.now) i c.in-Some.block.now refl c.in-Some.ensures.lookup.3.0 c.in-Some.ensures.lookup.1) in
    λ rest. region-step c.args.self.now c.args.region c.args.blocks.now c.loop-number.number-index c.in-Some.block.now c.loop-number-test.true at (search rules) c.loop-number.invariant rest

pub returns : goal.returns
returns c = λ h. region-end c.args.self.now c.args.region c.args.blocks.now c.loop-number.number-index (omega arith) c.loop-number.invariant

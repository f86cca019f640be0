use Rattle.std.proofs.Common.{◌≤◌, ℕ, length, refl, arith}
use Rattle.std.proofs.lemmas.Option.{slice_get_read}
use Rattle.pliron_core.specs.Tree.{In}
use Rattle.pliron_core.proofs.ContainedLemmas.{passed-more, passed-all}
use Rattle.pliron_opt_rotate.specs.Tested.{StandsElsewhere}
use Rattle.pliron_opt_rotate.proofs.Loops.{none_passed, passed_kept, more_in, last_there}
use Rattle.pliron_opt_rotate.proofs.testing.blocks_of.Goals as goal

pub loop-i-init : goal.loop-i-init
loop-i-init c = none_passed _ _

pub loop-i-preserved : goal.loop-i-preserved
loop-i-preserved c =
    let h = c.loop-i-test.true in
    let e = c.in_ok-push.ensures.items in
    let at = slice_get_read c.args.ops.now (length c.args.ops.now) c.loop-i.i c.index-ops-i.result refl (omega (arith, h)) c.index-ops-i.is in
    passed-more _ _ c.loop-i.i c.index-ops-i.result
    (passed_kept _ _ _ c.loop-i.i (λ k s. (s.0, s.1, more_in c.loop-i.blocks.items c.push.new.self.items c.in-Some.block s.0 e s.2)) c.loop-i.invariant)
    at (c.in-Some.block, c.in-Some.ensures.stands, last_there c.loop-i.blocks.items c.push.new.self.items c.in-Some.block e)

pub returns-clause-stands : goal.returns-clause-stands
returns-clause-stands c =
    let past = c.loop-i-test.false in
    let whole : length c.args.ops.now ≤ c.loop-i.i = omega (arith, past) in
    passed-all (λ k. (b : ℕ) × StandsElsewhere c.args.ctx.now.tree c.args.header c.args.region k b × In b c.loop-i.blocks.items) c.args.ops.now c.loop-i.i c.loop-i.invariant whole

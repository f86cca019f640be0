use Rattle.std.proofs.Common.{◌≤◌, ℕ, length, refl, arith}
use Rattle.std.proofs.lemmas.Option.{slice_get_read}
use Rattle.pliron_core.specs.Tree.{In, operands_of}
use Rattle.pliron_core.proofs.ContainedLemmas.{passed-more, passed-all}
use Rattle.pliron_opt_rotate.specs.Tested.{IsUseCovered}
use Rattle.pliron_opt_rotate.proofs.Loops.{none_passed}
use Rattle.pliron_opt_rotate.proofs.covering.are_covered.Goals as goal

pub loop-i-init : goal.loop-i-init
loop-i-init c = none_passed _ _

pub loop-i-preserved : goal.loop-i-preserved
loop-i-preserved c =
    let h = c.loop-i-test.true in
    let at = slice_get_read c.args.values.now (length c.args.values.now) c.loop-i.i c.index-values-i.result refl (omega (arith, h)) c.index-values-i.is in
    passed-more _ _ c.loop-i.i c.index-values-i.result c.loop-i.invariant at (c.is_covered.ensures c.if-not-is_covered.false)

pub returns : goal.returns
returns c = λ e k v i u.
    let past = c.loop-i-test.false in
    let whole : length c.args.values.now ≤ c.loop-i.i = omega (arith, past) in
    passed-all (λ v. (k : ℕ) → In v (operands_of c.args.ctx.now.tree k) → IsUseCovered c.args.ctx.now.tree c.args.header c.args.covers.now.values.keys c.args.covers.now.body.keys c.args.covers.now.exit.keys v k) c.args.values.now c.loop-i.i c.loop-i.invariant whole v i k u

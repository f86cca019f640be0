use Rattle.std.proofs.Common.{◌≤◌, length, Some, refl, sym, ap, ◌∙◌, arith}
use Rattle.pliron_rewrite_equals.proofs.SameLists.{same_more, same_all}
use Rattle.pliron_rewrite_equals.proofs.alike.has_same_attrs.Goals as goal

pub loop-i-init : goal.loop-i-init
loop-i-init c = refl

pub loop-i-preserved : goal.loop-i-preserved
loop-i-preserved c = same_more c.args.first.now c.args.second.now c.loop-i.i c.get.result.now c.loop-i.invariant c.get.ensures (c.get-in-loop-i.ensures ∙ ap Some (sym (c.is_same.ensures.0 c.if-not-is_same.false)))

pub returns : goal.returns
returns c =
    let a = c.len.ensures in
    let b = c.len-2.ensures in
    let d = c.if-len.false in
    let e = c.len-i-end.ensures in
    let f = c.loop-i-test.false in
    let p : length c.args.first.now ≤ c.loop-i.i = omega (arith, e, f) in
    let q : length c.args.second.now ≤ c.loop-i.i = omega (arith, a, b, d, e, f) in
    (λ t. same_all c.args.first.now c.args.second.now c.loop-i.i p q c.loop-i.invariant, λ t. refl)

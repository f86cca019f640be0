use Rattle.std.proofs.Common.{◌≤◌, length, arith}
use Rattle.std.proofs.lemmas.Option.{slice_get_within}
use Rattle.pliron_core.specs.Tree.{uses_of, operands_of}
use Rattle.pliron_core.proofs.FlatLemmas.{slice_get-In}
use Rattle.pliron_laws.proofs.AnswerLemmas.{refuted}
use Rattle.pliron_pass_fit.proofs.blocks.check_uses.Goals as goal

pub returns-then-not-is_inside-clause-err : goal.returns-then-not-is_inside-clause-err
returns-then-not-is_inside-clause-err g c =
    let used = c.well_formed-2.ensures.uses.value_uses.listed c.args.value c.loop-i.i _ c.get_use-user.ensures.listed in
    (λ u. refuted c.is_inside.result c.if-not-is_inside.true (c.is_inside.ensures.1 u), (c.args.value, used, c.requires.inside))

pub returns-clause-ok : goal.returns-clause-ok
returns-clause-ok g c =
    let t = c.args.ctx.now.tree in
    let whole : length (uses_of c.args.ctx.now.value_uses c.args.value) ≤ c.loop-i.i = omega arith in
    λ k i.
    let at = slice_get-In c.args.value (operands_of t k) i in
    let u = c.well_formed-2.ensures.uses.value_uses.complete k at.0 c.args.value at.1 in
    c.loop-i.invariant u.0 _ (omega (arith, whole, slice_get_within (uses_of c.args.ctx.now.value_uses c.args.value) u.0 _ u.1)) u.1

use Rattle.std.proofs.Common.{◌≡◌, ◌≤◌, length, false, rules, arith}
use Rattle.pliron_core.specs.Tree.{uses_of}
use Rattle.pliron_core.proofs.ContainedLemmas.{not_kept, is_kept, value_used, value_kept}
use Rattle.pliron_core.proofs.context.contained.Scope.keeps_value.Goals as goal

pub returns-then-not-has : goal.returns-then-not-has
returns-then-not-has c =
    let outside : c.has.result ≡ false = search rules in
    not_kept c.has.result outside c.has.ensures (value_used c.args.ctx.now c.well_formed-2.ensures.uses c.args.self.now c.args.value c.loop-i.i _ c.get_use-user.ensures.listed)

pub returns : goal.returns
returns c =
    let whole : length (uses_of c.args.ctx.now.value_uses c.args.value) ≤ c.loop-i.i = omega arith in
    is_kept (value_kept c.args.ctx.now c.well_formed-2.ensures.uses c.args.self.now c.args.value c.loop-i.i c.loop-i.invariant whole)

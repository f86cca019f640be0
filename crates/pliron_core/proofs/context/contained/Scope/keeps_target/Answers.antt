use Rattle.std.proofs.Common.{◌≡◌, ◌≤◌, length, false, rules, arith}
use Rattle.pliron_core.specs.Tree.{uses_of}
use Rattle.pliron_core.proofs.ContainedLemmas.{not_kept, is_kept, target_used, target_kept}
use Rattle.pliron_core.proofs.context.contained.Scope.keeps_target.Goals as goal

pub returns-then-not-has : goal.returns-then-not-has
returns-then-not-has c =
    let outside : c.has.result ≡ false = search rules in
    not_kept c.has.result outside c.has.ensures (target_used c.args.ctx.now c.well_formed-2.ensures.uses c.args.self.now c.args.block c.loop-i.i _ c.get_use-user.ensures.listed)

pub returns : goal.returns
returns c =
    let whole : length (uses_of c.args.ctx.now.block_uses c.args.block) ≤ c.loop-i.i = omega arith in
    is_kept (target_kept c.args.ctx.now c.well_formed-2.ensures.uses c.args.self.now c.args.block c.loop-i.i c.loop-i.invariant whole)

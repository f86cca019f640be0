use Rattle.std.proofs.Common.{◌≤◌, [], length, subst, arith}
use Rattle.std.proofs.lemmas.List.{take_all}
use Rattle.pliron_rewrite_calls.specs.CopySteps.{IsCopying}
use Rattle.pliron_rewrite_calls.proofs.copying.make_blocks.Goals as goal

pub returns-clause-ok : goal.returns-clause-ok
returns-clause-ok g c =
    let all : length c.args.blocks.now ≤ c.loop-i.i = omega arith in
    subst (λ z. IsCopying g.x c.loop-i.ctx.tree z [] c.loop-i.copies) (take_all c.loop-i.i c.args.blocks.now all) c.loop-i.invariant

pub returns-clause-grown : goal.returns-clause-grown
returns-clause-grown g c =
    c.loop-i.invariant.made.grown

use Rattle.std.proofs.Common.{◌≤◌, drop, length, refl, sym, subst, arith}
use Rattle.pliron_core.specs.Tree.{uses_of}
use Rattle.pliron_rewrite_loops.specs.Lengthening.{EdgesLengthened}
use Rattle.pliron_rewrite_loops.proofs.Longer.{framed, block_kept, value_kept}
use Rattle.pliron_rewrite_loops.proofs.EdgeSteps.{none_behind}
use Rattle.pliron_rewrite_loops.proofs.adding.lengthen_edges.Goals as goal

pub loop-i-init : goal.loop-i-init
loop-i-init g c =
    let uses = uses_of c.args.ctx.now.block_uses c.args.block in
    let n = c.num_use-i.ensures in
    record {
      longer = subst (λ z. EdgesLengthened g.D.HasMeaning.meaning g.D.Dialect.shortened c.args.count c.args.value z c.args.ctx.now.tree c.args.ctx.now.tree) (sym (none_behind uses c.num_use-i.result (omega (arith, n)))) refl;
      same = refl;
      within = omega (arith, n);
    }

pub lengthen_next-requires-clause-block : goal.lengthen_next-requires-clause-block
lengthen_next-requires-clause-block g c = block_kept c.args.ctx.now.tree c.loop-i.ctx.tree (framed g.D.HasMeaning.meaning _ _ g.D.Dialect.shortened g.met.D.Dialect.forwards_operands c.args.count c.args.value (drop c.loop-i.i (uses_of c.args.ctx.now.block_uses c.args.block)) c.args.ctx.now.tree c.loop-i.ctx.tree c.loop-i.invariant.longer) c.args.block c.requires.block

pub lengthen_next-requires-clause-value : goal.lengthen_next-requires-clause-value
lengthen_next-requires-clause-value g c = value_kept c.args.ctx.now.tree c.loop-i.ctx.tree (framed g.D.HasMeaning.meaning _ _ g.D.Dialect.shortened g.met.D.Dialect.forwards_operands c.args.count c.args.value (drop c.loop-i.i (uses_of c.args.ctx.now.block_uses c.args.block)) c.args.ctx.now.tree c.loop-i.ctx.tree c.loop-i.invariant.longer) c.args.value c.requires.value

pub lengthen_next-requires-clause-index : goal.lengthen_next-requires-clause-index
lengthen_next-requires-clause-index g c = subst (λ z. c.loop-i.i ≤ length (uses_of z c.args.block)) (sym c.loop-i.invariant.same) c.loop-i.invariant.within

pub lengthen_next-requires-clause-lengthened : goal.lengthen_next-requires-clause-lengthened
lengthen_next-requires-clause-lengthened g c = (c.args.ctx.now.tree, subst (λ z. EdgesLengthened g.D.HasMeaning.meaning g.D.Dialect.shortened c.args.count c.args.value (drop c.loop-i.i (uses_of z c.args.block)) c.args.ctx.now.tree c.loop-i.ctx.tree) (sym c.loop-i.invariant.same) c.loop-i.invariant.longer)

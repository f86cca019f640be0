use Rattle.std.proofs.Common.{◌<◌, length, sym, arith}
use Rattle.pliron_core.specs.Tree.{successors_of}
use Rattle.pliron_laws.specs.EdgeChecks.{EndsBlockIf}
use Rattle.pliron_laws.proofs.AnswerLemmas.{no, refuted}
use Rattle.pliron_laws.proofs.EdgeLastLemmas.{last_in, own_successors, is_placed}
use Rattle.pliron_laws.proofs.edges.ends_block.Goals as goal

pub returns-then-is_last : goal.returns-then-is_last
returns-then-is_last c =
    let t = c.args.ctx.now.tree in
    let some : 0 < length (successors_of t c.args.op) = omega arith in
    let in_block = sym c.in-Some.ensures.block in (
      λ own s i. record { block = c.in-Some.block; in_block = in_block; last = c.is_last.ensures.0 c.if-is_last.true; own_region = c.has_own_successors.ensures.0 own },
      λ ends. c.has_own_successors.ensures.1 (own_successors t c.args.op c.in-Some.block in_block some ends),
    )

pub returns-else-is_last : goal.returns-else-is_last
returns-else-is_last c =
    let t = c.args.ctx.now.tree in
    let some : 0 < length (successors_of t c.args.op) = omega arith in (
      λ e. absurd (refuted c.is_last.result c.if-is_last.false e),
      λ ends. c.is_last.ensures.1 (last_in t c.args.op c.in-Some.block (sym c.in-Some.ensures.block) some ends),
    )

pub returns-in-None : goal.returns-in-None
returns-in-None c =
    let t = c.args.ctx.now.tree in
    let some : 0 < length (successors_of t c.args.op) = omega arith in
    no (EndsBlockIf t c.args.op) (is_placed t c.args.op (sym c.in-None.ensures.block) some)

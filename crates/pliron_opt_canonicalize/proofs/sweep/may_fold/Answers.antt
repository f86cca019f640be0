use Rattle.std.proofs.Common.{true≢false, sym, arith}
use Rattle.pliron_opt_canonicalize.proofs.Testing.{may_if, with_successors, without_operands}
use Rattle.pliron_opt_canonicalize.proofs.sweep.may_fold.Goals as goal
use Rattle.pliron_opt_canonicalize.proofs.sweep.may_fold.Goals.{then-num_operand-eq0-via-then-num_operand-eq0, then-num_operand-eq0-via-else-num_operand-eq0+then-num_successor-ne0}

pub returns-then-num_operand-eq0 : goal.returns-then-num_operand-eq0
returns-then-num_operand-eq0 c =
    let t = c.args.ctx.now.tree in (
      λ never. absurd (true≢false (sym never)),
      λ m. elim c.then-num_operand-eq0.branch [
        | then-num_operand-eq0-via-then-num_operand-eq0 w ↦ absurd (without_operands t c.args.op (grind (arith, c.num_operand.ensures, w.if-num_operand-eq0.true)) m)
        | then-num_operand-eq0-via-else-num_operand-eq0+then-num_successor-ne0 w ↦ absurd (with_successors t c.args.op (λ e. grind (arith, w.num_successor.ensures, w.if-num_successor-ne0.true, e)) m)
      ],
    )

pub returns : goal.returns
returns c = may_if c.args.ctx.now.tree c.args.op (λ e. grind (arith, c.num_operand.ensures, c.if-num_operand-eq0.false, e)) (grind (arith, c.num_successor.ensures, c.if-num_successor-ne0.false)) c.uses_itself.result c.uses_itself.ensures

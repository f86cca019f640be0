use Rattle.std.proofs.Common.{true≢false, refl, sym, ◌∙◌, arith}
use Rattle.pliron_core.specs.Tree.{operands_of}
use Rattle.pliron_core.proofs.HoldingLemmas.{in_slice}
use Rattle.pliron_opt_canonicalize.proofs.Testing.{none_itself, none_more}
use Rattle.pliron_opt_canonicalize.proofs.sweep.uses_itself.Goals as goal

pub returns-then-is_result_of : goal.returns-then-is_result_of
returns-then-is_result_of c = (
  λ e. (c.get_operand.result, c.is_result_of.ensures.0 c.if-is_result_of.true, in_slice (operands_of c.args.ctx.now.tree c.args.op) c.loop-i.i c.get_operand.result c.get_operand.ensures.operand),
  λ u. refl,
)

pub loop-i-preserved : goal.loop-i-preserved
loop-i-preserved c = none_more c.args.ctx.now.tree c.args.op c.loop-i.i c.get_operand.result c.loop-i.invariant c.get_operand.ensures.operand (λ own. true≢false (sym (c.is_result_of.ensures.1 own) ∙ c.if-is_result_of.false))

pub returns : goal.returns
returns c = (
  λ never. absurd (true≢false (sym never)),
  λ u. absurd (none_itself c.args.ctx.now.tree c.args.op c.loop-i.i (omega (arith, c.loop-i-test.false, c.num_operand-i-end.ensures)) c.loop-i.invariant u),
)

use Rattle.std.proofs.Common.{◌≡◌, ◌≤◌, ℕ, Some, length, arith}
use Rattle.pliron_core.specs.Tree.{In, operands_of, block_parent_of, layout_of}
use Rattle.pliron_core.proofs.ContainedLemmas.{passed-more, passed-all}
use Rattle.pliron_core.proofs.HoldingLemmas.{in_slice}
use Rattle.pliron_laws.proofs.AnswerLemmas.{yes, no, refuted}
use Rattle.pliron_rewrite_calls.specs.Copying.{parts_of}
use Rattle.pliron_opt_inline.proofs.callee.uses_values_of.Goals as goal

pub returns-then-not-is_defined_in : goal.returns-then-not-is_defined_in
returns-then-not-is_defined_in c =
    let t = c.args.ctx.now.tree in
    let P : ℕ → Type 0 = (λ v. In v (parts_of t (layout_of t c.args.region)).values) in
    no ((x : ℕ) → In x (operands_of t c.args.op) → P x) (λ all. refuted c.is_defined_in.result c.if-not-is_defined_in.true (c.is_defined_in.ensures.1 (all c.get_operand.result (in_slice (operands_of t c.args.op) c.loop-i.i c.get_operand.result c.get_operand.ensures.operand))))

pub loop-i-preserved : goal.loop-i-preserved
loop-i-preserved c =
    let t = c.args.ctx.now.tree in
    passed-more (λ v. In v (parts_of t (layout_of t c.args.region)).values) (operands_of t c.args.op) c.loop-i.i c.get_operand.result c.loop-i.invariant c.get_operand.ensures.operand (c.is_defined_in.ensures.0 c.if-not-is_defined_in.false)

pub returns : goal.returns
returns c =
    let t = c.args.ctx.now.tree in
    let P : ℕ → Type 0 = (λ v. In v (parts_of t (layout_of t c.args.region)).values) in
    let whole : length (operands_of t c.args.op) ≤ c.loop-i.i = omega arith in
    yes ((x : ℕ) → In x (operands_of t c.args.op) → P x) (passed-all P (operands_of t c.args.op) c.loop-i.i c.loop-i.invariant whole)

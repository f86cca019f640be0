use Rattle.std.proofs.Common.{◌≡◌, ◌≤◌, ℕ, Some, length, arith}
use Rattle.pliron_core.specs.Tree.{In, successors_of, block_parent_of, layout_of}
use Rattle.pliron_core.proofs.ContainedLemmas.{passed-more, passed-all}
use Rattle.pliron_core.proofs.HoldingLemmas.{in_slice}
use Rattle.pliron_laws.proofs.AnswerLemmas.{yes, no, refuted}
use Rattle.pliron_rewrite_calls.specs.Copying.{parts_of}
use Rattle.pliron_opt_inline.proofs.callee.leads_to_blocks_of.Goals as goal

pub returns-then-not-is_block_of : goal.returns-then-not-is_block_of
returns-then-not-is_block_of c =
    let t = c.args.ctx.now.tree in
    let P : ℕ → Type 0 = (λ b. block_parent_of t b ≡ Some c.args.region) in
    no ((x : ℕ) → In x (successors_of t c.args.op) → P x) (λ all. refuted c.is_block_of.result c.if-not-is_block_of.true (c.is_block_of.ensures.1 (all c.get_successor.result (in_slice (successors_of t c.args.op) c.loop-i.i c.get_successor.result c.get_successor.ensures.successor))))

pub loop-i-preserved : goal.loop-i-preserved
loop-i-preserved c =
    let t = c.args.ctx.now.tree in
    passed-more (λ b. block_parent_of t b ≡ Some c.args.region) (successors_of t c.args.op) c.loop-i.i c.get_successor.result c.loop-i.invariant c.get_successor.ensures.successor (c.is_block_of.ensures.0 c.if-not-is_block_of.false)

pub returns : goal.returns
returns c =
    let t = c.args.ctx.now.tree in
    let P : ℕ → Type 0 = (λ b. block_parent_of t b ≡ Some c.args.region) in
    let whole : length (successors_of t c.args.op) ≤ c.loop-i.i = omega arith in
    yes ((x : ℕ) → In x (successors_of t c.args.op) → P x) (passed-all P (successors_of t c.args.op) c.loop-i.i c.loop-i.invariant whole)

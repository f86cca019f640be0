use Rattle.std.proofs.Common.{◌≡◌, ℕ, [], take}
use Rattle.pliron_core.specs.Tree.{In, IsBlock, body_of, regions_of}
use Rattle.pliron_rewrite_calls.proofs.copyable.are_childless.Given as goal

abbrev pub invariant-loop-block : goal.invariant-loop-block
invariant-loop-block l = (b : ℕ) → In b (take l.block-index l.blocks) → IsBlock l.ctx.tree b × ((k : ℕ) → In k (body_of l.ctx.tree b) → regions_of l.ctx.tree k ≡ [])

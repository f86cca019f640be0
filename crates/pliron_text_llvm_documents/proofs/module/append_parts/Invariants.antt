-- The functions up to here are in the block.
use Rattle.std.proofs.Common.{◌≡◌, ◌<◌, length, take}
use Rattle.pliron_core.specs.Tree.{body_of}
use Rattle.pliron_text_llvm_documents.specs.Documents.{functions_of}
use Rattle.pliron_text_llvm_documents.proofs.module.append_parts.Given as goal

abbrev pub invariant-loop-part : goal.invariant-loop-part
invariant-loop-part l =
    (l.ctx.tree.operations ≡ l.fn.ctx.tree.operations) × (l.ctx.tree.layouts ≡ l.fn.ctx.tree.layouts) × (l.block < length l.ctx.tree.bodies)
    × (body_of l.ctx.tree l.block ≡ functions_of (take l.part-index l.parts))

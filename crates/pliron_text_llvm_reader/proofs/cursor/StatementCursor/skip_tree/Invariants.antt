-- The cursor moves forward, up to the end of the brackets that are open.
use Rattle.std.proofs.Common.{◌≡◌, ◌-◌, ◌≤◌, length}
use Rattle.pliron_text_llvm_reader.specs.Cursors.{text_of, tokens_of, behind_brackets, end_of_brackets, behind_tree, end_of_tree, HasNext, MovesForward, HasTaken}
use Rattle.pliron_text_llvm_reader.proofs.cursor.StatementCursor.skip_tree.Given as goal

abbrev pub invariant-loop-depth : goal.invariant-loop-depth
invariant-loop-depth l =
    MovesForward l.fn.self l.self
    × (HasNext l.fn.self → HasTaken l.fn.self l.self)
    × (l.depth ≤ l.self.end)
    × (behind_brackets l.depth (tokens_of l.self) ≡ behind_tree (tokens_of l.fn.self))
    × (end_of_brackets l.depth l.self.end (tokens_of l.self) ≡ end_of_tree l.fn.self.end (tokens_of l.fn.self))

abbrev pub decreases-loop-depth : goal.decreases-loop-depth
decreases-loop-depth l = length (text_of l.self) - l.self.end

-- The steps so far lead to what is left, with the holes so far.
use Rattle.std.proofs.Common.{◌-◌, [], length}
use Rattle.std.specs.Prelude.{reverse}
use Rattle.pliron_text_llvm_reader.specs.Cursors.{text_of, tokens_of, MovesForward}
use Rattle.pliron_text_llvm_reader.specs.Holes.{AreHolesBetween}
use Rattle.pliron_text_llvm_reader.specs.Readings.{LeadsBySteps}
use Rattle.pliron_text_llvm_reader.proofs.cursor.StatementCursor.read_steps.Given as goal

abbrev pub invariant-loop-taking : goal.invariant-loop-taking
invariant-loop-taking l =
    MovesForward l.fn.self l.self
    × LeadsBySteps (text_of l.fn.self) l.reads (reverse l.fn.steps.items) (tokens_of l.fn.self) [] (reverse l.steps.items) (tokens_of l.self) l.holes.items
    × AreHolesBetween (text_of l.fn.self) l.fn.self.end l.self.end l.holes.items

abbrev pub decreases-loop-taking : goal.decreases-loop-taking
decreases-loop-taking l = length (text_of l.self) - l.self.end

-- The tokens up to here.
use Rattle.std.proofs.Common.{◌≤◌, ◌-◌, length}
use Rattle.pliron_text_llvm_reader.specs.TokenLists.{AreLexed, AreTokens}
use Rattle.pliron_text_llvm_reader.proofs.tokens.push_tokens.Given as goal

abbrev pub invariant-loop-at : goal.invariant-loop-at
invariant-loop-at l = AreTokens l.start l.at l.tokens.items × AreLexed l.text l.start l.at l.tokens.items × (l.at ≤ length l.text)

abbrev pub decreases-loop-at : goal.decreases-loop-at
decreases-loop-at l = length l.text - l.at

-- Each turn takes a lexeme, which isn't empty; what is left is no longer than the text.
use Rattle.std.proofs.Common.{◌≤◌, length}
use Rattle.pliron_text.proofs.tokens.span_of_token.Given as goal

abbrev pub invariant-loop-rest : goal.invariant-loop-rest
invariant-loop-rest l = length l.rest ≤ length l.text

abbrev pub decreases-loop-rest : goal.decreases-loop-rest
decreases-loop-rest l = length l.rest

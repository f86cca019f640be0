-- Each turn takes a lexeme, which isn't empty.
use Rattle.std.proofs.Common.{length}
use Rattle.pliron_text.proofs.tokens.tokenise.Given as goal

abbrev pub decreases-loop-rest : goal.decreases-loop-rest
decreases-loop-rest g l = length l.rest

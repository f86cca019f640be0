use Rattle.pliron_rewrite_symbols.proofs.ErasedFunctions.{functions_erased}
use Rattle.pliron_rewrite_symbols.proofs.functions_are_erased.Goals as goal

pub returns : goal.returns
returns c = functions_erased

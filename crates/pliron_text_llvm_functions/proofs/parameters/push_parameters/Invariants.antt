-- The parameters so far, and behind them those of the tokens that are left.
use Rattle.std.proofs.Common.{◌≡◌, ◌≤◌, ◌++◌, length, drop}
use Rattle.pliron_text_llvm_functions.specs.Parameters.{parameters_from, parameters_of}
use Rattle.pliron_text_llvm_functions.proofs.parameters.push_parameters.Given as goal

abbrev pub invariant-loop-token : goal.invariant-loop-token
invariant-loop-token l =
    (l.scan.depth ≤ l.token-index)
    × (l.definitions.items ++ parameters_from l.text (length l.definitions.items) l.scan.depth l.scan.state (drop l.token-index l.tokens)
    ≡ parameters_of l.text l.tokens)

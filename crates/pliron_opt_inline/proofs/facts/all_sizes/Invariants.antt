use Rattle.std.proofs.Common.{◌≡◌, vec_len}
use Rattle.pliron_opt_inline.proofs.facts.all_sizes.Given as goal

abbrev pub invariant-loop-function : goal.invariant-loop-function
invariant-loop-function g l = vec_len l.sizes ≡ l.function-index

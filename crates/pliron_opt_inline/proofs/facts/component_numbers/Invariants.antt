use Rattle.std.proofs.Common.{◌≡◌, vec_len}
use Rattle.pliron_opt_inline.proofs.facts.component_numbers.Given as goal

abbrev pub invariant-loop-number : goal.invariant-loop-number
invariant-loop-number l = vec_len l.numbers ≡ l.count

abbrev pub invariant-loop-place : goal.invariant-loop-place
invariant-loop-place l = vec_len l.numbers ≡ l.count

use Rattle.std.proofs.Common.{◌≡◌, length, vec_len}
use Rattle.pliron_opt_inline.proofs.facts.call_counts.Given as goal

abbrev pub invariant-loop-function : goal.invariant-loop-function
invariant-loop-function g l = vec_len l.counts ≡ length l.table.functions

abbrev pub invariant-loop-site : goal.invariant-loop-site
invariant-loop-site g l = vec_len l.counts ≡ length l.table.functions

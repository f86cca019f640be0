use Rattle.std.proofs.Common.{◌≡◌, ◌+◌, ◌≤◌, take, length, not}
use Rattle.std.specs.List.{suffix_len}
use Rattle.pliron_text_mlir_syntax.specs.Numbers.{is_colon}
use Rattle.pliron_text_mlir_syntax.proofs.numbers.before_last_colon.Given as goal

abbrev pub invariant-loop-end : goal.invariant-loop-end
invariant-loop-end l = (l.end ≤ length l.text) × (l.end + suffix_len (λ byte. not (is_colon byte)) l.text ≡ length l.text + suffix_len (λ byte. not (is_colon byte)) (take l.end l.text))

abbrev pub decreases-loop-end : goal.decreases-loop-end
decreases-loop-end l = l.end

-- What is left to be read is in what was to be read.
use Rattle.std.proofs.Common.{◌≡◌, ◌-◌, ◌+◌, ◌≤◌, drop, length}
use Rattle.std.specs.Option.{option_map}
use Rattle.pliron_text_llvm_syntax.specs.Lexing.{closing_len}
use Rattle.pliron_text_llvm_syntax.proofs.tokens.closing_len.Given as goal

abbrev pub invariant-loop-end : goal.invariant-loop-end
invariant-loop-end l =
    (l.end ≤ length l.text) × (closing_len 0 l.text ≡ option_map (λ len. l.end + len) (closing_len l.before (drop l.end l.text)))

abbrev pub decreases-loop-end : goal.decreases-loop-end
decreases-loop-end l = length l.text - l.end

use Rattle.std.proofs.Common.{◌≡◌, ◌≤◌, length, take, take_while, reverse, not}
use Rattle.pliron_text_positions.specs.LineAndColumn.{is_line_end}
use Rattle.pliron_text_positions.proofs.last_line_len.Given as goal

abbrev pub invariant-loop-byte : goal.invariant-loop-byte
invariant-loop-byte l = (l.len ≡ length (take_while (λ byte. not (is_line_end byte)) (reverse (take l.byte-index l.text)))) × (l.len ≤ l.byte-index)

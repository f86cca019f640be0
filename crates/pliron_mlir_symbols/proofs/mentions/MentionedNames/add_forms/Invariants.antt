use Rattle.std.proofs.Common.{◌≡◌, ◌≤◌, ◌<◌, ℕ, length}
use Rattle.pliron_mlir_symbols.specs.Mentions.{HasNumbered, KeepsNames}
use Rattle.pliron_mlir_symbols.proofs.mentions.MentionedNames.add_forms.Given as goal

abbrev pub invariant-loop-number : goal.invariant-loop-number
invariant-loop-number l = ((n : ℕ) → n < l.number → HasNumbered l.self l.sheet n) × KeepsNames l.fn.self l.self × (l.number ≤ l.number-end) × (l.number-end ≡ length l.sheet.forms.keys)

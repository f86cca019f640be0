use Rattle.std.proofs.Common.{◌≡◌, length, ◌≤◌}
use Rattle.pliron_mlir_symbols.proofs.policy.ModuleSymbols.of.Given as goal

abbrev pub invariant-loop-number : goal.invariant-loop-number
invariant-loop-number l = (length l.forms.items ≡ l.number) × (l.number ≤ l.number-end) × (l.number-end ≡ length l.sheet.forms.keys)

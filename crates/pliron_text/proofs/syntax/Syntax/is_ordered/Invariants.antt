use Rattle.std.proofs.Common.{drop}
use Rattle.pliron_text.specs.Notation.{IsOrdered, first_made}
use Rattle.pliron_text.proofs.syntax.Syntax.is_ordered.Given as goal

abbrev pub invariant-loop-step : goal.invariant-loop-step
invariant-loop-step l = IsOrdered l.self l.made (drop l.step-index l.self.steps.items) → IsOrdered l.self (first_made l.self.root) l.self.steps.items

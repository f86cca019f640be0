-- All that is found wrong.
use Rattle.std.specs.Prelude.{ℕ, List, [], ◌∷◌}
use Rattle.pliron_core.specs.Tree.{Tree}
use Rattle.pliron_laws.specs.Datum.{Meaning}
use Rattle.pliron_pass_fit.specs.Violation.{IsViolation}
use Rattle.pliron_pass_fit.specs.declared.violation.Violation.{Violation}

-- each of these is wrong with the root
abbrev pub AreViolations : Meaning → Tree → ℕ → List Violation → Type 0
AreViolations m t root [] = Unit {0}
AreViolations m t root (violation ∷ others) = IsViolation m t root violation × AreViolations m t root others

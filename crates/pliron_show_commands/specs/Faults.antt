-- All that is found wrong with a text, for proofs inside the crate.
use Rattle.std.specs.Prelude.{List, [], ◌∷◌}
use Rattle.pliron_core.specs.Tree.{Tree}
use Rattle.pliron_laws.specs.Datum.{Meaning}
use Rattle.pliron_pass_fit.specs.Violation.{IsViolation}
use Rattle.pliron_show_commands.specs.declared.one_by_one.PartViolation.{PartViolation}

-- each of these is wrong with its part
abbrev pub AreFaults : Meaning → Tree → List PartViolation → Type 0
AreFaults m t [] = Unit {0}
AreFaults m t (found ∷ others) = IsViolation m t found.part found.violation × AreFaults m t others

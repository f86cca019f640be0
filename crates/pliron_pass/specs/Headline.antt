-- What a caller of passes may rely on.
use Rattle.std.specs.Prelude.{ℕ}
use Rattle.pliron_core.specs.Tree.{Tree, IsLive}
use Rattle.pliron_laws.specs.Datum.{Meaning}
use Rattle.pliron_laws.specs.Agree.{Agree}
use Rattle.pliron_theory.specs.Keeps.{IsFit}

-- each operation that was fit to run and is still live does exactly what it did: on every input and in every world
-- it ends with the same values or traps alike, with the same effects, or runs on without end; and it is fit to run
abbrev pub DoAsBefore : Meaning → (t t' : Tree) → Type 0
DoAsBefore m t t' = (root : ℕ) → IsFit m t root → IsLive t' root → Agree m t t' root × IsFit m t' root

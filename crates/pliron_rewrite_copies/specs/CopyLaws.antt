-- The laws on copies of blocks.
use Rattle.std.specs.Prelude.{◌≡◌, ◌<◌, ◌≤◌, ℕ, length}
use Rattle.pliron_core.specs.Tree.{Tree, IsLive}
use Rattle.pliron_core.specs.Invariant.{IsTree}
use Rattle.pliron_laws.specs.Datum.{Meaning}
use Rattle.pliron_theory.specs.Keeps.{IsFit, KeepsRuns}
use Rattle.pliron_rewrite_copies.specs.Copies.{Originals, HasOriginals, AreClosedCopies, HasCopies}

-- blocks may be copied, and edges to a block may lead to a copy of it, if the copies are closed; an operation that t had is
-- its own original, and what was erased does not come back
abbrev pub CopiesLaw : Type 0
CopiesLaw = (m : Meaning) (t u : Tree) (o : Originals) (copy header : ℕ → ℕ) → IsTree t → IsTree u → length t.operations ≤ length u.operations → HasOriginals t u o → ((k : ℕ) → k < length t.operations → IsLive u k → IsLive t k × (o.operation k ≡ k)) → ((root : ℕ) → IsFit m t root → IsLive u root → AreClosedCopies u o copy header root) → KeepsRuns m t u

-- the same read backwards: copies may go, where each edge to a copy leads to the original
abbrev pub JoinedCopiesLaw : Type 0
JoinedCopiesLaw = (m : Meaning) (t u : Tree) (o : Originals) (copy header : ℕ → ℕ) → IsTree t → IsTree u → length u.operations ≤ length t.operations → HasOriginals t u o → ((k : ℕ) → k < length u.operations → IsLive t k → IsLive u k) → ((root : ℕ) → IsFit m u root → IsLive t root → (o.operation root ≡ root) × AreClosedCopies u o copy header root × HasCopies t u o root) → KeepsRuns m u t

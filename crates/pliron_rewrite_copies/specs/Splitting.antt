-- A block is split: its last operations become another block, to which a new jump leads. This is the law on blocks that join
-- read backwards.
--
--     before:   ^a: front ; rest
--     after:    ^a: front ; jump ^b(..)       ^b(..): rest        nothing uses the arguments of ^b yet
use Rattle.std.specs.Prelude.{◌≡◌, ◌≢◌, ◌≤◌, ℕ, List, [], length}
use Rattle.pliron_core.specs.Tree.{Tree, In, IsInside, operands_of, body_of}
use Rattle.pliron_core.specs.Invariant.{IsTree}
use Rattle.pliron_laws.specs.Datum.{Meaning}
use Rattle.pliron_theory.specs.Keeps.{IsFit, KeepsRuns}
use Rattle.pliron_theory.specs.Renaming.{MayUse}
use Rattle.pliron_theory.specs.Rebranching.{FitsInPlace}
use Rattle.pliron_theory.specs.Splicing.{IsSpliced, JumpsNow}

-- the jump is admitted, goes at once, and names what it may
pub record JumpsWell (m : Meaning) (u : Tree) (root jump b : ℕ) : Type 0 where
  pub fits : IsInside u root jump → FitsInPlace m u jump
  pub goes : IsInside u root jump → JumpsNow m u jump b
  pub names : (x : ℕ) → In x (operands_of u jump) → MayUse u root jump x

-- t is u with the block b merged into a
abbrev pub SplittingLaw : Type 0
SplittingLaw = (m : Meaning) (t u : Tree) (a b jump : ℕ) (front : List ℕ) → IsTree t → IsTree u → IsSpliced u t a b jump front → body_of u b ≢ [] → length t.operations ≤ length u.operations → length t.operations ≤ jump → ((root : ℕ) → IsFit m t root → JumpsWell m u root jump b) → KeepsRuns m t u

-- Operations without side effects may be made and put into blocks, where what they use may be used.
use Rattle.std.specs.Prelude.{◌≡◌, ◌≤◌, ℕ, Bool, true, false, [], Some, None, length}
use Rattle.pliron_core.specs.Tree.{Tree, In, head_of, operands_of, successors_of, regions_of, body_of, last_of}
use Rattle.pliron_core.specs.Invariant.{IsTree}
use Rattle.pliron_laws.specs.Datum.{Head, Meaning}
use Rattle.pliron_laws.specs.Linked.{IsAdmitted}
use Rattle.pliron_theory.specs.Keeps.{IsFit, KeepsRuns}
use Rattle.pliron_theory.specs.Renaming.{MayUse}
use Rattle.pliron_theory.specs.Sweeping.{IsSwept, AreAway, GivesNow}

-- the tree t is t' with new operations in its blocks: they have no contents, end no block that had operations
-- before, the dialect admits them and calls them no terminators, and they use what they may use there
pub record AreInserted (m : Meaning) (t t' : Tree) (new : ℕ → Bool) : Type 0 where
  pub successors : (k : ℕ) → new k ≡ true → successors_of t k ≡ []
  pub regions : (k : ℕ) → new k ≡ true → regions_of t k ≡ []
  pub admitted : (k : ℕ) → new k ≡ true → IsAdmitted m t k
  pub plain : (k : ℕ) (x : Head) → new k ≡ true → head_of t k ≡ Some x → m.is_terminator x ≡ false
  pub last : (b k : ℕ) → new k ≡ true → last_of None (body_of t b) ≡ Some k → body_of t' b ≡ []
  pub uses : (root : ℕ) → IsFit m t' root → (k v : ℕ) → new k ≡ true → In v (operands_of t k) → MayUse t root k v

-- runs are kept where such operations give at once
abbrev pub InsertingLaw : Type 0
InsertingLaw = (m : Meaning) (t t' : Tree) (new : ℕ → Bool) → IsTree t → IsTree t' → IsSwept t' t new (λ b. false) → AreAway t new (λ b. false) → AreInserted m t' t new → length t.operations ≤ length t'.operations → ((k : ℕ) → new k ≡ true → length t.operations ≤ k) → ((k : ℕ) → new k ≡ true → GivesNow m t' k) → KeepsRuns m t t'

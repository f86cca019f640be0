-- Changes of a tree that keep what its well-defined roots do.
use Rattle.std.specs.Prelude.{◌≡◌, ℕ, Bool, length, ◌<◌, ◌≤◌}
use Rattle.pliron_core.specs.Tree.{Tree, IsLive, head_of}
use Rattle.pliron_laws.specs.Datum.{Head, Meaning}
use Rattle.pliron_laws.specs.Agree.{Agree}
use Rattle.pliron_laws.specs.Answers.{HeadPasses}
use Rattle.pliron_laws.specs.Root.{WellDefined}
use Rattle.pliron_laws.specs.Linked.{IsWellLinked}

-- a root that is fit to run: it is live, its head may be that of a root, it is isolated and well defined, and
-- it is well linked
pub record IsFit (m : Meaning) (t : Tree) (root : ℕ) : Type 0 where
  pub live : IsLive t root
  pub chosen : HeadPasses m.may_be_root t root
  pub defined : WellDefined m t root
  pub linked : IsWellLinked m t root

-- each fit root that is still live does the same, has the same head, and is still fit; operations may be
-- created, and what was erased does not come back
pub record KeepsRuns (m : Meaning) (t t' : Tree) : Type 0 where
  pub agrees : (root : ℕ) → IsFit m t root → IsLive t' root → Agree m t t' root
  pub heads : (root : ℕ) → IsFit m t root → IsLive t' root → head_of t' root ≡ head_of t root
  pub stays : (root : ℕ) → IsFit m t root → IsLive t' root → IsFit m t' root
  pub grows : length t.operations ≤ length t'.operations
  pub fewer : (root : ℕ) → root < length t.operations → IsLive t' root → IsLive t root

-- the same meaning, where these heads may be those of roots
abbrev pub with_roots : Meaning → (Head → Bool) → Meaning
with_roots m may_be_root = record m { may_be_root = may_be_root }

-- runs are kept whatever heads may be those of roots
abbrev pub KeepsAllRuns : Meaning → (t t' : Tree) → Type 0
KeepsAllRuns m t t' = (chosen : Head → Bool) → KeepsRuns (with_roots m chosen) t t'

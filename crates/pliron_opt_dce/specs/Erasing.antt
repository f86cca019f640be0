-- The whole rewrites that erase dead operations and arguments, and what is left.
use Rattle.std.specs.Prelude.{◌≡◌, ◌↔◌, ℕ, Bool, List, [], ◌∷◌, Option, Some, ◌⊎◌, slice_get, IsTrue}
use Rattle.pliron_core.specs.declared.attrs.IRStatus.{IRStatus}
use Rattle.pliron_core.specs.declared.attrs.IRStatus.TheVariants.{Changed, Unchanged}
use Rattle.pliron_core.specs.declared.uses.Use.{Use as Edge}
use Rattle.pliron_core.specs.Tree.{Tree, IsLive, IsDefined, arguments_of, regions_of}
use Rattle.pliron_core.specs.Writes.{argument_removed}
use Rattle.pliron_core.specs.Erased.{after_erasing}
use Rattle.pliron_core.specs.Changes.{IsInsideChange}
use Rattle.pliron_laws.specs.Datum.{Head, Shape, Meaning}
use Rattle.pliron_theory.specs.Dropping.{AreEdgesTo, EdgesLose}
use Rattle.pliron_theory.specs.Keeps.{KeepsAllRuns}
use Rattle.pliron_theory.specs.Edges.{has_regions}
use Rattle.pliron_laws.specs.Linked.{IsWellLinked}
use Rattle.pliron_opt_dce.specs.Dead.{Item, Op, Arg, Use, IsDead}
use Rattle.pliron_opt_dce.specs.Readiness.{Among}

-- the argument is removed, after each edge to its block lost the operand that it forwarded to it
pub record Removes (m : Meaning) (shortened : Shape → ℕ → ℕ → Head) (t t' : Tree) (v : ℕ) : Type 0 where
  pub block : ℕ
  pub index : ℕ
  pub argument : slice_get (arguments_of t block) index ≡ Some v
  pub edges : List Edge
  pub complete : AreEdgesTo t block edges
  pub between : Tree
  pub lose : EdgesLose m shortened index edges t between
  pub removed : t' ≡ argument_removed between block index

-- one whole rewrite: a live operation is erased with its contents, or an argument is removed
abbrev pub ErasesItem : Meaning → (Shape → ℕ → ℕ → Head) → (t t' : Tree) → Item → Type 0
ErasesItem m shortened t t' (Op k) = IsLive t k × (t' ≡ after_erasing t k)
ErasesItem m shortened t t' (Arg v) = Removes m shortened t t' v
ErasesItem m shortened t t' (Use user place) = ⊥

-- these are erased, one after the other
abbrev pub EraseInTurn : Meaning → (Shape → ℕ → ℕ → Head) → List Item → (t t' : Tree) → Type 0
EraseInTurn m shortened [] t t' = t' ≡ t
EraseInTurn m shortened (x ∷ xs) t t' = (u : Tree) × ErasesItem m shortened t u x × EraseInTurn m shortened xs u t'

-- these are dead
abbrev pub AreDeadItems : Meaning → (Head → Option Bool) → (Head → ℕ → Bool → Option Bool) → Tree → ℕ → List Item → Type 0
AreDeadItems m side_effects removable t root deleted = (x : Item) → Among x deleted → IsDead m side_effects removable t root x

-- some operation or argument is dead
abbrev pub HasDead : Meaning → (Head → Option Bool) → (Head → ℕ → Bool → Option Bool) → Tree → ℕ → Type 0
HasDead m side_effects removable t root = ((k : ℕ) × IsDead m side_effects removable t root (Op k)) ⊎ ((v : ℕ) × IsDead m side_effects removable t root (Arg v))

-- no operation or argument that is dead in the first tree is live in the second, and nothing is dead there
pub record LeavesNoDead (m : Meaning) (side_effects : Head → Option Bool) (removable : Head → ℕ → Bool → Option Bool) (t t' : Tree) (root : ℕ) : Type 0 where
  pub operations : (k : ℕ) → IsDead m side_effects removable t root (Op k) → IsLive t' k → ⊥
  pub arguments : (v : ℕ) → IsDead m side_effects removable t root (Arg v) → IsDefined t' v → ⊥
  pub none : HasDead m side_effects removable t' root → ⊥

-- `Changed` exactly if something is dead
abbrev pub ReportsDead : Meaning → (Head → Option Bool) → (Head → ℕ → Bool → Option Bool) → Tree → ℕ → IRStatus → Type 0
ReportsDead m side_effects removable t root status = (status ≡ Changed) ↔ HasDead m side_effects removable t root

-- `Changed` exactly if something was erased
abbrev pub ReportsErased : List Item → IRStatus → Type 0
ReportsErased [] status = status ≡ Unchanged
ReportsErased (x ∷ xs) status = status ≡ Changed

-- the operation has regions
abbrev pub HasRegions : Tree → Item → Type 0
HasRegions t (Op k) = IsTrue (has_regions t k)
HasRegions t (Arg v) = ⊥
HasRegions t (Use user place) = ⊥

-- an operation with regions is among these
abbrev pub SomeHasRegions : Tree → List Item → Type 0
SomeHasRegions t deleted = (x : Item) × Among x deleted × HasRegions t x

-- what holds on the way from the tree t0: dead operations and arguments of t0 were erased in turn, the runs of
-- all roots are kept, links stay, only what is inside the root changed, and what is dead is what was dead in t0
-- and is still live
pub record IsSweptSoFar (m : Meaning) (shortened : Shape → ℕ → ℕ → Head) (side_effects : Head → Option Bool) (removable : Head → ℕ → Bool → Option Bool) (t0 t : Tree) (root : ℕ) (deleted : List Item) : Type 0 where
  pub went : EraseInTurn m shortened deleted t0 t
  pub dead : (x : Item) → Among x deleted → IsDead m side_effects removable t0 root x
  pub keeps : KeepsAllRuns m t0 t
  pub inside : IsInsideChange t0 t root
  pub linked : (r : ℕ) → IsWellLinked m t0 r → IsLive t r → IsWellLinked m t r
  pub liveness : IsLive t root
  pub before : (k : ℕ) → IsLive t k → IsLive t0 k × (regions_of t k ≡ regions_of t0 k)
  pub operations_back : (k : ℕ) → IsDead m side_effects removable t root (Op k) → IsDead m side_effects removable t0 root (Op k)
  pub arguments_back : (v : ℕ) → IsDead m side_effects removable t root (Arg v) → IsDead m side_effects removable t0 root (Arg v)
  pub operations_forth : (k : ℕ) → IsDead m side_effects removable t0 root (Op k) → IsLive t k → IsDead m side_effects removable t root (Op k)
  pub arguments_forth : (v : ℕ) → IsDead m side_effects removable t0 root (Arg v) → IsDefined t v → IsDead m side_effects removable t root (Arg v)

-- The statements on dead operations and arguments.
use Rattle.std.specs.Prelude.{◌⊎◌, ℕ, Bool, List, [], ◌∷◌, ◌++◌, Option}
use Rattle.pliron_core.specs.Tree.{Tree, IsLive}
use Rattle.pliron_core.specs.Invariant.{IsTree}
use Rattle.pliron_laws.specs.Datum.{Head, Shape, Meaning}
use Rattle.pliron_laws.specs.Linked.{IsWellLinked}
use Rattle.pliron_opt_dce.specs.Dead.{Item, Op, Arg, IsDead}
use Rattle.pliron_opt_dce.specs.Readiness.{IsReady, Among, AreRecorded, AreRevisited}
use Rattle.pliron_opt_dce.specs.Erasing.{ErasesItem, IsSweptSoFar, LeavesNoDead}

-- a candidate that is ready is dead; and where nothing is ready, nothing is dead
pub record ReadyLaws (m : Meaning) (side_effects : Head → Option Bool) (removable : Head → ℕ → Bool → Option Bool) : Type 0 where
  pub dead : (t : Tree) (root : ℕ) (x : Item) → IsReady m side_effects removable t root x → IsDead m side_effects removable t root x
  pub none : (t : Tree) (root : ℕ) → ((x : Item) → IsReady m side_effects removable t root x → ⊥) → (k : ℕ) → IsDead m side_effects removable t root (Op k) → ⊥
  pub no_argument : (t : Tree) (root : ℕ) → ((x : Item) → IsReady m side_effects removable t root x → ⊥) → (v : ℕ) → IsDead m side_effects removable t root (Arg v) → ⊥

-- ready candidates are erased in turn: each step keeps what holds on the way, and at the end none of the dead
-- is live
pub record ErasingLaws (m : Meaning) (shortened : Shape → ℕ → ℕ → Head) (side_effects : Head → Option Bool) (removable : Head → ℕ → Bool → Option Bool) : Type 0 where
  pub start : (t : Tree) (root : ℕ) → IsLive t root → IsSweptSoFar m shortened side_effects removable t t root []
  pub more : (t0 t t' : Tree) (root : ℕ) (deleted : List Item) (x : Item) → IsWellLinked m t0 root → IsTree t → IsTree t' → IsSweptSoFar m shortened side_effects removable t0 t root deleted → IsReady m side_effects removable t root x → ErasesItem m shortened t t' x → IsSweptSoFar m shortened side_effects removable t0 t' root (deleted ++ x ∷ [])
  pub done : (t0 t : Tree) (root : ℕ) (deleted : List Item) → IsSweptSoFar m shortened side_effects removable t0 t root deleted → ((x : Item) → IsReady m side_effects removable t root x → ⊥) → LeavesNoDead m side_effects removable t0 t root

-- what is ready after a whole rewrite was ready before it, or is on the worklist
abbrev pub PendingLaw : Meaning → (Shape → ℕ → ℕ → Head) → (Head → Option Bool) → (Head → ℕ → Bool → Option Bool) → Type 0
PendingLaw m shortened side_effects removable = (t t' : Tree) (root : ℕ) (x : Item) (used : List ℕ) (items : List Item) → IsTree t → IsTree t' → IsWellLinked m t root → IsReady m side_effects removable t root x → ErasesItem m shortened t t' x → AreRecorded t t' used → AreRevisited t' used items → (y : Item) → IsReady m side_effects removable t' root y → IsReady m side_effects removable t root y ⊎ Among y items

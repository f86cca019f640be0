-- What is on the worklist.
use Rattle.std.specs.Prelude.{◌≡◌, ◌≢◌, ◌++◌, ℕ, Bool, List, map, Option, Some}
use Rattle.pliron_core.specs.Tree.{Tree, In, IsLive, IsInside, IsWithin, HoldsBlock, arguments_of, block_parent_operation_of}
use Rattle.pliron_core.specs.Changes.{IsDefinedInside}
use Rattle.pliron_laws.specs.Datum.{Head, Meaning}
use Rattle.pliron_opt_dce.specs.declared.worklist.DeadCandidate.{DeadCandidate}
use Rattle.pliron_opt_dce.specs.declared.worklist.Worklist.{Worklist}
use Rattle.pliron_opt_dce.specs.declared.worklist.DeadCandidate.TheVariants.{Operation, Argument}
use Rattle.pliron_opt_dce.specs.Dead.{Item, Op, Arg}
use Rattle.pliron_opt_dce.specs.Readiness.{IsReady, Among}

abbrev pub item_of : DeadCandidate → Item
item_of (Operation k) = Op k
item_of (Argument v) = Arg v

abbrev pub items_of : List DeadCandidate → List Item
items_of cs = map item_of cs

-- what is on the worklist: for once nothing else is ready, for the next round, and in this one
abbrev pub pending_candidates : Worklist → List DeadCandidate
pending_candidates w = map (λ k. Operation k) w.around.ops.items ++ (w.later.items ++ w.round.items)

-- with each of these operations that is live, those around it are among them
abbrev pub AreClosedUnderNesting : Tree → List ℕ → Type 0
AreClosedUnderNesting t ks = (k a : ℕ) → In k ks → IsLive t k → IsInside t a k → In a ks

-- each candidate that is ready is among these
abbrev pub HasReady : Meaning → (Head → Option Bool) → (Head → ℕ → Bool → Option Bool) → Tree → ℕ → List DeadCandidate → Type 0
HasReady m side_effects removable t root worklist = (x : Item) → IsReady m side_effects removable t root x → Among x (items_of worklist)

-- each candidate among the first that is ready is among the second
abbrev pub KeepsReady : Meaning → (Head → Option Bool) → (Head → ℕ → Bool → Option Bool) → Tree → ℕ → (old new : List DeadCandidate) → Type 0
KeepsReady m side_effects removable t root old new = (x : Item) → IsReady m side_effects removable t root x → Among x (items_of old) → Among x (items_of new)

-- what was there is there, and each operation around the value
pub record AddsParents (t : Tree) (v : ℕ) (old new : List ℕ) : Type 0 where
  pub kept : (k : ℕ) → In k old → In k new
  pub around : (k : ℕ) → IsDefinedInside t k v → In k new

-- the operation directly around what defines the value
abbrev pub IsAroundMaker : Tree → ℕ → Option ℕ → Type 0
IsAroundMaker t v o = (k : ℕ) → IsDefinedInside t k v → (a : ℕ) × (o ≡ Some a) × IsWithin t k a

-- what was there is there, and all arguments of these blocks
pub record AddsArguments (t : Tree) (IsOne : ℕ → Type 0) (old new : List DeadCandidate) : Type 0 where
  pub kept : (x : Item) → Among x (items_of old) → Among x (items_of new)
  pub added : (b v : ℕ) → IsOne b → In v (arguments_of t b) → Among (Arg v) (items_of new)

-- the operation is among these, unless it is the root, and all arguments of blocks directly in it
pub record IsCovered (t : Tree) (root : ℕ) (items : List Item) (k : ℕ) : Type 0 where
  pub operation : k ≢ root → Among (Op k) items
  pub arguments : (b v : ℕ) → block_parent_operation_of t b ≡ Some k → In v (arguments_of t b) → Among (Arg v) items

-- all operations inside the root are among these, and all arguments of blocks there
pub record AreAllInside (t : Tree) (root : ℕ) (items : List Item) : Type 0 where
  pub operations : (k : ℕ) → IsInside t root k → Among (Op k) items
  pub arguments : (b v : ℕ) → HoldsBlock t root b → In v (arguments_of t b) → Among (Arg v) items

-- When a candidate may be erased at once.
use Rattle.std.specs.Prelude.{◌≡◌, ◌⊎◌, ℕ, Bool, List, [], ◌∷◌, Option, Some}
use Rattle.pliron_core.specs.declared.context.Def.TheVariants.{Result, Argument}
use Rattle.pliron_core.specs.Changes.{IsDefinedInside}
use Rattle.pliron_core.specs.Tree.{Tree, In, IsLive, IsDefined, IsWithin, operands_of, results_of, definition_of}
use Rattle.pliron_laws.specs.Datum.{Head, Meaning}
use Rattle.pliron_opt_dce.specs.Dead.{Item, Op, Arg, Use, MayBeErased, MayBeRemoved, KeepsAlive}

-- what is among these
abbrev pub Among : Item → List Item → Type 0
Among x [] = ⊥
Among x (y ∷ ys) = (x ≡ y) ⊎ Among x ys

-- the operation may be erased, and nothing keeps it alive
pub record IsReadyOperation (m : Meaning) (side_effects : Head → Option Bool) (t : Tree) (root k : ℕ) : Type 0 where
  pub may : MayBeErased m side_effects t root k
  pub none : (user place : ℕ) → KeepsAlive t k user place → ⊥

-- the argument may be removed, and nothing uses it
pub record IsReadyArgument (m : Meaning) (removable : Head → ℕ → Bool → Option Bool) (t : Tree) (root v : ℕ) : Type 0 where
  pub may : MayBeRemoved m removable t root v
  pub none : (user : ℕ) → In v (operands_of t user) → ⊥

abbrev pub IsReady : Meaning → (Head → Option Bool) → (Head → ℕ → Bool → Option Bool) → Tree → ℕ → Item → Type 0
IsReady m side_effects removable t root (Op k) = IsReadyOperation m side_effects t root k
IsReady m side_effects removable t root (Arg v) = IsReadyArgument m removable t root v
IsReady m side_effects removable t root (Use user place) = ⊥

-- no result of the operation is used
abbrev pub HaveNoUse : Tree → ℕ → Type 0
HaveNoUse t k = (v user : ℕ) → In v (results_of t k) → In v (operands_of t user) → ⊥

-- these are the operands of the operation and of all operations inside it
abbrev pub AreOperandsWithin : Tree → ℕ → List ℕ → Type 0
AreOperandsWithin t k values = (user v : ℕ) → IsWithin t k user → In v (operands_of t user) → In v values

-- each value that lost a use is among these
abbrev pub AreRecorded : (t t' : Tree) → List ℕ → Type 0
AreRecorded t t' used = (user v : ℕ) → In v (operands_of t user) → In v used ⊎ In v (operands_of t' user)

-- what defines each of these values, where it is live, is among the items, and so is each operation around it
pub record AreRevisited (t : Tree) (used : List ℕ) (items : List Item) : Type 0 where
  pub makers : (v k i : ℕ) → In v used → IsDefined t v → definition_of t v ≡ Some (Result k i) → Among (Op k) items
  pub arguments : (v b i : ℕ) → In v used → IsDefined t v → definition_of t v ≡ Some (Argument b i) → Among (Arg v) items
  pub around : (v k : ℕ) → In v used → IsDefined t v → IsDefinedInside t k v → Among (Op k) items

-- the values are as before, and the operands of the operation
pub record AddsOperands (t : Tree) (k : ℕ) (old new : List ℕ) : Type 0 where
  pub kept : (v : ℕ) → In v old → In v new
  pub added : (v : ℕ) → In v (operands_of t k) → In v new

-- some use keeps the operation alive
abbrev pub IsKeptAlive : Tree → ℕ → Type 0
IsKeptAlive t k = (user : ℕ) × (place : ℕ) × KeepsAlive t k user place

-- an operation that is not within this one uses the value
abbrev pub IsUsedOutside : Tree → ℕ → ℕ → Type 0
IsUsedOutside t k v = (user : ℕ) × In v (operands_of t user) × (IsWithin t k user → ⊥)

-- each operation from this one up to the top is kept alive
pub record IsHeldUpTo (t : Tree) (at top : ℕ) : Type 0 where
  pub live : IsLive t at
  pub within : IsWithin t top at
  pub held : (k : ℕ) → IsWithin t top k → IsWithin t k at → IsKeptAlive t k

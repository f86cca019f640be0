-- The data that operations pass, and the transitions that an operation makes.
pub use Rattle.pliron_core.specs.declared.attrs.Head.{Head}
use Rattle.pliron_core.specs.declared.attrs.AttrObj.{AttrObj}
use Rattle.pliron_core.specs.declared.attrs.AttrObj.TheVariants.{Int, Text as Words}
use Rattle.std.specs.Prelude.{ℕ, ℤ, Bool, List, Option}

-- a tree of whole numbers and texts: a list of trees is a chain of `Join`s that ends in `Empty`
pub data Datum : Type 0 where
  Empty : Datum
  Number : ℤ → Datum
  Text : List ℕ → Datum
  Join : (first others : Datum) → Datum

-- a constant's datum is the content of its attribute
abbrev pub datum_of : AttrObj → Datum
datum_of (Int n) = Number n
datum_of (Words s) = Text s

-- what the transitions of an operation may depend on: its head, how many operands, results and successors it
-- has, how many arguments the entry block of each of its regions has, and, unless it is a branch, how many
-- arguments each successor has
pub record Shape : Type 0 where
  pub head : Head
  pub operands : ℕ
  pub results : ℕ
  pub successors : ℕ
  pub entry_arguments : List ℕ
  pub target_arguments : Option (List ℕ)

-- one transition of an operation
pub data Move : Type 0 where
  Give : (results : List Datum) → Move
  Visit : (region : ℕ) (values : List Datum) (memo : Datum) → Move
  Goto : (successor : ℕ) (values : List Datum) → Move
  Leave : (values : List Datum) → Move
  Emit : (effect memo : Datum) → Move
  Trap : Move

-- what a dialect says of its operations
pub record Meaning : Type 0 where
  -- the transition that an operation of this shape makes with this memo on this input
  pub act : Shape → Datum → List Datum → Move
  -- whether the dialect has operations with this head and these counts of operands, results,
  -- successors and regions
  pub admits : Head → (operands results successors regions : ℕ) → Bool
  -- whether an operation with this head may be a root that is run by itself
  pub may_be_root : Head → Bool
  pub is_terminator : Head → Bool
  pub is_branch : Head → Bool
  -- the places of the operands that a branch of this shape forwards along the edge with this index
  pub forwarded : Shape → ℕ → List ℕ

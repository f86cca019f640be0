-- What tests of a planned rotation tell.
use Rattle.std.specs.Prelude.{◌≡◌, ◌≢◌, ◌⊎◌, ℕ, List, [], Some, None}
use Rattle.pliron_core.specs.declared.context.Def.TheVariants.{Result, Argument}
use Rattle.pliron_core.specs.Tree.{Tree, In, IsDefined, first_of, layout_of, operands_of, successors_of, parent_of, block_parent_of, definition_of}
use Rattle.pliron_laws.specs.Root.{defining_block}
use Rattle.pliron_opt_rotate.specs.Walked.{IsPassedFirst}
use Rattle.pliron_opt_rotate.specs.declared.covering.Covers.{Covers}

-- the operation stands in this block, another one of the region than the header
pub record StandsElsewhere (t : Tree) (header region k b : ℕ) : Type 0 where
  pub in_block : parent_of t k ≡ Some b
  pub in_region : block_parent_of t b ≡ Some region
  pub apart : b ≢ header

-- the operation stands so, and each path to it passes the gate, and the header
pub record IsUserBehind (t : Tree) (header region gate k : ℕ) : Type 0 where
  pub block : ℕ
  pub stands : StandsElsewhere t header region k block
  pub behind_gate : IsPassedFirst t region gate block
  pub behind_header : IsPassedFirst t region header block

-- the value is an argument of the header, or a result of an operation of it without successors
pub data IsMadeIn (t : Tree) (header v : ℕ) : Type 0 where
  OfArgument : (i : ℕ) → definition_of t v ≡ Some (Argument header i) → IsMadeIn t header v
  OfResult : (k i : ℕ) → definition_of t v ≡ Some (Result k i) → parent_of t k ≡ Some header → successors_of t k ≡ [] → IsMadeIn t header v

pub record IsValueOf (t : Tree) (header v : ℕ) : Type 0 where
  pub live : IsDefined t v
  pub made : IsMadeIn t header v

-- an operation of the header leads to the block
abbrev pub IsLedFrom : Tree → (header block : ℕ) → Type 0
IsLedFrom t header block = (k : ℕ) × (parent_of t k ≡ Some header) × In block (successors_of t k)

-- the gate stands in the region beside the header; if it has users, then it isn't the region's entry, the header leads to
-- it, and the users are behind it
pub record IsGateOf (t : Tree) (header region gate : ℕ) (users : List ℕ) : Type 0 where
  pub apart : gate ≢ header
  pub in_region : block_parent_of t gate ≡ Some region
  pub no_entry : (k : ℕ) → In k users → first_of (layout_of t region) None ≢ Some gate
  pub led : (k : ℕ) → In k users → IsLedFrom t header gate
  pub behind : (k : ℕ) → In k users → IsUserBehind t header region gate k

-- the operation is one of the header, or one of these
abbrev pub IsLeaderCovered : Tree → (header : ℕ) → (users more : List ℕ) → (k : ℕ) → Type 0
IsLeaderCovered t header users more k = (parent_of t k ≡ Some header) ⊎ (In k users ⊎ In k more)

-- the operation is one of the header, or one to which the value is passed
abbrev pub IsUseCovered : Tree → (header : ℕ) → (values users more : List ℕ) → (v k : ℕ) → Type 0
IsUseCovered t header values users more v k = (parent_of t k ≡ Some header) ⊎ (In v values × (In k users ⊎ In k more))

-- the values of the header are used by such operations alone
abbrev pub AreUsesCovered : Tree → (header : ℕ) → (values users more : List ℕ) → Type 0
AreUsesCovered t header values users more = (k v : ℕ) → In v (operands_of t k) → defining_block t (definition_of t v) ≡ Some header → IsUseCovered t header values users more v k

-- and such operations alone lead to the block
abbrev pub AreLeadersCovered : Tree → (header block : ℕ) → (users more : List ℕ) → Type 0
AreLeadersCovered t header block users more = (k : ℕ) → In block (successors_of t k) → IsLeaderCovered t header users more k

-- what is in the sets is in the lists
pub record AreCovers (values users more : List ℕ) (x : Covers) : Type 0 where
  pub values_in : (v : ℕ) → In v x.values.keys → In v values
  pub body_in : (k : ℕ) → In k x.body.keys → In k users
  pub exit_in : (k : ℕ) → In k x.exit.keys → In k more

-- The operations behind one in its block became those of a new block.
--
--     before:   ^a: front ; op ; behind              after:   ^a: front ; op       ^n(..): behind
use Rattle.std.specs.Prelude.{◌≡◌, ◌≢◌, ℕ, ◌+◌, List, [], ◌∷◌, ◌++◌, Some, length}
use Rattle.std.specs.List.{range_with_len}
use Rattle.pliron_core.specs.Tree.{Tree, In, parent_of, body_of, arguments_of, block_parent_of, layout_of}
use Rattle.pliron_core.specs.Writes.{argument_definitions}

-- some operations behind op moved from its block to the end of the block `new`, which had none, and these are still behind op
pub record AreMoving (t u : Tree) (op block new : ℕ) (rest : List ℕ) : Type 0 where
  pub front : List ℕ
  pub done : List ℕ
  pub before : body_of t block ≡ front ++ op ∷ (done ++ rest)
  pub at_block : body_of u block ≡ front ++ op ∷ rest
  pub at_new : body_of u new ≡ done
  pub others : (b : ℕ) → b ≢ block → b ≢ new → body_of u b ≡ body_of t b
  pub moved : (k : ℕ) → In k done → parent_of u k ≡ Some new
  pub stays : (k : ℕ) → (In k done → ⊥) → parent_of u k ≡ parent_of t k
  pub long : length u.bodies ≡ length t.bodies
  pub parents_long : length u.parents ≡ length t.parents
  pub same : u ≡ record t { bodies = u.bodies; parents = u.parents }

-- the operations behind op are those of the next block that t has no handle for yet, which is the last one of the region
-- and has so many new arguments; all else is as before
pub record IsSplitBehind (t u : Tree) (op arguments : ℕ) : Type 0 where
  pub block : ℕ
  pub region : ℕ
  pub front : List ℕ
  pub behind : List ℕ
  pub holds : parent_of t op ≡ Some block
  pub in_region : block_parent_of t block ≡ Some region
  pub before : body_of t block ≡ front ++ op ∷ behind
  pub kept : body_of u block ≡ front ++ op ∷ []
  pub moved : body_of u (length t.bodies) ≡ behind
  pub new_parents : (k : ℕ) → In k behind → parent_of u k ≡ Some (length t.bodies)
  pub new_arguments : arguments_of u (length t.bodies) ≡ range_with_len (length t.definitions) arguments
  pub new_definitions : u.definitions ≡ t.definitions ++ argument_definitions (length t.bodies) arguments
  pub beside : block_parent_of u (length t.bodies) ≡ Some region
  pub last : layout_of u region ≡ layout_of t region ++ length t.bodies ∷ []
  pub count : length u.bodies ≡ length t.bodies + 1
  pub operations : u.operations ≡ t.operations
  pub operands : u.operands ≡ t.operands
  pub successors : u.successors ≡ t.successors
  pub slots : u.slots ≡ t.slots
  pub parents : (k : ℕ) → (In k behind → ⊥) → parent_of u k ≡ parent_of t k
  pub bodies : (b : ℕ) → b ≢ block → b ≢ length t.bodies → body_of u b ≡ body_of t b
  pub other_arguments : (b : ℕ) → b ≢ length t.bodies → arguments_of u b ≡ arguments_of t b
  pub block_parents : (b : ℕ) → b ≢ length t.bodies → block_parent_of u b ≡ block_parent_of t b
  pub layouts : (r : ℕ) → r ≢ region → layout_of u r ≡ layout_of t r

-- Blocks were copied into a region.
--
--     before:   ^e(y): w = add y y ; jump ^f(w)      ^f(z): ..
--     after:    as before, and at the end of the region:      ^n(p): q = add p p ; jump ^m(q)      ^m(r): ..
use Rattle.std.specs.Prelude.{◌≡◌, ◌≢◌, ◌+◌, ◌-◌, ◌<◌, ◌≤◌, ℕ, nat_lt, if◌then◌else◌, List, [], ◌++◌, Some, IsSome, length, get_or, map}
use Rattle.std.specs.List.{flat_map, range_with_len}
use Rattle.pliron_core.specs.Tree.{Tree, In, IsLive, IsBlock, row_of, operands_of, successors_of, results_of, regions_of, parent_of, body_of, arguments_of, block_parent_of, layout_of, definition_of}
use Rattle.pliron_rewrite_copies.specs.Copies.{Originals, IsCopiedOperation}
use Rattle.pliron_rewrite_calls.specs.declared.copies.Copies.{Copies}
use Rattle.pliron_rewrite_calls.specs.CopyTables.{block_copy, value_copy}

-- what was copied, each list in the order in which the copies were made
pub record CopiedParts : Type 0 where
  pub blocks : List ℕ
  pub operations : List ℕ
  pub values : List ℕ

abbrev pub operations_of : Tree → List ℕ → List ℕ
operations_of t blocks = flat_map (λ b. body_of t b) blocks

-- what is copied with these blocks
abbrev pub parts_of : Tree → List ℕ → CopiedParts
parts_of t blocks = record {
  blocks = blocks;
  operations = operations_of t blocks;
  values = flat_map (λ b. arguments_of t b) blocks ++ flat_map (λ k. results_of t k) (operations_of t blocks);
}

-- the original, by the handle of the copy: copies have the handles from `first` on, and what has another is its own original
abbrev pub original_by : (originals : List ℕ) (first : ℕ) → ℕ → ℕ
original_by originals first k = if nat_lt k first then k else get_or originals (k - first) k

abbrev pub originals_of : Tree → List ℕ → Originals
originals_of t blocks = record {
  operation = original_by (parts_of t blocks).operations (length t.operations);
  block = original_by blocks (length t.bodies);
  region = λ r. r;
  value = original_by (parts_of t blocks).values (length t.definitions);
}

-- the block b of u has copies of what its original has, and is in this region
pub record IsBlockCopyIn (t u : Tree) (o : Originals) (region b : ℕ) : Type 0 where
  pub arguments : arguments_of t (o.block b) ≡ map o.value (arguments_of u b)
  pub body : body_of t (o.block b) ≡ map o.operation (body_of u b)
  pub parent : block_parent_of u b ≡ Some region

-- the operation k of u is as its original, but that it names copies of what was copied; it has no regions
pub record IsOperationCopy (t u : Tree) (o : Originals) (k : ℕ) : Type 0 where
  pub live : IsLive u k
  pub same : IsCopiedOperation t u o k
  pub childless : regions_of u k ≡ []

-- u is t with copies of these blocks, the last ones of the region; they have the next handles; all else is as before
pub record AreCopiedInto (t u : Tree) (region : ℕ) (blocks : List ℕ) : Type 0 where
  pub operation_count : length u.operations ≡ length t.operations + length (parts_of t blocks).operations
  pub block_count : length u.bodies ≡ length t.bodies + length blocks
  pub value_count : length u.definitions ≡ length t.definitions + length (parts_of t blocks).values
  pub copies : (k : ℕ) → length t.operations ≤ k → k < length u.operations → IsOperationCopy t u (originals_of t blocks) k
  pub block_copies : (b : ℕ) → length t.bodies ≤ b → b < length u.bodies → IsBlockCopyIn t u (originals_of t blocks) region b
  -- what a copy names is a copy, or was not copied
  pub named : (k v : ℕ) → length t.operations ≤ k → In v (operands_of u k) → In v (parts_of t blocks).values → ⊥
  pub led : (k b : ℕ) → length t.operations ≤ k → In b (successors_of u k) → In b blocks → ⊥
  pub last : layout_of u region ≡ layout_of t region ++ range_with_len (length t.bodies) (length blocks)
  pub slots : u.slots ≡ t.slots
  pub rows : (k : ℕ) → k < length t.operations → row_of u k ≡ row_of t k
  pub operands : (k : ℕ) → k < length t.operations → operands_of u k ≡ operands_of t k
  pub successors : (k : ℕ) → k < length t.operations → successors_of u k ≡ successors_of t k
  pub parents : (k : ℕ) → k < length t.operations → parent_of u k ≡ parent_of t k
  pub bodies : (b : ℕ) → b < length t.bodies → body_of u b ≡ body_of t b
  pub arguments : (b : ℕ) → b < length t.bodies → arguments_of u b ≡ arguments_of t b
  pub block_parents : (b : ℕ) → b < length t.bodies → block_parent_of u b ≡ block_parent_of t b
  pub layouts : (r : ℕ) → r ≢ region → layout_of u r ≡ layout_of t r
  pub definitions : (v : ℕ) → v < length t.definitions → definition_of u v ≡ definition_of t v

-- of each block and each value that was copied these have the copy
pub record KnowsCopies (t u : Tree) (blocks : List ℕ) (copies : Copies) : Type 0 where
  pub block : (b c : ℕ) → block_copy copies b ≡ Some c → (length t.bodies ≤ c) × ((originals_of t blocks).block c ≡ b) × IsBlock u c
  pub value : (v w : ℕ) → value_copy copies v ≡ Some w → (length t.definitions ≤ w) × ((originals_of t blocks).value w ≡ v)
  pub blocks_known : (b : ℕ) → In b blocks → IsSome (block_copy copies b)
  pub values_known : (v : ℕ) → In v (parts_of t blocks).values → IsSome (value_copy copies v)

-- no operation in the blocks has regions
abbrev pub AreChildless : Tree → (blocks : List ℕ) → Type 0
AreChildless t blocks = (b k : ℕ) → In b blocks → In k (body_of t b) → regions_of t k ≡ []

-- The steps by which blocks are copied into a region.
use Rattle.std.specs.Prelude.{◌≡◌, ◌≢◌, ◌⊎◌, ◌+◌, ◌<◌, ◌≤◌, ℕ, List, [], ◌++◌, Option, Some, IsSome, length, map, filter, slice_get}
use Rattle.std.specs.List.{flat_map, range_with_len}
use Rattle.pliron_core.specs.Erased.{is_the}
use Rattle.pliron_core.specs.Invariant.{IsTree}
use Rattle.pliron_core.specs.declared.context.Def.{Def}
use Rattle.pliron_core.specs.Tree.{Tree, In, IsDistinct, last_of, IsLive, IsBlock, IsRegion, IsDefined, row_of, head_of, operands_of, successors_of, results_of, regions_of, parent_of, body_of, arguments_of, block_parent_of, layout_of, definition_of}
use Rattle.pliron_rewrite_copies.specs.Copies.{Originals}
use Rattle.pliron_rewrite_calls.specs.declared.copies.Copies.{Copies}
use Rattle.pliron_rewrite_calls.specs.CopyTables.{block_copy, value_copy, block_or_copy_in, value_or_copy_in}
use Rattle.pliron_rewrite_calls.specs.Copying.{originals_of, AreChildless}

-- blocks of a tree, and the region that gets their copies
pub record CopySource : Type 0 where
  pub tree : Tree
  pub blocks : List ℕ
  pub region : ℕ

abbrev pub copy_originals : CopySource → Originals
copy_originals x = originals_of x.tree x.blocks

-- they may be copied there
pub record MayCopy (x : CopySource) : Type 0 where
  pub tree : IsTree x.tree
  pub live : (b : ℕ) → In b x.blocks → IsBlock x.tree b
  pub apart : IsDistinct x.blocks
  pub childless : AreChildless x.tree x.blocks
  pub into : IsRegion x.tree x.region

-- u is t with more blocks at the end of the region, which hold all that is new and live; nothing new has regions
pub record IsGrownIn (t u : Tree) (region : ℕ) : Type 0 where
  pub added : List ℕ
  pub last : layout_of u region ≡ layout_of t region ++ added
  pub fresh : (b : ℕ) → In b added → length t.bodies ≤ b
  pub operation_count : length t.operations ≤ length u.operations
  pub block_count : length t.bodies ≤ length u.bodies
  pub value_count : length t.definitions ≤ length u.definitions
  pub slots : u.slots ≡ t.slots
  pub rows : (k : ℕ) → k < length t.operations → row_of u k ≡ row_of t k
  pub operands : (k : ℕ) → k < length t.operations → operands_of u k ≡ operands_of t k
  pub successors : (k : ℕ) → k < length t.operations → successors_of u k ≡ successors_of t k
  pub parents : (k : ℕ) → k < length t.operations → parent_of u k ≡ parent_of t k
  pub bodies : (b : ℕ) → b < length t.bodies → body_of u b ≡ body_of t b
  pub arguments : (b : ℕ) → b < length t.bodies → arguments_of u b ≡ arguments_of t b
  pub block_parents : (b : ℕ) → b < length t.bodies → block_parent_of u b ≡ block_parent_of t b
  pub layouts : (r : ℕ) → r ≢ region → layout_of u r ≡ layout_of t r
  pub definitions : (v : ℕ) (d : Def) → definition_of t v ≡ Some d → definition_of u v ≡ Some d
  pub childless : (k : ℕ) → length t.operations ≤ k → regions_of u k ≡ []
  pub placed : (k : ℕ) → length t.operations ≤ k → IsLive u k → (b : ℕ) × (parent_of u k ≡ Some b) × (length t.bodies ≤ b)

-- nothing new names anything
abbrev pub AreBare : (t u : Tree) → Type 0
AreBare t u = (k : ℕ) → length t.operations ≤ k → (operands_of u k ≡ []) × (successors_of u k ≡ [])

-- the operation k is as its original, but for what it names
pub record IsOperationMade (t u : Tree) (o : Originals) (k : ℕ) : Type 0 where
  pub live : IsLive u k
  pub head : head_of t (o.operation k) ≡ head_of u k
  pub results : results_of t (o.operation k) ≡ map o.value (results_of u k)

-- the block b has copies of the arguments of its original, and of those of these operations that are in its original
pub record IsBlockMade (t u : Tree) (o : Originals) (region : ℕ) (ks : List ℕ) (b : ℕ) : Type 0 where
  pub arguments : arguments_of t (o.block b) ≡ map o.value (arguments_of u b)
  pub body : map o.operation (body_of u b) ≡ filter (λ k. is_the (o.block b) (parent_of t k)) ks
  pub parent : block_parent_of u b ≡ Some region

-- copies of these first blocks and of these first operations were made
pub record AreCopiesMade (x : CopySource) (u : Tree) (bs ks : List ℕ) : Type 0 where
  pub grown : IsGrownIn x.tree u x.region
  pub operation_count : length u.operations ≡ length x.tree.operations + length ks
  pub block_count : length u.bodies ≡ length x.tree.bodies + length bs
  pub value_count : length u.definitions ≡ length x.tree.definitions + (length (flat_map (λ b. arguments_of x.tree b) bs) + length (flat_map (λ k. results_of x.tree k) ks))
  pub operations : (k : ℕ) → length x.tree.operations ≤ k → k < length u.operations → IsOperationMade x.tree u (copy_originals x) k
  pub blocks : (b : ℕ) → length x.tree.bodies ≤ b → b < length u.bodies → IsBlockMade x.tree u (copy_originals x) x.region ks b
  pub last : layout_of u x.region ≡ layout_of x.tree x.region ++ range_with_len (length x.tree.bodies) (length bs)

-- these are the copies of these first blocks, and of these values
pub record AreMapped (x : CopySource) (u : Tree) (bs vs : List ℕ) (copies : Copies) : Type 0 where
  pub block : (b c : ℕ) → block_copy copies b ≡ Some c → (length x.tree.bodies ≤ c) × ((copy_originals x).block c ≡ b) × IsBlock u c
  pub value : (v w : ℕ) → value_copy copies v ≡ Some w → (length x.tree.definitions ≤ w) × ((copy_originals x).value w ≡ v) × IsDefined u w
  pub blocks : (b : ℕ) → In b bs → IsSome (block_copy copies b)
  pub values : (v : ℕ) → In v vs → IsSome (value_copy copies v)

abbrev pub values_made : CopySource → (bs ks : List ℕ) → List ℕ
values_made x bs ks = flat_map (λ b. arguments_of x.tree b) bs ++ flat_map (λ k. results_of x.tree k) ks

pub record IsCopying (x : CopySource) (u : Tree) (bs ks : List ℕ) (copies : Copies) : Type 0 where
  pub made : AreCopiesMade x u bs ks
  pub mapped : AreMapped x u bs (values_made x bs ks) copies

-- the first so many of these values have those as copies
pub record AreValuesAdded (xs ys : List ℕ) (n : ℕ) (copies copies' : Copies) : Type 0 where
  pub blocks : (b : ℕ) → block_copy copies' b ≡ block_copy copies b
  pub values : (v : ℕ) → (value_copy copies' v ≡ value_copy copies v) ⊎ ((i w : ℕ) × (slice_get xs i ≡ Some v) × (slice_get ys i ≡ Some w) × (value_copy copies' v ≡ Some w))
  pub known : (i v : ℕ) → i < n → slice_get xs i ≡ Some v → IsSome (value_copy copies' v)
  pub more : (v : ℕ) → IsSome (value_copy copies v) → IsSome (value_copy copies' v)

-- u is t, but that k has these operands and these successors
pub record HasNames (t u : Tree) (k : ℕ) (xs ys : List ℕ) : Type 0 where
  pub same : u ≡ record t { operands = u.operands; successors = u.successors }
  pub operands : operands_of u k ≡ xs
  pub successors : successors_of u k ≡ ys
  pub other_operands : (j : ℕ) → j ≢ k → operands_of u j ≡ operands_of t j
  pub other_successors : (j : ℕ) → j ≢ k → successors_of u j ≡ successors_of t j
  pub long : (length u.operands ≡ length t.operands) × (length u.successors ≡ length t.successors)

-- copies of the first so many operations name what those of the blocks name, or its copies; the others name nothing yet
pub record AreConnected (x : CopySource) (u : Tree) (copies : Copies) (n : ℕ) : Type 0 where
  pub operands : (k : ℕ) → length x.tree.operations ≤ k → k < length x.tree.operations + n → operands_of u k ≡ map (value_or_copy_in copies) (operands_of x.tree ((copy_originals x).operation k))
  pub successors : (k : ℕ) → length x.tree.operations ≤ k → k < length x.tree.operations + n → successors_of u k ≡ map (block_or_copy_in copies) (successors_of x.tree ((copy_originals x).operation k))
  pub bare : (k : ℕ) → length x.tree.operations + n ≤ k → (operands_of u k ≡ []) × (successors_of u k ≡ [])

-- of the new blocks of the region these last ones name nothing any more, and this is the block before them
pub record IsDropping (t u : Tree) (region : ℕ) (last at : Option ℕ) : Type 0 where
  pub grown : IsGrownIn t u region
  pub left : List ℕ
  pub done : List ℕ
  pub split : grown.added ≡ left ++ done
  pub here : at ≡ last_of last left
  pub bare : (k b : ℕ) → In b done → parent_of u k ≡ Some b → (operands_of u k ≡ []) × (successors_of u k ≡ [])

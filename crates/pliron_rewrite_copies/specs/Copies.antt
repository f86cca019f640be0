-- Trees with copies of blocks of another tree: of a loop's header, of a loop, of a block that an edge is threaded through.
--
--     before:   ^a: jump ^h       ^h: .. ; branch ^k ^e       ^k: .. ; jump ^h
--     after:    ^a: jump ^c       ^h: .. ; branch ^k ^e       ^k: .. ; jump ^h       ^c: .. ; branch ^k ^e
--
--     ^c is a copy of ^h: each operation and value of it has its original there. The edge from ^a, which led to ^h, leads to
--     ^c, whose original ^h is
use Rattle.std.specs.Prelude.{◌≡◌, ◌≢◌, ◌⊎◌, ℕ, Some, None, map}
use Rattle.std.specs.Option.{option_map}
use Rattle.pliron_core.specs.Changes.{IsDefinedInside}
use Rattle.pliron_core.specs.Tree.{Tree, In, IsLive, IsRegion, IsInside, IsWithin, first_of, head_of, operands_of, successors_of, results_of, regions_of, parent_of, body_of, arguments_of, block_parent_of, layout_of, definition_of}
use Rattle.pliron_laws.specs.Paths.{Leads}
use Rattle.pliron_laws.specs.Root.{defining_block}
use Rattle.pliron_laws.specs.Linked.{EdgesLast}

-- the original, in the tree before, of each operation, block, region and value of the tree after
pub record Originals : Type 0 where
  pub operation : ℕ → ℕ
  pub block : ℕ → ℕ
  pub region : ℕ → ℕ
  pub value : ℕ → ℕ

-- the operation k of u is as its original in t, but that it names copies of what that names
pub record IsCopiedOperation (t u : Tree) (o : Originals) (k : ℕ) : Type 0 where
  pub head : head_of t (o.operation k) ≡ head_of u k
  pub operands : operands_of t (o.operation k) ≡ map o.value (operands_of u k)
  pub results : results_of t (o.operation k) ≡ map o.value (results_of u k)
  pub successors : successors_of t (o.operation k) ≡ map o.block (successors_of u k)
  pub regions : regions_of t (o.operation k) ≡ map o.region (regions_of u k)

-- the block b, in the region r of u, has copies of what its original has
pub record IsCopiedBlock (t u : Tree) (o : Originals) (b r : ℕ) : Type 0 where
  pub arguments : arguments_of t (o.block b) ≡ map o.value (arguments_of u b)
  pub body : body_of t (o.block b) ≡ map o.operation (body_of u b)
  pub parent : block_parent_of t (o.block b) ≡ Some (o.region r)

-- all that is live in u has an original in t
pub record HasOriginals (t u : Tree) (o : Originals) : Type 0 where
  pub operations : (k : ℕ) → IsLive u k → IsCopiedOperation t u o k
  pub blocks : (b r : ℕ) → block_parent_of u b ≡ Some r → IsCopiedBlock t u o b r
  pub entries : (k r : ℕ) → In r (regions_of u k) → first_of (layout_of t (o.region r)) None ≡ option_map o.block (first_of (layout_of u r) None)

-- the user, or an operation that it is inside, is in the region whose block defines the value, and where that block is
-- in a copy it is in the same one
pub record IsUsedBeside (u : Tree) (copy : ℕ → ℕ) (user v : ℕ) : Type 0 where
  pub definer : ℕ
  pub defined : defining_block u (definition_of u v) ≡ Some definer
  pub around : ℕ
  pub holds : IsWithin u around user
  pub block : ℕ
  pub in_block : parent_of u around ≡ Some block
  pub beside : block_parent_of u block ≡ block_parent_of u definer
  pub same_copy : copy definer ≢ 0 → copy block ≡ copy definer

-- the copies are closed, as far as the root is concerned: blocks are entered at the header of their copy, and values are
-- used in their copy alone. `copy b` is the number of the copy that has the block b, where what is copied counts as a
-- copy too, and 0 for a block that was not copied
pub record AreClosedCopies (u : Tree) (o : Originals) (copy header : ℕ → ℕ) (root : ℕ) : Type 0 where
  -- two blocks of a region that have one original are in two copies
  pub apart : (b c r : ℕ) → block_parent_of u b ≡ Some r → block_parent_of u c ≡ Some r → o.block b ≡ o.block c → (copy b ≡ copy c) ⊎ (copy b ≡ 0) → b ≡ c
  -- what leads into a copy from elsewhere leads to its header, and so do the invocations of the region
  pub entered : (b c : ℕ) → Leads u b c → copy c ≢ 0 → copy b ≢ copy c → c ≡ header (copy c)
  pub entries : (r e : ℕ) → first_of (layout_of u r) None ≡ Some e → copy e ≢ 0 → e ≡ header (copy e)
  -- two copies of one block have headers that are copies of one block
  pub headers : (b c r : ℕ) → block_parent_of u b ≡ Some r → block_parent_of u c ≡ Some r → o.block b ≡ o.block c → copy b ≢ 0 → o.block (header (copy b)) ≡ o.block (header (copy c))
  pub used : (user v : ℕ) → In v (operands_of u user) → IsInside u root user ⊎ IsDefinedInside u root v → IsUsedBeside u copy user v
  pub edges : EdgesLast u root

-- all that is live in t has a copy in u, as far as the root is concerned: each operation, and each block in each copy of
-- its region; and copies of the root and of what is inside are these
pub record HasCopies (t u : Tree) (o : Originals) (root : ℕ) : Type 0 where
  pub operations : (k : ℕ) → IsLive t k → (c : ℕ) × IsLive u c × (o.operation c ≡ k)
  pub blocks : (r b : ℕ) → IsRegion u r → block_parent_of t b ≡ Some (o.region r) → (c : ℕ) × (block_parent_of u c ≡ Some r) × (o.block c ≡ b)
  pub inside : (k : ℕ) → IsLive u k → IsWithin t root (o.operation k) → IsWithin u root k

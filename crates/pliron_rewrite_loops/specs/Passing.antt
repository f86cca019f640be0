-- A value is passed to a block along all edges, and operations behind the block use the argument in its place.
--
--     before:   ^a: x = .. ; branch ^b       ^b: use x
--     after:    ^a: x = .. ; branch ^b(x)    ^b(q): use q
use Rattle.std.specs.Prelude.{◌≡◌, ◌≢◌, ◌⊎◌, ◌↔◌, ℕ, Bool, List, [], ◌∷◌, Some, None, length, take, slice_get, slice_set}
use Rattle.pliron_core.specs.declared.context.Def.TheVariants.{Argument}
use Rattle.pliron_core.specs.Tree.{Tree, In, IsInside, IsWithin, HoldsBlock, first_of, IsLive, IsBlock, IsDefined, row_of, operands_of, successors_of, results_of, regions_of, parent_of, body_of, arguments_of, block_parent_of, layout_of, slot_of, definition_of}
use Rattle.pliron_core.specs.Writes.{after_replacing}
use Rattle.pliron_laws.specs.Datum.{Head, Shape, Meaning}
use Rattle.pliron_laws.specs.Linked.{IsAdmitted}
use Rattle.pliron_laws.specs.Paths.{Path}
use Rattle.pliron_theory.specs.Keeps.{IsFit, with_roots}
use Rattle.pliron_theory.specs.Renaming.{MayUse}
use Rattle.pliron_rewrite_arguments.specs.Finding.{IsEntry}
use Rattle.pliron_rewrite_loops.specs.Added.{IsArgumentAdded}

-- the user, or an operation that it is inside, stands in the region of the block, where each path from the entry of that
-- region comes to it through the block
pub record StandsBehind (t : Tree) (block user : ℕ) : Type 0 where
  pub around : ℕ
  pub holds : IsWithin t around user
  pub stands : ℕ
  pub region : ℕ
  pub in_block : parent_of t around ≡ Some stands
  pub in_region : block_parent_of t stands ≡ Some region
  pub beside : block_parent_of t block ≡ Some region
  pub passes : (entry : ℕ) (before : List ℕ) → first_of (layout_of t region) None ≡ Some entry → Path t entry stands before → In block (stands ∷ before)

-- the user may name an argument of the block, as far as the root is concerned
pub record MayUseArguments (t : Tree) (root block user : ℕ) : Type 0 where
  pub own : IsInside t root user → HoldsBlock t root block
  pub behind : HoldsBlock t root block → StandsBehind t block user

-- the operand at this index is another value
abbrev pub operand_put : Tree → (op i value : ℕ) → Tree
operand_put t op i value = record t { operands = slice_set t.operands op (slice_set (operands_of t op) i value) }

-- uses of the value by these operations are uses of the argument in u, which is t but for them
pub record UsesArgument (t u : Tree) (users : List ℕ) (value argument : ℕ) : Type 0 where
  pub back : t ≡ after_replacing u argument value
  pub alone : (k : ℕ) → In argument (operands_of u k) → In k users

-- the block got an argument to which each edge forwards the value, and these operations use it where they used the
-- value, or at some of those places
pub record IsPassedInPart (m : Meaning) (shortened : Shape → ℕ → ℕ → Head) (t u : Tree) (block value argument : ℕ) (users : List ℕ) : Type 0 where
  pub middle : Tree
  pub added : IsArgumentAdded m shortened t middle block value argument
  pub used : UsesArgument middle u users value argument

-- and none of them uses the value any more
pub record IsValuePassed (m : Meaning) (shortened : Shape → ℕ → ℕ → Head) (t u : Tree) (block value argument : ℕ) (users : List ℕ) : Type 0 where
  pub passed : IsPassedInPart m shortened t u block value argument users
  pub all : (k : ℕ) → In k users → In value (operands_of u k) → ⊥

-- what has to hold where these values are passed to the block one after the other, and used by these operations
pub record MayPass (m : Meaning) (t : Tree) (block : ℕ) (values users : List ℕ) : Type 0 where
  pub stands : IsBlock t block
  pub no_entry : IsEntry t block → ⊥
  pub defined : (v : ℕ) → In v values → IsDefined t v
  -- what leads to the block may use the values, and some of it is no user
  pub may_use : (chosen : Head → Bool) (root k v : ℕ) → IsFit (with_roots m chosen) t root → In block (successors_of t k) → In v values → MayUse t root k v
  pub some_edge : (k : ℕ) × In block (successors_of t k) × (In k users → ⊥)
  -- the users are behind the block
  pub live : (k : ℕ) → In k users → IsLive t k
  pub behind : (chosen : Head → Bool) (root k : ℕ) → IsFit (with_roots m chosen) t root → In k users → MayUseArguments t root block k

-- each of these values was passed in turn
abbrev pub AreValuesPassed : Meaning → (Shape → ℕ → ℕ → Head) → (t u : Tree) → (block : ℕ) → (values users : List ℕ) → Type 0
AreValuesPassed m shortened t u block [] users = u ≡ t
AreValuesPassed m shortened t u block (v ∷ vs) users = (s : Tree) × (argument : ℕ) × IsValuePassed m shortened t s block v argument users × AreValuesPassed m shortened s u block vs users

-- some of these values were passed in turn, and the next one in part or not at all
pub record AreSomePassed (m : Meaning) (shortened : Shape → ℕ → ℕ → Head) (t u : Tree) (block : ℕ) (values users : List ℕ) : Type 0 where
  pub count : ℕ
  pub whole : Tree
  pub passed : AreValuesPassed m shortened t whole block (take count values) users
  pub next : (u ≡ whole) ⊎ ((v argument : ℕ) × (slice_get values count ≡ Some v) × IsPassedInPart m shortened whole u block v argument users)

-- other values may be passed where they might be; and what an operation named before, it names still, or it leads to the
-- block and names one of the values more
pub record KeepsPassing (m : Meaning) (t u : Tree) (block : ℕ) (values : List ℕ) : Type 0 where
  pub successors : (k : ℕ) → successors_of u k ≡ successors_of t k
  pub named : (k v : ℕ) → IsDefined t v → In v (operands_of u k) → In v (operands_of t k) ⊎ (In v values × In block (successors_of t k))
  pub may_pass : (b : ℕ) (others users : List ℕ) → MayPass m t b others users → MayPass m u b others users

-- whatever was passed to the block for these users, all else is as before: places, edges, what is not forwarded there, and what
-- other operations have; new values are arguments of the block; and what the dialect admitted it admits still
pub record KeepsBesides (m : Meaning) (t u : Tree) (block : ℕ) (users : List ℕ) : Type 0 where
  pub count : length u.operations ≡ length t.operations
  pub live : (k : ℕ) → IsLive u k ↔ IsLive t k
  pub results : (k : ℕ) → results_of u k ≡ results_of t k
  pub regions : (k : ℕ) → regions_of u k ≡ regions_of t k
  pub successors : (k : ℕ) → successors_of u k ≡ successors_of t k
  pub parents : (k : ℕ) → parent_of u k ≡ parent_of t k
  pub bodies : (b : ℕ) → body_of u b ≡ body_of t b
  pub block_parents : (b : ℕ) → block_parent_of u b ≡ block_parent_of t b
  pub layouts : (r : ℕ) → layout_of u r ≡ layout_of t r
  pub slots : (r : ℕ) → slot_of u r ≡ slot_of t r
  pub arguments : (b : ℕ) → b ≢ block → arguments_of u b ≡ arguments_of t b
  pub rows : (k : ℕ) → (In block (successors_of t k) → ⊥) → row_of u k ≡ row_of t k
  pub operands : (k : ℕ) → (In block (successors_of t k) → ⊥) → (In k users → ⊥) → operands_of u k ≡ operands_of t k
  pub defined : (v : ℕ) → IsDefined t v → IsDefined u v
  pub definitions : (v : ℕ) → IsDefined t v → definition_of u v ≡ definition_of t v
  pub new : (v : ℕ) → IsDefined u v → IsDefined t v ⊎ ((i : ℕ) × (definition_of u v ≡ Some (Argument block i)))
  pub admitted : (k : ℕ) → IsAdmitted m t k → IsAdmitted m u k

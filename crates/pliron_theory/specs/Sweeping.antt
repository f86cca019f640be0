-- Trees that lack some operations and blocks of another tree.
use Rattle.std.specs.Prelude.{◌≡◌, ℕ, Bool, true, false, List, [], ◌∷◌, Option, Some, None, length}
use Rattle.pliron_core.specs.declared.context.Def.{Def}
use Rattle.pliron_core.specs.declared.context.Def.TheVariants.{Result, Argument}
use Rattle.pliron_core.specs.Tree.{Tree, In, IsInside, first_of, last_of, row_of, head_of, operands_of, successors_of, regions_of, parent_of, body_of, arguments_of, block_parent_of, layout_of, definition_of, block_parent_operation_of}
use Rattle.pliron_laws.specs.Datum.{Datum, Empty, Head, Meaning, Give}
use Rattle.pliron_laws.specs.Tree.{Operation, op_at, shape_of}
use Rattle.pliron_laws.specs.Linked.{IsAdmitted}

abbrev pub keep : Bool → ℕ → List ℕ → List ℕ
keep true k ks = ks
keep false k ks = k ∷ ks

-- the list without those that are dead
abbrev pub swept : (ℕ → Bool) → List ℕ → List ℕ
swept dead [] = []
swept dead (k ∷ ks) = keep (dead k) k (swept dead ks)

-- whether what makes a value is dead
abbrev pub is_maker_dead : (dead dead_block : ℕ → Bool) → Option Def → Bool
is_maker_dead dead dead_block None = false
is_maker_dead dead dead_block (Some (Result k i)) = dead k
is_maker_dead dead dead_block (Some (Argument b i)) = dead_block b

-- the second tree is the first one without the dead operations and blocks
pub record IsSwept (t t' : Tree) (dead dead_block : ℕ → Bool) : Type 0 where
  pub rows : (k : ℕ) → dead k ≡ false → row_of t' k ≡ row_of t k
  pub operands : (k : ℕ) → dead k ≡ false → operands_of t' k ≡ operands_of t k
  pub successors : (k : ℕ) → dead k ≡ false → successors_of t' k ≡ successors_of t k
  pub parents : (k : ℕ) → dead k ≡ false → parent_of t' k ≡ parent_of t k
  pub bodies : (b : ℕ) → dead_block b ≡ false → body_of t' b ≡ swept dead (body_of t b)
  pub arguments : (b : ℕ) → dead_block b ≡ false → arguments_of t' b ≡ arguments_of t b
  pub block_parents : (b : ℕ) → dead_block b ≡ false → block_parent_of t' b ≡ block_parent_of t b
  pub layouts : (k r : ℕ) → dead k ≡ false → In r (regions_of t k) → layout_of t' r ≡ swept dead_block (layout_of t r)
  -- what is in a dead block is dead, and so is what is in a dead operation; an entry block is dead only with
  -- its parent operation
  pub holders : (k b : ℕ) → parent_of t k ≡ Some b → dead k ≡ false → dead_block b ≡ false
  pub block_holders : (b k : ℕ) → block_parent_operation_of t b ≡ Some k → dead_block b ≡ false → dead k ≡ false
  pub entries : (k r b : ℕ) → dead k ≡ false → In r (regions_of t k) → first_of (layout_of t r) None ≡ Some b → dead_block b ≡ false
  -- what is left names nothing of what is dead
  pub values : (k v : ℕ) → dead k ≡ false → In v (operands_of t k) → is_maker_dead dead dead_block (definition_of t v) ≡ false
  pub targets : (k b : ℕ) → dead k ≡ false → In b (successors_of t k) → dead_block b ≡ false

-- what is dead is erased
pub record AreNotLive (t' : Tree) (dead dead_block : ℕ → Bool) : Type 0 where
  pub operations : (k : ℕ) → dead k ≡ true → head_of t' k ≡ None
  pub blocks : (b : ℕ) → dead_block b ≡ true → block_parent_of t' b ≡ None

-- what is dead is in no block, names nothing and has no contents
pub record AreAway (t' : Tree) (dead dead_block : ℕ → Bool) : Type 0 where
  pub parents : (k : ℕ) → dead k ≡ true → parent_of t' k ≡ None
  pub operands : (k : ℕ) → dead k ≡ true → operands_of t' k ≡ []
  pub successors : (k : ℕ) → dead k ≡ true → successors_of t' k ≡ []
  pub regions : (k : ℕ) → dead k ≡ true → regions_of t' k ≡ []
  pub blocks : (b : ℕ) → dead_block b ≡ true → block_parent_of t' b ≡ None

-- the operation gives its results at once, whatever the data of its operands are
abbrev pub GivesNow : Meaning → Tree → ℕ → Type 0
GivesNow m t k = (o : Operation) → op_at t k ≡ Some o → (ds : List Datum) → length ds ≡ length o.operands → (r : List Datum) × (m.act (shape_of m t o) Empty ds ≡ Give r) × (length r ≡ length o.results)

-- a dead operation that a run of the root can come to gives its results at once: one inside the root,
-- in a block that is left
abbrev pub DeadGive : Meaning → Tree → (dead dead_block : ℕ → Bool) → ℕ → Type 0
DeadGive m t dead dead_block root = (k b : ℕ) → IsInside t root k → dead k ≡ true → parent_of t k ≡ Some b → dead_block b ≡ false → GivesNow m t k

-- operations were put into blocks: they use nothing and have no contents, end no block that had operations
-- before, and the dialect admits them and calls them no terminators
pub record ArePut (m : Meaning) (t t' : Tree) (dead : ℕ → Bool) : Type 0 where
  pub operands : (k : ℕ) → dead k ≡ true → operands_of t k ≡ []
  pub successors : (k : ℕ) → dead k ≡ true → successors_of t k ≡ []
  pub regions : (k : ℕ) → dead k ≡ true → regions_of t k ≡ []
  pub admitted : (k : ℕ) → dead k ≡ true → IsAdmitted m t k
  pub plain : (k : ℕ) (x : Head) → dead k ≡ true → head_of t k ≡ Some x → m.is_terminator x ≡ false
  pub last : (b k : ℕ) → dead k ≡ true → last_of None (body_of t b) ≡ Some k → body_of t' b ≡ []

-- The chain of rewrites from the tree before to the tree after, by lattice values of the first.
pub use Rattle.pliron_theory.specs.Sound.{both}
pub use Rattle.pliron_laws.specs.Answers.{has_passing_head}
use Rattle.std.specs.Prelude.{◌≡◌, zero, suc, ℕ, Bool, true, false, if◌then◌else◌, List, [], ◌∷◌, ◌++◌, Option, Some, None, ◌⊎◌, take, filter, length}
use Rattle.std.specs.List.{flat_map}
use Rattle.pliron_core.specs.declared.attrs.AttrObj.{AttrObj}
use Rattle.pliron_core.specs.declared.attrs.IRStatus.{IRStatus}
use Rattle.pliron_core.specs.Tree.{Tree, head_of, operands_of, regions_of, results_of, parent_of, body_of, arguments_of, layout_of}
use Rattle.pliron_core.specs.Walks.{contents}
use Rattle.pliron_core.specs.Changes.{IsSameTree}
use Rattle.pliron_laws.specs.Datum.{Head}
use Rattle.pliron_laws.specs.InPlace.{Outcome}
use Rattle.pliron_theory.specs.Rewrites.{materialised_first}
use Rattle.pliron_theory.specs.LatticeValues.{LatticeValue, Undetermined, Constant, NotAConstant, LatticeValues, operand_constants}

-- the blocks inside an operation, at most n levels deep, in pre-order: each is followed by those inside its operations
abbrev pub blocks_to_depth : Tree → ℕ → ℕ → List ℕ
blocks_to_depth t zero x = []
blocks_to_depth t (suc n) x = flat_map (λ r. flat_map (λ b. b ∷ flat_map (λ k. blocks_to_depth t n k) (body_of t b)) (layout_of t r)) (regions_of t x)

-- all blocks inside the operation; nothing is nested deeper than there are operations
abbrev pub blocks_inside : Tree → ℕ → List ℕ
blocks_inside t root = blocks_to_depth t (length t.operations) root

abbrev pub is_reached : LatticeValues → Option ℕ → Bool
is_reached f None = false
is_reached f (Some b) = f.is_executable b

-- the operations inside the root that fold and are in executable blocks, in pre-order
abbrev pub folding_operations : (Head → Bool) → Tree → ℕ → LatticeValues → List ℕ
folding_operations can_fold t root f = filter (λ k. both (has_passing_head can_fold (head_of t k)) (is_reached f (parent_of t k))) (contents t root)

-- these operations are folded in turn, each in place by the lattice values of the operands that it had in t₀
pub data FoldsInTurn (outcome : Outcome) (t₀ : Tree) (f : LatticeValues) : List ℕ → Tree → Tree → Type 0 where
  NoMore : {t : Tree} → FoldsInTurn outcome t₀ f [] t t
  Next : {t v : Tree} {ks : List ℕ} (k : ℕ) (u : Tree) (answer : IRStatus) → outcome t u k (operand_constants f (operands_of t₀ k)) (Some answer) → FoldsInTurn outcome t₀ f ks u v → FoldsInTurn outcome t₀ f (k ∷ ks) t v

-- a first part of these folds, each of them whole, and then one in which allocation failed, which left what
-- the dialect says that it may leave: constants for some of the answered results, or the tree as before
pub data FoldsPartly (outcome : Outcome) (t₀ : Tree) (f : LatticeValues) : List ℕ → Tree → Tree → Type 0 where
  Refused : {t u : Tree} {ks : List ℕ} (k : ℕ) → outcome t u k (operand_constants f (operands_of t₀ k)) None → FoldsPartly outcome t₀ f (k ∷ ks) t u
  After : {t v : Tree} {ks : List ℕ} (k : ℕ) (u : Tree) (answer : IRStatus) → outcome t u k (operand_constants f (operands_of t₀ k)) (Some answer) → FoldsPartly outcome t₀ f ks u v → FoldsPartly outcome t₀ f (k ∷ ks) t v

-- the executable blocks, in pre-order
abbrev pub reached_blocks : Tree → ℕ → LatticeValues → List ℕ
reached_blocks t root f = filter (λ b. f.is_executable b) (blocks_inside t root)

-- an argument of a block that is known to be a constant
pub record KnownArgument : Type 0 where
  pub block : ℕ
  pub value : ℕ
  pub attr : AttrObj

abbrev pub known_with : LatticeValue → (block v : ℕ) → List KnownArgument → List KnownArgument
known_with Undetermined block v more = more
known_with (Constant c) block v more = record { block = block; value = v; attr = c } ∷ more
known_with NotAConstant block v more = more

abbrev pub known_in_block : LatticeValues → ℕ → List ℕ → List KnownArgument
known_in_block f block [] = []
known_in_block f block (v ∷ vs) = known_with (f.lattice_value v) block v (known_in_block f block vs)

-- the constant arguments of executable blocks, in pre-order and in the order of their indices
abbrev pub known_arguments : Tree → ℕ → LatticeValues → List KnownArgument
known_arguments t root f = flat_map (λ b. known_in_block f b (arguments_of t b)) (reached_blocks t root f)

-- for each of these whose attribute the dialect accepts, in turn, a constant is put first in the block
abbrev pub all_put : (AttrObj → Bool) → (AttrObj → Head) → List KnownArgument → Tree → Tree
all_put accepts head [] t = t
all_put accepts head (a ∷ others) t = all_put accepts head others (if accepts a.attr then materialised_first t a.block a.value (head a.attr) else t)

-- first the operations that fold, then the constant arguments of executable blocks, in pre-order
pub record IsRewrittenByConstants (can_fold : Head → Bool) (accepts : AttrObj → Bool) (head : AttrObj → Head) (outcome : Outcome) (t₀ : Tree) (root : ℕ) (f : LatticeValues) (t : Tree) : Type 0 where
  pub folded : Tree
  pub folds : FoldsInTurn outcome t₀ f (folding_operations can_fold t₀ root f) t₀ folded
  pub arguments : t ≡ all_put accepts head (known_arguments t₀ root f) folded

-- constants are put for a first part of these arguments
abbrev pub IsPartlyPut : (AttrObj → Bool) → (AttrObj → Head) → List KnownArgument → Tree → Tree → Type 0
IsPartlyPut accepts head known t u = (n : ℕ) × IsSameTree (all_put accepts head (take n known) t) u

-- some of the folds, or all of them and some of the arguments: the tree on allocation failure
abbrev pub IsPartlyRewritten : (Head → Bool) → (AttrObj → Bool) → (AttrObj → Head) → Outcome → Tree → ℕ → LatticeValues → Tree → Type 0
IsPartlyRewritten can_fold accepts head outcome t₀ root f t = FoldsPartly outcome t₀ f (folding_operations can_fold t₀ root f) t₀ t ⊎ ((folded : Tree) × FoldsInTurn outcome t₀ f (folding_operations can_fold t₀ root f) t₀ folded × IsPartlyPut accepts head (known_arguments t₀ root f) folded t)

-- the values that are defined in executable blocks
abbrev pub values_there : Tree → ℕ → LatticeValues → List ℕ
values_there t root f = flat_map (λ b. arguments_of t b ++ flat_map (λ k. results_of t k) (body_of t b)) (reached_blocks t root f)

abbrev pub is_constant_value : LatticeValue → Bool
is_constant_value Undetermined = false
is_constant_value (Constant c) = true
is_constant_value NotAConstant = false

abbrev pub varies : LatticeValue → Bool
varies Undetermined = false
varies (Constant c) = false
varies NotAConstant = true

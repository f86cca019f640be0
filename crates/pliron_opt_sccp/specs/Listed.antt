-- What the lattice values say is to be rewritten, as it is listed.
use Rattle.std.specs.Prelude.{◌≡◌, ℕ, Bool, List, [], ◌∷◌, ◌++◌, Some, if◌then◌else◌, map, slice_get}
use Rattle.pliron_core.specs.Tree.{Tree, head_of, parent_of, arguments_of}
use Rattle.pliron_laws.specs.Datum.{Head}
use Rattle.pliron_theory.specs.LatticeValues.{LatticeValues, Says}
use Rattle.pliron_opt_sccp.specs.declared.rewrite.ConstantArgument.{ConstantArgument}
use Rattle.pliron_opt_sccp.specs.declared.rewrite.Folds.{Folds}
use Rattle.pliron_opt_sccp.specs.Chain.{is_reached, has_passing_head, both, folding_operations, KnownArgument, known_in_block}
use Rattle.pliron_opt_sccp.specs.RewriteSteps.{IsKnown, AreEachFold, AreKnownArguments}

-- the operation folds and is in an executable block
abbrev pub is_folding : (Head → Bool) → Tree → LatticeValues → ℕ → Bool
is_folding can_fold t f k = both (has_passing_head can_fold (head_of t k)) (is_reached f (parent_of t k))

-- each item of the list is so
abbrev pub AllOf : {A : Type 0} → List A → (A → Type 0) → Type 0
AllOf {A} xs P = (i : ℕ) (x : A) → slice_get xs i ≡ Some x → P x

-- the operation is in the list alone if it folds
abbrev pub alone_if : Bool → ℕ → List ℕ
alone_if b k = if b then k ∷ [] else []

-- the fold of the operation is added, if it has one
pub record AddsFold (x : Says) (t : Tree) (f : LatticeValues) (k : ℕ) (old new : Folds) : Type 0 where
  pub operations : map (λ fold. fold.op) new.rows.items ≡ map (λ fold. fold.op) old.rows.items ++ alone_if (is_folding x.can_fold t f k) k
  pub each : AreEachFold x t f old → AreEachFold x t f new

-- these are the folds of the operations inside the root
pub record AreFolds (x : Says) (t : Tree) (root : ℕ) (f : LatticeValues) (folds : Folds) : Type 0 where
  pub operations : map (λ fold. fold.op) folds.rows.items ≡ folding_operations x.can_fold t root f
  pub each : AreEachFold x t f folds

-- these arguments represent those that are known
pub record AreArguments (t : Tree) (f : LatticeValues) (arguments : List ConstantArgument) (known : List KnownArgument) : Type 0 where
  pub stand : AreKnownArguments t arguments known
  pub each : AllOf arguments (IsKnown t f)

-- the constant arguments of the block, if it is executable
abbrev pub known_there : Tree → LatticeValues → ℕ → List KnownArgument
known_there t f block = if f.is_executable block then known_in_block f block (arguments_of t block) else []

-- these are added
abbrev pub AddsKnown : Tree → LatticeValues → ℕ → (old new : List ConstantArgument) → Type 0
AddsKnown t f block old new = (known : List KnownArgument) → AreArguments t f old known → AreArguments t f new (known ++ known_there t f block)

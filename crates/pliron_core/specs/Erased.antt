-- What erasing makes of a tree.
use Rattle.std.specs.Prelude.{zero, suc, true, false, nat_eq, if◌then◌else◌, ◌≡◌, ◌⊎◌, ℕ, Bool, List, [], ◌∷◌, length, Option, Some, None, slice_set}
use Rattle.pliron_core.specs.declared.context.Def.{Def}
use Rattle.pliron_core.specs.declared.context.Def.TheVariants.{Result, Argument}
use Rattle.pliron_core.specs.Lists.{In, without}
use Rattle.pliron_core.specs.Tree.{Tree, no_entry, operands_of, successors_of, parent_of, block_parent_of, layout_of, region_parent_of, parent_operation_of, block_parent_operation_of, definition_of, IsWithin, HoldsBlock, IsDefinedWithin}
use Rattle.pliron_core.specs.Writes.{taken_out}

-- whether the test holds here or within so many steps up
abbrev pub is_met : (ℕ → Option ℕ) → (ℕ → Bool) → ℕ → Option ℕ → Bool
is_met h p zero o = false
is_met h p (suc n) None = false
is_met h p (suc n) (Some x) = if p x then true else is_met h p n (h x)

-- whether the test holds for the operation or for one that it is inside; a chain of parent operations is no
-- longer than the table of operations
abbrev pub is_met_above : Tree → (ℕ → Bool) → Option ℕ → Bool
is_met_above t p o = is_met (parent_operation_of t) p (length t.operations) o

-- the table with `none` at each erased handle
abbrev pub blank_at : {A : Type 0} → (ℕ → Bool) → A → List A → List A
blank_at deleted none [] = []
blank_at deleted none (x ∷ xs) = (if deleted 0 then none else x) ∷ blank_at (λ k. deleted (suc k)) none xs

-- the operations for which the test holds are erased, and all that is inside them
abbrev pub after_clearing : Tree → (ℕ → Bool) → Tree
after_clearing t p = record t {
  operations = blank_at (λ k. is_met_above t p (Some k)) no_entry t.operations;
  operands = blank_at (λ k. is_met_above t p (Some k)) [] t.operands;
  successors = blank_at (λ k. is_met_above t p (Some k)) [] t.successors;
  parents = blank_at (λ k. is_met_above t p (Some k)) None t.parents;
  bodies = blank_at (λ b. is_met_above t p (block_parent_operation_of t b)) [] t.bodies;
  arguments = blank_at (λ b. is_met_above t p (block_parent_operation_of t b)) [] t.arguments;
  block_parents = blank_at (λ b. is_met_above t p (block_parent_operation_of t b)) None t.block_parents;
  layouts = blank_at (λ r. is_met_above t p (region_parent_of t r)) [] t.layouts;
}

-- they have no operands and no successors, and neither has what is inside them
abbrev pub names_dropped : Tree → (ℕ → Bool) → Tree
names_dropped t p = record t {
  operands = blank_at (λ k. is_met_above t p (Some k)) [] t.operands;
  successors = blank_at (λ k. is_met_above t p (Some k)) [] t.successors;
}

-- whether the operation is directly in the block
abbrev pub is_the : ℕ → Option ℕ → Bool
is_the b None = false
is_the b (Some c) = nat_eq b c

abbrev pub is_in_operation : Tree → ℕ → ℕ → Bool
is_in_operation t block x = is_the block (parent_of t x)

-- all that is in the block is erased
abbrev pub block_emptied : Tree → ℕ → Tree
block_emptied t block = let u = after_clearing t (is_in_operation t block) in record u { bodies = slice_set u.bodies block [] }

-- the block leaves its region, without arguments
abbrev pub block_taken_from : Tree → ℕ → Option ℕ → Tree
block_taken_from t block None = t
block_taken_from t block (Some r) = record t {
  arguments = slice_set t.arguments block [];
  block_parents = slice_set t.block_parents block None;
  layouts = slice_set t.layouts r (without block (layout_of t r));
}

abbrev pub block_taken_out : Tree → ℕ → Tree
block_taken_out t block = block_taken_from t block (block_parent_of t block)

-- the operation is erased with its contents
abbrev pub after_erasing : Tree → ℕ → Tree
after_erasing t op = after_clearing (taken_out t op) (nat_eq op)

-- the block is erased with its contents
abbrev pub block_erased : Tree → ℕ → Tree
block_erased t block = block_taken_out (block_emptied t block) block

-- all operations in the block, at any depth, have no operands and no successors
abbrev pub uses_dropped : Tree → ℕ → Tree
uses_dropped t block = names_dropped t (is_in_operation t block)

-- no value and no block of op is used outside it
pub record IsSelfContained (t : Tree) (op : ℕ) : Type 0 where
  pub values : (x v : ℕ) → In v (operands_of t x) → IsDefinedWithin t op (definition_of t v) → IsWithin t op x
  pub blocks : (x b : ℕ) → In b (successors_of t x) → HoldsBlock t op b → IsWithin t op x

-- x is in the block, at any depth
abbrev pub IsInOperation : Tree → ℕ → ℕ → Type 0
IsInOperation t block x = (k : ℕ) × (parent_of t k ≡ Some block) × IsWithin t k x

-- b is the block or is inside it
abbrev pub IsBlockWithin : Tree → ℕ → ℕ → Type 0
IsBlockWithin t block b = (b ≡ block) ⊎ ((k : ℕ) × (block_parent_operation_of t b ≡ Some k) × IsInOperation t block k)

-- the value is an argument of the block or defined inside it
abbrev pub IsDefinedInBlock : Tree → ℕ → Option Def → Type 0
IsDefinedInBlock t block None = ⊥
IsDefinedInBlock t block (Some (Result k i)) = IsInOperation t block k
IsDefinedInBlock t block (Some (Argument b i)) = IsBlockWithin t block b

-- the block, its arguments, and the values and blocks inside it are used nowhere outside it
pub record IsSelfContainedBlock (t : Tree) (block : ℕ) : Type 0 where
  pub values : (x v : ℕ) → In v (operands_of t x) → IsDefinedInBlock t block (definition_of t v) → IsInOperation t block x
  pub blocks : (x b : ℕ) → In b (successors_of t x) → IsBlockWithin t block b → IsInOperation t block x

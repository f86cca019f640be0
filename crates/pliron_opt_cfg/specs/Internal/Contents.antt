-- What is in blocks at any depth, as lists, and who uses it.
pub use Rattle.pliron_theory.specs.Edges.{blocks_directly_in}
use Rattle.std.specs.Prelude.{ℕ, List, ◌++◌}
use Rattle.std.specs.List.{flat_map}
use Rattle.pliron_core.specs.Tree.{Tree, In, operands_of, results_of, regions_of, body_of, arguments_of, layout_of}
use Rattle.pliron_core.specs.Walks.{preorder}

-- the operations in a block, in these blocks
abbrev pub contents_of : Tree → ℕ → List ℕ
contents_of t b = flat_map (λ k. preorder t k) (body_of t b)

abbrev pub contents_in : Tree → List ℕ → List ℕ
contents_in t bs = flat_map (λ b. contents_of t b) bs

-- the values that these operations and these blocks define
abbrev pub values_made_by : Tree → (ops bs : List ℕ) → List ℕ
values_made_by t ops bs = flat_map (λ k. results_of t k) ops ++ flat_map (λ b. arguments_of t b) bs

-- these operations alone use the value
abbrev pub IsUsedWithin : Tree → List ℕ → ℕ → Type 0
IsUsedWithin t ops v = (k : ℕ) → In v (operands_of t k) → In k ops

-- another operation uses it
abbrev pub HasUseOutside : Tree → List ℕ → ℕ → Type 0
HasUseOutside t ops v = (k : ℕ) × In v (operands_of t k) × (In k ops → ⊥)

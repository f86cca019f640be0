-- What is inside an operation.
pub use Rattle.pliron_theory.specs.Edges.{blocks_directly_in}
use Rattle.std.specs.Prelude.{zero, suc, ℕ, List, [], ◌∷◌, ◌++◌, length, map}
use Rattle.std.specs.List.{flat_map}
use Rattle.pliron_core.specs.Tree.{Tree, IsLive, IsBlock, results_of, arguments_of, body_of}
use Rattle.pliron_opt_sccp.specs.declared.inside.Part.{Part}
use Rattle.pliron_opt_sccp.specs.declared.inside.Part.TheVariants.{Block, Operation}
use Rattle.pliron_opt_sccp.specs.Chain.{blocks_inside}

-- the values that a block lists: its arguments, and the results of its operations
abbrev pub block_values : Tree → ℕ → List ℕ
block_values t b = arguments_of t b ++ flat_map (λ k. results_of t k) (body_of t b)

-- the values that all blocks inside the operation list
abbrev pub values_inside : Tree → ℕ → List ℕ
values_inside t op = flat_map (λ b. block_values t b) (blocks_inside t op)

-- the blocks and operations inside an operation, at most n levels deep, in pre-order: each is followed by what is inside it
abbrev pub parts_to_depth : Tree → ℕ → ℕ → List Part
parts_to_depth t zero x = []
parts_to_depth t (suc n) x = flat_map (λ b. Block b ∷ flat_map (λ k. Operation k ∷ parts_to_depth t n k) (body_of t b)) (blocks_directly_in t x)

-- all of them; nothing is nested deeper than there are operations
abbrev pub parts_inside : Tree → ℕ → List Part
parts_inside t root = parts_to_depth t (length t.operations) root

-- the arguments of a block, the results of an operation
abbrev pub defined_by : Tree → Part → List ℕ
defined_by t (Block b) = arguments_of t b
defined_by t (Operation k) = results_of t k

-- the values inside an operation, in pre-order
abbrev pub values_in_preorder : Tree → ℕ → List ℕ
values_in_preorder t root = flat_map (λ p. defined_by t p) (parts_inside t root)

-- the operations of a block, the blocks of an operation's regions
abbrev pub directly_in : Tree → Part → List Part
directly_in t (Block b) = map (λ k. Operation k) (body_of t b)
directly_in t (Operation k) = map (λ b. Block b) (blocks_directly_in t k)

abbrev pub IsPartLive : Tree → Part → Type 0
IsPartLive t (Block b) = IsBlock t b
IsPartLive t (Operation k) = IsLive t k

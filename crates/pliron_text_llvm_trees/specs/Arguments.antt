-- Arguments of blocks, which are the phis of the text.
use Rattle.std.specs.Prelude.{◌≡◌, ◌==◌, ◌<◌, ◌++◌, ◌∷◌, ℕ, Bool, false, List, [], length, map, slice_get, slice_set, slice_index_or, Option, Some, None}
use Rattle.std.specs.List.{All}
use Rattle.pliron_text_llvm_names.specs.declared.definitions.LocalDefinition.{LocalDefinition}
use Rattle.pliron_text_llvm_edges.specs.declared.phis.BlockPhi.{BlockPhi}
use Rattle.pliron_text_llvm_edges.specs.Numbers.{numbers_passing}
use Rattle.pliron_text_llvm_trees.specs.declared.arguments.TreeArgument.{TreeArgument}
use Rattle.pliron_text_llvm_trees.specs.Results.{IsResultAt}

-- the definition of an argument is what its phi gives
abbrev pub IsArgument : List LocalDefinition → TreeArgument → Type 0
IsArgument definitions argument = IsResultAt definitions argument.place.line argument.definition

-- the arguments that are these phis, in their order
abbrev pub AreTreeArguments : List LocalDefinition → List BlockPhi → List TreeArgument → Type 0
AreTreeArguments definitions phis arguments =
    (map (λ argument. argument.place) arguments ≡ map (λ phi. phi.place) phis) × All (IsArgument definitions) arguments

abbrev pub is_phi_of : ℕ → Option BlockPhi → Bool
is_phi_of block None = false
is_phi_of block (Some phi) = phi.place.block == block

-- the phis of a block, by their numbers
abbrev pub phi_numbers : List BlockPhi → ℕ → List ℕ
phi_numbers phis block = numbers_passing (λ number. is_phi_of block (slice_get phis number)) 0 (length phis)

-- for each of so many blocks the numbers of its phis, in their order
abbrev pub ArePhisByBlock : ℕ → List BlockPhi → List (List ℕ) → Type 0
ArePhisByBlock count phis lists =
    (length lists ≡ count) × ((block : ℕ) → block < count → slice_index_or lists block [] ≡ phi_numbers phis block)

-- the block has the number behind those before, if there is such a list
abbrev pub with_phi_number : ℕ → ℕ → List (List ℕ) → List (List ℕ)
with_phi_number block number lists = slice_set lists block (slice_index_or lists block [] ++ number ∷ [])

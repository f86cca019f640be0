-- Numbers of what is in blocks.
use Rattle.std.specs.Prelude.{◌+◌, ℕ, zero, suc, Bool, List, [], ◌∷◌, ◌++◌, map, if◌then◌else◌}
use Rattle.pliron_text_llvm_reader.specs.declared.blocks.BlockLines.{BlockLines}

-- those of so many numbers that pass a test, the first of which is this one
abbrev pub numbers_passing : (ℕ → Bool) → ℕ → ℕ → List ℕ
numbers_passing test number zero = []
numbers_passing test number (suc count) =
    if test number then number ∷ numbers_passing test (number + 1) count
    else numbers_passing test (number + 1) count

-- each of these numbers behind the number of a block
abbrev pub in_block : ℕ → List ℕ → List (ℕ × ℕ)
in_block block numbers = map (λ number. (block, number)) numbers

-- what each of the blocks has, the first of which has this number
abbrev pub in_blocks : (BlockLines → List ℕ) → ℕ → List BlockLines → List (ℕ × ℕ)
in_blocks numbers_of number [] = []
in_blocks numbers_of number (block ∷ blocks) =
    in_block number (numbers_of block) ++ in_blocks numbers_of (number + 1) blocks

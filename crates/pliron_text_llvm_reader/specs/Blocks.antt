-- Blocks of a body.
use Rattle.std.specs.Prelude.{◌≡◌, ℕ, suc, ◌+◌, ◌-◌, ◌<◌, ◌≤◌, Bool, false, true, List, [], ◌∷◌, length, take, drop, take_while, slice_get, Option, Some, ⊤}
use Rattle.pliron_text_llvm_reader.specs.declared.blocks.LineRole.{LineRole}
use Rattle.pliron_text_llvm_reader.specs.declared.blocks.LineRole.TheVariants.{Label, Plain, Terminator}
use Rattle.pliron_text_llvm_reader.specs.declared.blocks.BlockLines.{BlockLines}
use Rattle.pliron_text_llvm_reader.specs.declared.blocks.BlockFault.{BlockFault}
use Rattle.pliron_text_llvm_reader.specs.declared.blocks.BlockFault.TheVariants.{NoBlock, NoTerminator, NoMemory}

abbrev pub is_plain_line : LineRole → Bool
is_plain_line Plain = true
is_plain_line _ = false

-- plain lines, and a last one that ends the block
abbrev pub is_run : List LineRole → Bool
is_run [] = false
is_run (Plain ∷ roles) = is_run roles
is_run (Terminator ∷ []) = true
is_run _ = false

-- the same, behind a label or none
abbrev pub is_block : List LineRole → Bool
is_block (Label ∷ roles) = is_run roles
is_block roles = is_run roles

abbrev pub is_end : Option LineRole → Bool
is_end (Some Terminator) = true
is_end _ = false

-- how many lines are before the end of the first block: a label or none, and plain lines
abbrev pub open_len : List LineRole → ℕ
open_len (Label ∷ roles) = suc (length (take_while is_plain_line roles))
open_len roles = length (take_while is_plain_line roles)

-- the first so many lines are a block
abbrev pub IsBlockAt : List LineRole → ℕ → Type 0
IsBlockAt roles len = (0 < len) × (len ≤ length roles) × (is_block (take len roles) ≡ true)

-- so many lines begin a block, and the line behind them neither goes on with it nor ends it
abbrev pub IsOpenAt : List LineRole → ℕ → Type 0
IsOpenAt roles line = (line ≡ open_len roles) × (is_end (slice_get roles line) ≡ false)

-- blocks that follow each other, and are all lines between `start` and `end`
abbrev pub AreBlocks : List LineRole → ℕ → ℕ → List BlockLines → Type 0
AreBlocks roles start end [] = start ≡ end
AreBlocks roles start end (block ∷ blocks) =
    (block.start ≡ start)
    × (start < block.end)
    × (is_block (take (block.end - start) (drop start roles)) ≡ true)
    × AreBlocks roles block.end end blocks

-- there is no line; or from some line on a block begins that nothing ends where its end was expected; or memory lacks
abbrev pub IsBlockFault : List LineRole → BlockFault → Type 0
IsBlockFault roles NoBlock = roles ≡ []
IsBlockFault roles (NoTerminator line) =
    (start : ℕ) × (start < length roles) × (len : ℕ) × (line ≡ start + len) × IsOpenAt (drop start roles) len
IsBlockFault roles NoMemory = ⊤

-- Bytes of LLVM's textual IR, and tokens in it.
use Rattle.std.specs.Prelude.{◌==◌, ◌||◌, ◌≡◌, ◌<◌, ◌≤◌, ℕ, Bool, List, length, slice_range}
use Rattle.std.specs.Char.{is_ascii_alphanumeric}
use Rattle.pliron_text_llvm_syntax.specs.declared.fault.LlvmFault.{LlvmFault}
use Rattle.pliron_text_llvm_syntax.specs.declared.fault.LlvmFault.TheVariants.{Expected, NoMemory}
use Rattle.pliron_text_llvm_syntax.specs.declared.tokens.First.{First}
use Rattle.pliron_text_llvm_syntax.specs.declared.tokens.LlvmToken.{LlvmToken}
use Rattle.pliron_text_llvm_syntax.specs.declared.tokens.ByteSpan.{ByteSpan}

-- what may stand between tokens: blanks, tabs, ends of lines and bytes 0
abbrev pub is_blank_byte : ℕ → Bool
is_blank_byte byte = byte == 32 || byte == 9 || byte == 10 || byte == 13 || byte == 0

-- letters, digits, `-`, `$`, `.` and `_`
abbrev pub is_word_byte : ℕ → Bool
is_word_byte byte = is_ascii_alphanumeric byte || byte == 45 || byte == 36 || byte == 46 || byte == 95

-- LF and CR
abbrev pub is_end_of_line : ℕ → Bool
is_end_of_line byte = byte == 10 || byte == 13

-- the bytes of a span of the text
abbrev pub bytes_of_span : List ℕ → ByteSpan → List ℕ
bytes_of_span text span = slice_range text span.start span.end

-- a token of the text that begins at this byte, and isn't empty
abbrev pub IsTokenAt : List ℕ → ℕ → LlvmToken → Type 0
IsTokenAt text at token = (token.span.start ≡ at) × (at < token.span.end) × (token.span.end ≤ length text)

-- a token of the text from this byte on, which isn't empty
abbrev pub IsTokenBehind : List ℕ → ℕ → LlvmToken → Type 0
IsTokenBehind text at token = (at ≤ token.span.start) × (token.span.start < token.span.end) × (token.span.end ≤ length text)

-- what the text begins with, which isn't empty
abbrev pub IsFirstToken : List ℕ → First → Type 0
IsFirstToken text first = (0 < first.len) × (first.len ≤ length text)

-- memory lacks, or something else was expected at a byte of the text, or at its end
abbrev pub IsFaultIn : List ℕ → LlvmFault → Type 0
IsFaultIn text (Expected place _) = place ≤ length text
IsFaultIn text NoMemory = Unit {0}

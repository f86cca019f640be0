-- Parts of a text that follow each other.
use Rattle.std.specs.Prelude.{◌≡◌, ◌<◌, ◌≤◌, ℕ, false, true, List, [], ◌∷◌, length, flat_map}
use Rattle.pliron_text_llvm_syntax.specs.declared.parts.ModulePart.{ModulePart}
use Rattle.pliron_text_llvm_syntax.specs.declared.parts.ModulePart.TheVariants.{Raw, Function}
use Rattle.pliron_text_llvm_syntax.specs.declared.tokens.ByteSpan.{ByteSpan}
use Rattle.pliron_text_llvm_syntax.specs.declared.tokens.LlvmToken.{LlvmToken}
use Rattle.pliron_text_llvm_syntax.specs.Tokens.{bytes_of_span}
use Rattle.pliron_text_llvm_syntax.specs.Brackets.{IsTreeAt}
use Rattle.pliron_text_llvm_syntax.specs.Functions.{is_define, HasBraces, IsFunctionAt}

-- where a part is
abbrev pub span_of_part : ModulePart → ByteSpan
span_of_part (Raw span) = span
span_of_part (Function function) = function.span

-- a part of the text that begins at this byte, and isn't empty
abbrev pub IsPartAt : List ℕ → ℕ → ModulePart → Type 0
IsPartAt text at part =
    ((span_of_part part).start ≡ at)
    × (at < (span_of_part part).end)
    × ((span_of_part part).end ≤ length text)

-- the first part begins at `start`, each other where the one before it ends, and the last one ends at `end`
abbrev pub AreConsecutive : ℕ → ℕ → List ModulePart → Type 0
AreConsecutive start end [] = start ≡ end
AreConsecutive start end (part ∷ parts) =
    ((span_of_part part).start ≡ start)
    × (start < (span_of_part part).end)
    × AreConsecutive (span_of_part part).end end parts

-- the bytes of the parts in their order
abbrev pub bytes_of_parts : List ℕ → List ModulePart → List ℕ
bytes_of_parts text parts = flat_map (λ part. bytes_of_span text (span_of_part part)) parts

-- ---- which parts are functions

-- the text has the word `define` at this byte
abbrev pub IsDefineAt : List ℕ → ℕ → Type 0
IsDefineAt text at = (tree : LlvmToken) × IsTreeAt text at tree × (is_define text tree ≡ true)

-- from `start` up to a byte there are tokens, and brackets with all that is in them; outside brackets none is `define`
pub data AreRaw (text : List ℕ) (start : ℕ) : ℕ → Type 0 where
  Nothing : AreRaw text start start
  More : {at : ℕ} (tree : LlvmToken)
      → AreRaw text start at → IsTreeAt text at tree → is_define text tree ≡ false → AreRaw text start tree.span.end

-- raw text, without the word `define` outside brackets; or a function, from this word to the `}` of its body
abbrev pub IsRawOrFunction : List ℕ → ModulePart → Type 0
IsRawOrFunction text (Raw span) = AreRaw text span.start span.end
IsRawOrFunction text (Function function) =
    IsDefineAt text function.span.start
    × IsFunctionAt text function.span.start function
    × HasBraces text function.body

-- Where the parts of a function's text are.
use Rattle.std.specs.Prelude.{◌≡◌, ◌<◌, ◌≤◌, ◌&&◌, ℕ, Bool, true, false, List, length, codes, bytes_eq}
use Rattle.pliron_text_llvm_syntax.specs.declared.functions.FunctionText.{FunctionText}
use Rattle.pliron_text_llvm_syntax.specs.declared.tokens.Bracket.TheVariants.{Brace}
use Rattle.pliron_text_llvm_syntax.specs.declared.tokens.ByteSpan.{ByteSpan}
use Rattle.pliron_text_llvm_syntax.specs.declared.tokens.LlvmToken.{LlvmToken}
use Rattle.pliron_text_llvm_syntax.specs.declared.tokens.TokenKind.{TokenKind}
use Rattle.pliron_text_llvm_syntax.specs.declared.tokens.TokenKind.TheVariants.{Word, Open}
use Rattle.pliron_text_llvm_syntax.specs.Tokens.{bytes_of_span}
use Rattle.pliron_text_llvm_syntax.specs.Brackets.{IsTreeAt}

abbrev pub is_word_kind : TokenKind → Bool
is_word_kind Word = true
is_word_kind _ = false

abbrev pub is_open_brace : TokenKind → Bool
is_open_brace (Open Brace) = true
is_open_brace _ = false

-- the token is the word `define`
abbrev pub is_define : List ℕ → LlvmToken → Bool
is_define text token = is_word_kind token.kind && bytes_eq (bytes_of_span text token.span) (codes "define")

-- the span is from a `{` to the `}` that closes it
abbrev pub HasBraces : List ℕ → ByteSpan → Type 0
HasBraces text span =
    (tree : LlvmToken) × IsTreeAt text span.start tree × (is_open_brace tree.kind ≡ true) × (tree.span ≡ span)

-- a function of the text that begins at this byte: its name, its parameters and its body follow each other, the body
-- ends it, and none of them is empty
abbrev pub IsFunctionAt : List ℕ → ℕ → FunctionText → Type 0
IsFunctionAt text at function =
    (function.span.start ≡ at)
    × (at < function.name.start)
    × (function.name.start < function.name.end)
    × (function.name.end ≤ function.parameters.start)
    × (function.parameters.start < function.parameters.end)
    × (function.parameters.end ≤ function.body.start)
    × (function.body.start < function.body.end)
    × (function.body.end ≡ function.span.end)
    × (function.span.end ≤ length text)

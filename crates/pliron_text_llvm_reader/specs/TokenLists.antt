-- Tokens of a text.
use Rattle.std.specs.Prelude.{◌≡◌, ℕ, ◌<◌, ◌≤◌, Bool, false, true, List, [], ◌∷◌, ◌++◌}
use Rattle.std.specs.Coded.{×_prop, le_prop}
use Rattle.pliron_text_llvm_syntax.specs.Lexing.{is_trivia, IsLexedAt}
use Rattle.pliron_text_llvm_syntax.specs.declared.tokens.LlvmToken.{LlvmToken}

-- tokens between `start` and `end`, in their order; none is empty
abbrev pub AreTokens : ℕ → ℕ → List LlvmToken → Type 0
AreTokens start end [] = start ≤ end
AreTokens start end (token ∷ tokens) =
    (start ≤ token.span.start) × ((token.span.start < token.span.end) × AreTokens token.span.end end tokens)

-- it has one proof at most
pub AreTokens-prop : (start end : ℕ) (tokens : List LlvmToken) → IsProp (AreTokens start end tokens)
AreTokens-prop start end [] = le_prop
AreTokens-prop start end (token ∷ tokens) = ×_prop le_prop (×_prop le_prop (AreTokens-prop token.span.end end tokens))

-- the tokens that a text has from `start` up to a byte, but for blanks and comments
pub data AreLexed (text : List ℕ) (start : ℕ) : ℕ → List LlvmToken → Type 0 where
  Nothing : AreLexed text start start []
  Blank : {at : ℕ} {tokens : List LlvmToken} (token : LlvmToken)
      → AreLexed text start at tokens → IsLexedAt text at token → is_trivia token.kind ≡ true → AreLexed text start token.span.end tokens
  Next : {at : ℕ} {tokens : List LlvmToken} (token : LlvmToken)
      → AreLexed text start at tokens → IsLexedAt text at token → is_trivia token.kind ≡ false → AreLexed text start token.span.end (tokens ++ token ∷ [])

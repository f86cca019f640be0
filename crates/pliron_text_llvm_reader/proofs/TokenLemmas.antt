-- Tokens in their order.
use Rattle.std.proofs.Common.{◌≡◌, ℕ, ◌<◌, ◌≤◌, List, [], ◌∷◌, ◌++◌, sym, subst, arith}
use Rattle.pliron_text_llvm_syntax.specs.declared.tokens.LlvmToken.{LlvmToken}
use Rattle.std.specs.Prelude.{false, true}
use Rattle.pliron_text_llvm_syntax.specs.Lexing.{is_trivia, IsLexedAt}
use Rattle.pliron_text_llvm_reader.specs.TokenLists.{AreLexed, AreTokens}
use Rattle.pliron_text_llvm_reader.specs.TokenLists.AreLexed.{Nothing, Blank, Next}

-- one more token behind the last
pub tokens_append : (start at : ℕ) (tokens : List LlvmToken) (token : LlvmToken) → AreTokens start at tokens → at ≤ token.span.start → token.span.start < token.span.end → AreTokens start token.span.end (tokens ++ token ∷ [])
tokens_append start at [] token h behind some = ((let le : start ≤ at = h in omega (arith, le, behind)), (some, omega arith))
tokens_append start at (first ∷ tokens) token h behind some = (h.0, (h.1.0, tokens_append first.span.end at tokens token h.1.1 behind some))

-- they may end later
pub tokens_wider : (start at end : ℕ) (tokens : List LlvmToken) → AreTokens start at tokens → at ≤ end → AreTokens start end tokens
tokens_wider start at end [] h le = omega (arith, h, le)
tokens_wider start at end (token ∷ tokens) h le = (h.0, (h.1.0, tokens_wider token.span.end at end tokens h.1.1 le))

-- no token
pub tokens_none : (start : ℕ) (tokens : List LlvmToken) → tokens ≡ [] → AreTokens start start tokens
tokens_none start tokens e = let same : start ≤ start = omega arith in subst (AreTokens start start) (sym e) same

-- all of them are before the end
pub tokens_le : (start end : ℕ) (tokens : List LlvmToken) → AreTokens start end tokens → start ≤ end
tokens_le start end [] h = h
tokens_le start end (token ∷ tokens) h = let le = tokens_le token.span.end end tokens h.1.1 in omega (arith, h.0, h.1.0, le)

-- ---- as the text has them

pub lexed_none : (text : List ℕ) (start : ℕ) (tokens : List LlvmToken) → tokens ≡ [] → AreLexed text start start tokens
lexed_none text start tokens e = subst (AreLexed text start start) (sym e) Nothing

pub lexed_blank : (text : List ℕ) (start at : ℕ) (tokens : List LlvmToken) (token : LlvmToken) → AreLexed text start at tokens → IsLexedAt text at token → is_trivia token.kind ≡ true → AreLexed text start token.span.end tokens
lexed_blank text start at tokens token before lexed blank = Blank token before lexed blank

pub lexed_next : (text : List ℕ) (start at : ℕ) (tokens after : List LlvmToken) (token : LlvmToken) → AreLexed text start at tokens → after ≡ tokens ++ token ∷ [] → IsLexedAt text at token → is_trivia token.kind ≡ false → AreLexed text start token.span.end after
lexed_next text start at tokens after token before e lexed some = subst (AreLexed text start token.span.end) (sym e) (Next token before lexed some)

pub lexed_end : (text : List ℕ) (start at end : ℕ) (tokens : List LlvmToken) → AreLexed text start at tokens → at ≤ end → end ≤ at → AreLexed text start end tokens
lexed_end text start at end tokens before le ge = subst (λ n. AreLexed text start n tokens) (let e : at ≡ end = omega (arith, le, ge) in e) before

-- what reads tokens one after another
pub ruleset token_steps = (tokens_append, tokens_wider, tokens_none, lexed_none, lexed_blank, lexed_next, lexed_end)

-- Blanks and comments.
use Rattle.std.proofs.Common.{◌≡◌, ℕ, ◌≤◌, List, sym, subst, arith}
use Rattle.std.specs.Prelude.{true, Some}
use Rattle.pliron_text_llvm_syntax.specs.declared.tokens.LlvmToken.{LlvmToken}
use Rattle.pliron_text_llvm_syntax.specs.Lexing.{is_trivia, start_of_token, AreBlanks, IsLexedAt}
use Rattle.pliron_text_llvm_syntax.specs.Lexing.AreBlanks.{Nothing, More}

-- a token more of blanks
pub blanks_more : (text : List ℕ) (start at end : ℕ) (token : LlvmToken) → AreBlanks text start at → IsLexedAt text at token → is_trivia token.kind ≡ true → end ≡ token.span.end → AreBlanks text start end
blanks_more text start at end token before lexed blank e = subst (AreBlanks text start) (sym e) (More token before lexed blank)

-- a token behind blanks
pub blanks_here : (text : List ℕ) (start at end : ℕ) (token : LlvmToken) → AreBlanks text start at → token.span.start ≡ at → AreBlanks text start (start_of_token (Some token) end)
blanks_here text start at end token before e = subst (AreBlanks text start) (sym e) before

-- nothing but blanks up to the end
pub blanks_end : (text : List ℕ) (start at end : ℕ) → AreBlanks text start at → end ≤ at → at ≤ end → AreBlanks text start end
blanks_end text start at end before past within = subst (AreBlanks text start) (let e : at ≡ end = omega (arith, past, within) in e) before

pub blanks_none : (text : List ℕ) (start : ℕ) → AreBlanks text start start
blanks_none text start = Nothing

-- blanks behind blanks
pub blanks_join : (text : List ℕ) (start at end : ℕ) → AreBlanks text start at → AreBlanks text at end → AreBlanks text start end
blanks_join text start at _ before Nothing = before
blanks_join text start at _ before (More token behind lexed blank) = More token (blanks_join text start at _ before behind) lexed blank

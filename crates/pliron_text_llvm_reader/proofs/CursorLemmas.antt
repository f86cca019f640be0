-- Cursors that move forward.
use Rattle.std.proofs.Common.{◌≡◌, ℕ, zero, suc, ◌<◌, ◌≤◌, List, [], ◌∷◌, length, get_or, drop, refl, arith}
use Rattle.pliron_text_llvm_syntax.specs.declared.tokens.LlvmToken.{LlvmToken}
use Rattle.pliron_text_llvm_syntax.specs.Tokens.{bytes_of_span}
use Rattle.pliron_text_llvm_reader.specs.TokenLists.{AreTokens}
use Rattle.pliron_text_llvm_reader.specs.declared.cursor.StatementCursor.{StatementCursor}
use Rattle.pliron_text_llvm_reader.specs.Cursors.{text_of, tokens_of, first_start, first_end, first_kind, place_of, first_bytes, depth_behind, behind_brackets, end_of_brackets, HasNext}
use Rattle.pliron_text_llvm_reader.proofs.TokenLemmas.{tokens_le}

pub first_start_ge : (start end : ℕ) (tokens : List LlvmToken) → AreTokens start end tokens → start ≤ first_start tokens end
first_start_ge start end [] h = h
first_start_ge start end (token ∷ tokens) h = h.0

-- the next token isn't before the end of the last one
pub end_place : (cursor : StatementCursor) → cursor.end ≤ place_of cursor
end_place cursor = first_start_ge cursor.end (length (text_of cursor)) cursor.tokens.now cursor.order

-- the end of the last one is in the text
pub end_within : (cursor : StatementCursor) → cursor.end ≤ length (text_of cursor)
end_within cursor = tokens_le cursor.end (length (text_of cursor)) cursor.tokens.now cursor.order

pub first_start_lt : (start end : ℕ) (tokens : List LlvmToken) → AreTokens start end tokens → 0 < length tokens → first_start tokens end < end
first_start_lt start end [] h some = omega (arith, some)
first_start_lt start end (token ∷ tokens) h some = let le = tokens_le token.span.end end tokens h.1.1 in omega (arith, h.1.0, le)

-- where tokens are left, there is a next one
pub next_some : (cursor : StatementCursor) → 0 < length cursor.tokens.now → HasNext cursor
next_some cursor some = first_start_lt cursor.end (length (text_of cursor)) cursor.tokens.now cursor.order some

pub first_fits : (start end : ℕ) (tokens : List LlvmToken) (d : LlvmToken) → AreTokens start end tokens → 0 < length tokens
    → (first_start tokens end ≡ (get_or tokens 0 d).span.start) × ((get_or tokens 0 d).span.start < (get_or tokens 0 d).span.end) × ((get_or tokens 0 d).span.end ≤ end)
first_fits start end [] d h some = absurd (omega (arith, some))
first_fits start end (token ∷ tokens) d h some = (refl, h.1.0, tokens_le token.span.end end tokens h.1.1)

-- the next token begins at the place
pub first_place : (cursor : StatementCursor) (d : LlvmToken) → 0 < length cursor.tokens.now → place_of cursor ≡ (get_or cursor.tokens.now 0 d).span.start
first_place cursor d some = (first_fits cursor.end (length (text_of cursor)) cursor.tokens.now d cursor.order some).0

-- it isn't empty
pub first_some : (cursor : StatementCursor) (d : LlvmToken) → 0 < length cursor.tokens.now → (get_or cursor.tokens.now 0 d).span.start < (get_or cursor.tokens.now 0 d).span.end
first_some cursor d some = (first_fits cursor.end (length (text_of cursor)) cursor.tokens.now d cursor.order some).1

-- it is in the text
pub first_within : (cursor : StatementCursor) (d : LlvmToken) → 0 < length cursor.tokens.now → (get_or cursor.tokens.now 0 d).span.end ≤ length (text_of cursor)
first_within cursor d some = (first_fits cursor.end (length (text_of cursor)) cursor.tokens.now d cursor.order some).2

first_text_of : (text : List ℕ) (tokens : List LlvmToken) (d : LlvmToken) → 0 < length tokens → first_bytes text tokens ≡ bytes_of_span text (get_or tokens 0 d).span
first_text_of text [] d some = absurd (omega (arith, some))
first_text_of text (token ∷ tokens) d some = refl

-- its bytes
pub first_text : (cursor : StatementCursor) (d : LlvmToken) → 0 < length cursor.tokens.now → first_bytes (text_of cursor) (tokens_of cursor) ≡ bytes_of_span (text_of cursor) (get_or cursor.tokens.now 0 d).span
first_text cursor d some = first_text_of (text_of cursor) cursor.tokens.now d some

first_end_of : (tokens : List LlvmToken) (d : LlvmToken) (end : ℕ) → 0 < length tokens → first_end tokens end ≡ (get_or tokens 0 d).span.end
first_end_of [] d end some = absurd (omega (arith, some))
first_end_of (token ∷ tokens) d end some = refl

-- where it ends
pub first_ends : (cursor : StatementCursor) (d : LlvmToken) (end : ℕ) → 0 < length cursor.tokens.now → first_end (tokens_of cursor) end ≡ (get_or cursor.tokens.now 0 d).span.end
first_ends cursor d end some = first_end_of (tokens_of cursor) d end some

first_end_more : (start end : ℕ) (tokens : List LlvmToken) → AreTokens start end tokens → start ≤ first_end tokens start
first_end_more start end [] h = omega arith
first_end_more start end (token ∷ tokens) h = let some = h.1.0 in let begins = h.0 in omega (arith, some, begins)

-- it isn't before the end of the last one
pub end_first : (cursor : StatementCursor) → cursor.end ≤ first_end (tokens_of cursor) cursor.end
end_first cursor = first_end_more cursor.end (length (text_of cursor)) cursor.tokens.now cursor.order

-- where a token is left, it ends behind the end of the last one
pub next_ends : (cursor : StatementCursor) → HasNext cursor → cursor.end < first_end (tokens_of cursor) cursor.end
next_ends cursor next = next_more cursor.end (length (text_of cursor)) cursor.tokens.now cursor.order next
  where
    next_more : (start end : ℕ) (tokens : List LlvmToken) → AreTokens start end tokens → first_start tokens end < end → start < first_end tokens start
    next_more start end [] h less = absurd (omega (arith, less))
    next_more start end (token ∷ tokens) h less = let some = h.1.0 in let begins = h.0 in omega (arith, some, begins)

next_end_of : (tokens : List LlvmToken) (length end : ℕ) → first_start tokens length < length → first_end tokens end ≡ first_end tokens 0
next_end_of [] length end next = absurd (omega (arith, next))
next_end_of (token ∷ tokens) length end next = refl

-- where a token is left, its end is in the text
pub next_end : (cursor : StatementCursor) (end : ℕ) → HasNext cursor → first_end (tokens_of cursor) end ≡ first_end (tokens_of cursor) 0
next_end cursor end next = next_end_of (tokens_of cursor) (length (text_of cursor)) end next

-- ---- brackets

pub behind_closed : (tokens : List LlvmToken) → behind_brackets 0 tokens ≡ tokens
behind_closed [] = refl
behind_closed (token ∷ tokens) = refl

pub end_of_closed : (end : ℕ) (tokens : List LlvmToken) → end_of_brackets 0 end tokens ≡ end
end_of_closed end [] = refl
end_of_closed end (token ∷ tokens) = refl

pub behind_next : (depth : ℕ) (tokens : List LlvmToken) → 0 < depth → 0 < length tokens → behind_brackets depth tokens ≡ behind_brackets (depth_behind (first_kind tokens) depth) (drop 1 tokens)
behind_next depth [] is_open some = absurd (omega (arith, some))
behind_next zero (token ∷ tokens) is_open some = absurd (omega (arith, is_open))
behind_next (suc depth) (token ∷ tokens) is_open some = refl

pub end_of_next : (depth end : ℕ) (tokens : List LlvmToken) → 0 < depth → 0 < length tokens → end_of_brackets depth end tokens ≡ end_of_brackets (depth_behind (first_kind tokens) depth) (first_end tokens end) (drop 1 tokens)
end_of_next depth end [] is_open some = absurd (omega (arith, some))
end_of_next zero end (token ∷ tokens) is_open some = absurd (omega (arith, is_open))
end_of_next (suc depth) end (token ∷ tokens) is_open some = refl

-- what skips a bracket
pub ruleset bracket_steps = (end_within, end_place, next_some, behind_closed, end_of_closed, behind_next, end_of_next)

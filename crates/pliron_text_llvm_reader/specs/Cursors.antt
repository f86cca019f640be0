-- What is left of a statement.
use Rattle.std.specs.Prelude.{◌≡◌, ◌==◌, ◌&&◌, ◌||◌, ◌-◌, ℕ, zero, suc, ◌<◌, ◌≤◌, Bool, false, true, not, List, [], ◌∷◌, length, drop, slice_get, Option, Some, None, bytes_eq, codes}
use Rattle.pliron_text_llvm_syntax.specs.Tokens.{bytes_of_span}
use Rattle.pliron_text_llvm_syntax.specs.declared.tokens.LlvmToken.{LlvmToken}
use Rattle.pliron_text_llvm_syntax.specs.declared.tokens.ByteSpan.{ByteSpan}
use Rattle.pliron_text_llvm_syntax.specs.declared.tokens.Bracket.TheVariants.{Round, Square}
use Rattle.pliron_text_llvm_syntax.specs.declared.tokens.TokenKind.{TokenKind}
use Rattle.pliron_text_llvm_syntax.specs.declared.tokens.TokenKind.TheVariants.{Word, Name, Text, Mark, Open, Close}
use Rattle.pliron_text_llvm_reader.specs.declared.cursor.StatementCursor.{StatementCursor}
use Rattle.pliron_text_llvm_reader.specs.Words.{is_type_word, is_value_word}

-- ---- cursors

-- the text that is read
abbrev pub text_of : StatementCursor → List ℕ
text_of cursor = cursor.text.now

-- the tokens that are left
abbrev pub tokens_of : StatementCursor → List LlvmToken
tokens_of cursor = cursor.tokens.now

-- ---- the next token

abbrev pub first_start : List LlvmToken → ℕ → ℕ
first_start [] end = end
first_start (token ∷ tokens) end = token.span.start

-- where it ends; where there is none, the end of what was taken
abbrev pub first_end : List LlvmToken → ℕ → ℕ
first_end [] end = end
first_end (token ∷ tokens) end = token.span.end

abbrev pub first_kind : List LlvmToken → Option TokenKind
first_kind [] = None
first_kind (token ∷ tokens) = Some token.kind

abbrev pub first_bytes : List ℕ → List LlvmToken → List ℕ
first_bytes text [] = []
first_bytes text (token ∷ tokens) = bytes_of_span text token.span

abbrev pub first_byte : List ℕ → List LlvmToken → Option ℕ
first_byte text tokens = slice_get text (first_start tokens (length text))

-- where the next token begins, or the end of the text
abbrev pub place_of : StatementCursor → ℕ
place_of cursor = first_start (tokens_of cursor) (length (text_of cursor))

abbrev pub is_byte : Option ℕ → ℕ → Bool
is_byte None byte = false
is_byte (Some first) byte = first == byte

-- ---- kinds of tokens

abbrev pub is_any : List LlvmToken → Bool
is_any [] = false
is_any (token ∷ tokens) = true

abbrev pub is_word : Option TokenKind → Bool
is_word (Some Word) = true
is_word _ = false

abbrev pub is_name : Option TokenKind → Bool
is_name (Some Name) = true
is_name _ = false

abbrev pub is_text : Option TokenKind → Bool
is_text (Some Text) = true
is_text _ = false

abbrev pub is_mark : Option TokenKind → Bool
is_mark (Some Mark) = true
is_mark _ = false

abbrev pub is_open : Option TokenKind → Bool
is_open (Some (Open _)) = true
is_open _ = false

abbrev pub is_open_round : Option TokenKind → Bool
is_open_round (Some (Open Round)) = true
is_open_round _ = false

abbrev pub is_open_square : Option TokenKind → Bool
is_open_square (Some (Open Square)) = true
is_open_square _ = false

abbrev pub is_close_round : Option TokenKind → Bool
is_close_round (Some (Close Round)) = true
is_close_round _ = false

abbrev pub is_close_square : Option TokenKind → Bool
is_close_square (Some (Close Square)) = true
is_close_square _ = false

-- ---- what is next

-- this word
abbrev pub is_word_next : List ℕ → List LlvmToken → List ℕ → Bool
is_word_next text tokens word = is_word (first_kind tokens) && bytes_eq (first_bytes text tokens) word

-- this mark
abbrev pub is_mark_next : List ℕ → List LlvmToken → ℕ → Bool
is_mark_next text tokens mark = is_mark (first_kind tokens) && is_byte (first_byte text tokens) mark

-- a name that begins with this byte
abbrev pub is_name_next : List ℕ → List LlvmToken → ℕ → Bool
is_name_next text tokens sign = is_name (first_kind tokens) && is_byte (first_byte text tokens) sign

-- a type: a word, a bracket that isn't round, or a name with `%`
abbrev pub is_type_next : List ℕ → List LlvmToken → Bool
is_type_next text tokens =
    (is_word (first_kind tokens) && is_type_word (first_bytes text tokens))
    || (is_open (first_kind tokens) && not (is_open_round (first_kind tokens)))
    || is_name_next text tokens 37

-- `*`, `addrspace`, its bracket, or the parameters of a function's type
abbrev pub is_suffix_next : List ℕ → List LlvmToken → Bool
is_suffix_next text tokens =
    is_mark_next text tokens 42 || is_open_round (first_kind tokens) || is_word_next text tokens (codes "addrspace")

-- a word that is no type, or a string
abbrev pub is_flag_next : List ℕ → List LlvmToken → Bool
is_flag_next text tokens =
    (is_word (first_kind tokens) && not (is_type_word (first_bytes text tokens))) || is_text (first_kind tokens)

-- an attribute between a type and its value: a word that is no value, or a string in quotes
abbrev pub is_attribute_next : List ℕ → List LlvmToken → Bool
is_attribute_next text tokens =
    (is_word (first_kind tokens) && not (is_value_word (first_bytes text tokens)))
    || (is_text (first_kind tokens) && is_byte (first_byte text tokens) 34)

-- an attribute of a call: a word but for `to`, the number of a group, a string or a round bracket
abbrev pub is_call_attribute_next : List ℕ → List LlvmToken → Bool
is_call_attribute_next text tokens =
    (is_word (first_kind tokens) && not (bytes_eq (first_bytes text tokens) (codes "to")))
    || is_name_next text tokens 35
    || is_text (first_kind tokens)
    || is_open_round (first_kind tokens)

-- ---- brackets

-- how many brackets are open behind a token, where so many are open before it
abbrev pub depth_behind : Option TokenKind → ℕ → ℕ
depth_behind (Some (Open _)) depth = suc depth
depth_behind (Some (Close _)) depth = depth - 1
depth_behind _ depth = depth

-- what is left behind the end of so many open brackets
abbrev pub behind_brackets : ℕ → List LlvmToken → List LlvmToken
behind_brackets depth [] = []
behind_brackets zero (token ∷ tokens) = token ∷ tokens
behind_brackets (suc depth) (token ∷ tokens) = behind_brackets (depth_behind (Some token.kind) (suc depth)) tokens

-- where they end
abbrev pub end_of_brackets : ℕ → ℕ → List LlvmToken → ℕ
end_of_brackets depth end [] = end
end_of_brackets zero end (token ∷ tokens) = end
end_of_brackets (suc depth) end (token ∷ tokens) =
    end_of_brackets (depth_behind (Some token.kind) (suc depth)) token.span.end tokens

-- what is left behind the next token, and where that opens a bracket behind the end of the bracket
abbrev pub behind_tree : List LlvmToken → List LlvmToken
behind_tree tokens = behind_brackets (depth_behind (first_kind tokens) 0) (drop 1 tokens)

-- where that ends
abbrev pub end_of_tree : ℕ → List LlvmToken → ℕ
end_of_tree end tokens = end_of_brackets (depth_behind (first_kind tokens) 0) (first_end tokens end) (drop 1 tokens)

-- ---- cursors that move

abbrev pub span_between : ℕ → ℕ → ByteSpan
span_between start end = record { start = start; end = end }

-- a token is left
abbrev pub HasNext : StatementCursor → Type 0
HasNext cursor = place_of cursor < length (text_of cursor)

-- of the same text as much or more was taken, and nothing behind its end
abbrev pub MovesForward : StatementCursor → StatementCursor → Type 0
MovesForward before after =
    (text_of after ≡ text_of before)
    × (before.end ≤ after.end)
    × (place_of before ≤ place_of after)
    × (after.end ≤ length (text_of before))

-- the next token was taken
abbrev pub HasTaken : StatementCursor → StatementCursor → Type 0
HasTaken before after = (before.end ≤ place_of before) × (place_of before < after.end)

-- Comments of texts, which run from `//` to the end of the line.
use Rattle.std.specs.Prelude.{◌≡◌, ◌==◌, ◌&&◌, ◌||◌, ℕ, Bool, true, false, List, [], ◌∷◌, not, if◌then◌else◌}

-- what some editors put before a text, in UTF-8
abbrev pub byte_order_mark : List ℕ
byte_order_mark = 239 ∷ 187 ∷ 191 ∷ []

abbrev pub begins_with_slash : List ℕ → Bool
begins_with_slash [] = false
begins_with_slash (byte ∷ rest) = byte == 47

-- the byte before this rest belongs to a comment, where the byte before it did or not
abbrev pub is_comment : (inside : Bool) → (byte : ℕ) → (rest : List ℕ) → Bool
is_comment inside byte rest = not (byte == 10) && (inside || ((byte == 47) && begins_with_slash rest))

-- the text with a blank for each byte of a comment
abbrev pub with_blanks : (inside : Bool) → List ℕ → List ℕ
with_blanks inside [] = []
with_blanks inside (byte ∷ rest) = (if is_comment inside byte rest then 32 else byte) ∷ with_blanks (is_comment inside byte rest) rest

abbrev pub without_comments : List ℕ → List ℕ
without_comments text = with_blanks false text

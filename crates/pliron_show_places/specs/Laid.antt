-- How far a text is laid out, for proofs inside the crate.
use Rattle.std.specs.Prelude.{◌≡◌, ℕ, Bool, true, false, List, []}
use Rattle.pliron_show_places.specs.Layout.{Words, no_words, after_blank, words_with_byte, with_bytes}

abbrev pub laid_words : List ℕ → Words
laid_words text = with_bytes no_words text

-- the words that were read are laid out, but for a blank behind them where one was read; behind a mark that breaks the
-- line no word goes on
pub data IsLayoutOf (text : List ℕ) (parts breaks : Bool) (read : Words) : Type 0 where
  AllOf : parts ≡ false → read ≡ laid_words text → (breaks ≡ true → read.last ≡ []) → IsLayoutOf text parts breaks read
  ButBlank : parts ≡ true → read ≡ after_blank (laid_words text) → IsLayoutOf text parts breaks read

-- one byte more was read, and is laid out
abbrev pub LaysByte : (text more : List ℕ) (parts breaks parts' breaks' : Bool) (byte : ℕ) → Type 0
LaysByte text more parts breaks parts' breaks' byte = (read : Words) → IsLayoutOf text parts breaks read → IsLayoutOf more parts' breaks' (words_with_byte read byte)

-- what was read is laid out, with a blank behind it where one was read or the line is broken
abbrev pub LaysBlank : (text more : List ℕ) (parts breaks : Bool) → Type 0
LaysBlank text more parts breaks = (read : Words) → IsLayoutOf text parts breaks read → laid_words more ≡ read

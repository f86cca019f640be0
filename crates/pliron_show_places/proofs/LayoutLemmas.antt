-- What a byte more is to the words of a text.
use Rattle.std.proofs.Common.{◌≡◌, ◌<◌, ◌+◌, ◌∷◌, [], ◌++◌, ℕ, Bool, true, false, List, length, take, get_or, refl, sym, ◌∙◌, ap, subst, if◌then◌else◌, arith}
use Rattle.std.proofs.lemmas.List.{append-nil, take_more}
use Rattle.pliron_show_places.specs.Layout.{is_blank, is_notation_mark, Words, no_words, unless_empty, all_words, after_blank, words_with_byte, with_bytes, words_of}
use Rattle.pliron_show_places.specs.Laid.{laid_words, IsLayoutOf, IsLayoutOf.AllOf, IsLayoutOf.ButBlank, LaysByte, LaysBlank}

-- one byte more
more_from : (words : Words) (text : List ℕ) (byte : ℕ) → with_bytes words (text ++ byte ∷ []) ≡ words_with_byte (with_bytes words text) byte
more_from words [] byte = refl
more_from words (first ∷ text) byte = more_from (words_with_byte words first) text byte

pub byte_more : (text : List ℕ) (byte : ℕ) → laid_words (text ++ byte ∷ []) ≡ words_with_byte (laid_words text) byte
byte_more text byte = more_from no_words text byte

-- a second blank changes nothing
pub blank_again : (words : Words) → after_blank (after_blank words) ≡ after_blank words
blank_again words = ap (λ ended. record { ended = ended; last = [] }) (append-nil (all_words words))

blank_read : (words : Words) (byte : ℕ) → is_blank byte ≡ true → words_with_byte words byte ≡ after_blank words
blank_read words byte is = ap (λ b. if b then after_blank words else if is_notation_mark byte then record { ended = all_words words ++ (byte ∷ []) ∷ []; last = [] } else record { ended = words.ended; last = words.last ++ byte ∷ [] }) is

-- a line is broken, and indented
pub line_broken : (text : List ℕ) → laid_words (text ++ 10 ∷ []) ≡ after_blank (laid_words text)
line_broken text = byte_more text 10

pub indented : (text : List ℕ) (words : Words) → laid_words text ≡ after_blank words → laid_words (text ++ 32 ∷ 32 ∷ []) ≡ after_blank words
indented text words so = two_more no_words text ∙ blank_again (laid_words text) ∙ ap after_blank so ∙ blank_again words where
  two_more : (from : Words) (bytes : List ℕ) → with_bytes from (bytes ++ 32 ∷ 32 ∷ []) ≡ after_blank (after_blank (with_bytes from bytes))
  two_more from [] = refl
  two_more from (first ∷ bytes) = two_more (words_with_byte from first) bytes

-- an empty text has no words that a blank could part
pub nothing_parted : (text : List ℕ) → text ≡ [] → laid_words text ≡ after_blank (laid_words text)
nothing_parted text none = subst (λ t. laid_words t ≡ after_blank (laid_words t)) (sym none) refl

pub blank_taken : (text : List ℕ) (parts breaks : Bool) (byte : ℕ) → is_blank byte ≡ true → LaysByte text text parts breaks true breaks byte
blank_taken text parts breaks byte is read (AllOf e laid none) = ButBlank refl (blank_read read byte is ∙ ap after_blank laid)
blank_taken text parts breaks byte is read (ButBlank e laid) = ButBlank refl (blank_read read byte is ∙ ap after_blank laid ∙ blank_again (laid_words text))

mark_last : (words : Words) (byte : ℕ) → is_notation_mark byte ≡ true → (words_with_byte words byte).last ≡ []
mark_last words byte is = of_blank (is_blank byte) where
  marked : Words
  marked = record { ended = all_words words ++ (byte ∷ []) ∷ []; last = [] }

  added : Words
  added = record { ended = words.ended; last = words.last ++ byte ∷ [] }

  of_blank : (b : Bool) → (if b then after_blank words else if is_notation_mark byte then marked else added).last ≡ []
  of_blank true = refl
  of_blank false = ap (λ m. (if m then marked else added).last) is

-- a byte that is no blank is written
pub byte_written : (text before after : List ℕ) (parts breaks parts' breaks' : Bool) (byte : ℕ) → LaysBlank text before parts breaks → after ≡ before ++ byte ∷ [] → parts' ≡ false → (breaks' ≡ true → is_notation_mark byte ≡ true) → LaysByte text after parts breaks parts' breaks' byte
byte_written text before after parts breaks parts' breaks' byte laid is none mark read so =
    AllOf none (ap (λ words. words_with_byte words byte) (sym (laid read so)) ∙ sym (byte_more before byte) ∙ ap laid_words (sym is)) (λ e. mark_last read byte (mark e))

-- a closing brace is written on a line of its own
pub brace_written : (text before after : List ℕ) (parts breaks parts' breaks' : Bool) → laid_words before ≡ after_blank (laid_words text) → after ≡ before ++ 125 ∷ [] → parts' ≡ false → LaysByte text after parts breaks parts' breaks' 125
brace_written text before after parts breaks parts' breaks' broken is none read so =
    AllOf none (closed read so ∙ ap (λ words. words_with_byte words 125) (sym broken) ∙ sym (byte_more before 125) ∙ ap laid_words (sym is)) (λ e. refl) where
      closed : (read : Words) → IsLayoutOf text parts breaks read → words_with_byte read 125 ≡ words_with_byte (after_blank (laid_words text)) 125
      closed read (AllOf e laid last) = ap (λ words. words_with_byte words 125) laid ∙ ap (λ ended. record { ended = ended ++ (125 ∷ []) ∷ []; last = [] }) (sym (append-nil (all_words (laid_words text))))
      closed read (ButBlank e laid) = ap (λ words. words_with_byte words 125) laid

-- the line is broken before what follows
pub line_parted : (text more : List ℕ) (parts breaks : Bool) → breaks ≡ true → laid_words more ≡ after_blank (laid_words text) → LaysBlank text more parts breaks
line_parted text more parts breaks is broken read (AllOf e laid last) = broken ∙ ap after_blank (sym laid) ∙ unchanged read (last is) where
  unchanged : (words : Words) → words.last ≡ [] → after_blank words ≡ words
  unchanged words none = ap (λ last. record { ended = words.ended ++ unless_empty last; last = [] }) none ∙ ap (λ ended. record { ended = ended; last = [] }) (append-nil words.ended) ∙ ap (λ last. record { ended = words.ended; last = last }) (sym none)
line_parted text more parts breaks is broken read (ButBlank e laid) = broken ∙ sym laid

-- a blank is written where one was read
pub blank_written : (text more : List ℕ) (parts breaks : Bool) → parts ≡ true → more ≡ text ++ 32 ∷ [] → LaysBlank text more parts breaks
blank_written text more parts breaks is added read (AllOf e laid last) = absurd (differ (sym is ∙ e)) where
  differ : true ≡ false → ⊥
  differ so = grind arith
blank_written text more parts breaks is added read (ButBlank e laid) = ap laid_words added ∙ byte_more text 32 ∙ sym laid

-- else nothing is
pub none_written : (text : List ℕ) (parts breaks : Bool) → parts ≡ false → LaysBlank text text parts breaks
none_written text parts breaks is read (AllOf e laid last) = sym laid
none_written text parts breaks is read (ButBlank e laid) = absurd (differ (sym is ∙ e)) where
  differ : false ≡ true → ⊥
  differ so = grind arith

pub none_parted : (text : List ℕ) (parts breaks : Bool) → text ≡ [] → LaysBlank text text parts breaks
none_parted text parts breaks none read (AllOf e laid last) = sym laid
none_parted text parts breaks none read (ButBlank e laid) = nothing_parted text none ∙ sym laid

-- nothing is read at first, and in the end all is laid out
pub none_read : (parts breaks : Bool) → parts ≡ false → breaks ≡ false → IsLayoutOf [] parts breaks no_words
none_read parts breaks none e = AllOf none refl (λ is. refl)

pub all_laid : (laid : List ℕ) (parts breaks : Bool) (text : List ℕ) → IsLayoutOf laid parts breaks (laid_words text) → words_of laid ≡ words_of text
all_laid laid parts breaks text (AllOf e same last) = ap all_words (sym same)
all_laid laid parts breaks text (ButBlank e same) = sym (append-nil (words_of laid)) ∙ ap all_words (sym same)

-- what is laid out of so many bytes, and then of one more
pub laid_more : (text : List ℕ) (i : ℕ) (before after : List ℕ) (parts breaks parts' breaks' : Bool) → i < length text → IsLayoutOf before parts breaks (laid_words (take i text)) → LaysByte before after parts breaks parts' breaks' (get_or text i 0) → IsLayoutOf after parts' breaks' (laid_words (take (i + 1) text))
laid_more text i before after parts breaks parts' breaks' within so_far step =
    subst (IsLayoutOf after parts' breaks') (sym (byte_more (take i text) (get_or text i 0)) ∙ ap laid_words (sym (take_more text i 0 within))) (step (laid_words (take i text)) so_far)

-- an end of a line behind all of it parts nothing
pub line_ended : (text : List ℕ) → words_of (text ++ 10 ∷ []) ≡ words_of text
line_ended text = ap all_words (line_broken text) ∙ append-nil (words_of text)

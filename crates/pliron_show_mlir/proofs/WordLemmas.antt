-- What words say, put together.
use Rattle.std.proofs.Common.{◌==◌, arith, map, ◌-◌, drop, ◌≡◌, ◌≢◌, ◌+◌, ◌++◌, ◌∷◌, [], ℕ, ℤ, List, Bool, true, false, IfSome, MatchOption, Option, Some, None, Bor, refl, subst, ap, sym, ◌∙◌, length, ◌<◌}
use Rattle.std.specs.List.{slice_split, before_first, after_first, position_or_len}
use Rattle.std.specs.Str.{trim}
use Rattle.std.proofs.lemmas.List.Splits.{slice_split_first, slice_split_none}
use Rattle.std.proofs.lemmas.List.Sums.{fails_before_first}
use Rattle.std.proofs.lemmas.List.Elements.{All-from_get_or}
use Rattle.std.proofs.lemmas.List.{append_assoc, length-drop, map-append}
use Rattle.pliron_laws.specs.Datum.{Datum}
use Rattle.pliron_dialect_mlir.specs.Data.{IsInteger}
use Rattle.pliron_show.specs.Words.{SaysNumber}
use Rattle.pliron_show_mlir.specs.RunWords.{NamesWidth, SaysInteger, type_word, value_word, AreSaidBy, says_part, comma_parts}

-- a value and a type make an integer
pub says_integer : (word name value : List ℕ) (width : ℕ) (number passed : ℤ) (Without : Type 0) (found : Option ℤ) → name ≡ trim (type_word word) → value ≡ trim (value_word word)
    → NamesWidth name width → SaysNumber value number → passed ≡ number → MatchOption found Without (IsInteger width passed) → IfSome found (SaysInteger word)
says_integer word name value width number passed Without None name-is value-is names says passed-is is = tt
says_integer word name value width number passed Without (Some datum) name-is value-is names says passed-is is =
    (width, number, subst (λ n. NamesWidth n width) name-is names, subst (λ v. SaysNumber v number) value-is says, subst (λ n. IsInteger width n datum) passed-is is)

-- one more part says one more datum
pub said_more : (parts : List (List ℕ)) (said : List Datum) (part : List ℕ) (datum : Datum) → AreSaidBy parts said → says_part (trim part) datum
    → AreSaidBy (parts ++ part ∷ []) (said ++ datum ∷ [])
said_more [] [] part datum before says = (says, tt)
said_more [] (datum' ∷ said) part datum before says = elim before [ ]
said_more (first ∷ parts) [] part datum before says = elim before [ ]
said_more (first ∷ parts) (datum' ∷ said) part datum before says = (before.0, said_more parts said part datum before.1 says)

-- the parts of the word up to this rest say these data
pub record IsSaidUpTo (word rest : List ℕ) (said : List Datum) : Type 0 where
  pub parts : List (List ℕ)
  pub is : comma_parts word ≡ parts ++ comma_parts rest
  pub are : AreSaidBy parts said

-- a comma
abbrev is_comma : ℕ → Bool
is_comma byte = byte == 44

-- a word without a comma is one part
one_part : (word : List ℕ) → position_or_len is_comma word ≡ length word → comma_parts word ≡ word ∷ []
one_part word none = slice_split_none is_comma word (All-from_get_or (λ x. is_comma x ≡ false) word 0 (λ i inside. fails_before_first is_comma word i 0 (subst (λ n. i < n) (sym none) inside)))

-- the first part, and those behind it
pub first_part : (word part behind : List ℕ) → part ≡ before_first is_comma word → behind ≡ after_first is_comma word → position_or_len is_comma word < length word
    → comma_parts word ≡ part ∷ comma_parts behind
first_part word part behind part-is behind-is inside =
    slice_split_first is_comma word 0 inside ∙ ap (λ p. p ∷ comma_parts (after_first is_comma word)) (sym part-is) ∙ ap (λ b. part ∷ comma_parts b) (sym behind-is)

-- one more part of the word says one more datum
pub one_more : (word rest part behind : List ℕ) (said : List Datum) (datum : Datum) → IsSaidUpTo word rest said → comma_parts rest ≡ part ∷ comma_parts behind
    → says_part (trim part) datum → IsSaidUpTo word behind (said ++ datum ∷ [])
one_more word rest part behind said datum before at says = record {
  parts = before.parts ++ part ∷ [];
  is = before.is ∙ ap (λ ps. before.parts ++ ps) at ∙ sym (append_assoc before.parts (part ∷ []) (comma_parts behind));
  are = said_more before.parts said part datum before.are says;
}

-- the rest is the last part
pub the_last : (word rest : List ℕ) (said : List Datum) (datum : Datum) → IsSaidUpTo word rest said → comma_parts rest ≡ rest ∷ [] → says_part (trim rest) datum
    → AreSaidBy (comma_parts word) (said ++ datum ∷ [])
the_last word rest said datum before at says =
    subst (λ ps. AreSaidBy ps (said ++ datum ∷ [])) (sym (before.is ∙ ap (λ ps. before.parts ++ ps) at)) (said_more before.parts said rest datum before.are says)

-- the parts of a word by its first comma
pub parts_by_first : (word : List ℕ) (found : Option (Bor (List ℕ) × Bor (List ℕ))) → MatchOption found (position_or_len is_comma word ≡ length word)
    (λ x. (x.0.now ≡ before_first is_comma word) × (x.1.now ≡ after_first is_comma word) × (position_or_len is_comma word < length word))
    → MatchOption found (comma_parts word ≡ word ∷ []) (λ x. comma_parts word ≡ x.0.now ∷ comma_parts x.1.now)
parts_by_first word None none = one_part word none
parts_by_first word (Some x) some = first_part word x.0.now x.1.now some.0 some.1 some.2

-- what is behind the first comma is shorter than the word
pub shorter_behind : (word : List ℕ) (found : Option (Bor (List ℕ) × Bor (List ℕ))) → MatchOption found (position_or_len is_comma word ≡ length word)
    (λ x. (x.0.now ≡ before_first is_comma word) × (x.1.now ≡ after_first is_comma word) × (position_or_len is_comma word < length word))
    → IfSome found (λ x. length x.1.now < length word)
shorter_behind word None none = tt
shorter_behind word (Some x) some =
    let inside : position_or_len is_comma word < length word = some.2 in
    let is : length x.1.now ≡ length word - (position_or_len is_comma word + 1) = ap length some.1 ∙ length-drop (position_or_len is_comma word + 1) word in
    omega arith

-- the same of values, of which one more is pushed
pub pushed_more : {V : Type 0} (datum_of : V → Datum) (word rest part behind trimmed : List ℕ) (values values' : List V) (value : V)
    → IsSaidUpTo word rest (map datum_of values) → comma_parts rest ≡ part ∷ comma_parts behind → trimmed ≡ trim part
    → says_part trimmed (datum_of value) → values' ≡ values ++ value ∷ [] → IsSaidUpTo word behind (map datum_of values')
pushed_more datum_of word rest part behind trimmed values values' value before at is says pushed =
    subst (λ vs. IsSaidUpTo word behind vs) (sym (ap (map datum_of) pushed ∙ map-append datum_of values (value ∷ [])))
    (one_more word rest part behind (map datum_of values) (datum_of value) before at (subst (λ w. says_part w (datum_of value)) is says))

-- and of the last one
pub pushed_last : {V : Type 0} (datum_of : V → Datum) (word rest trimmed : List ℕ) (values values' : List V) (value : V)
    → IsSaidUpTo word rest (map datum_of values) → comma_parts rest ≡ rest ∷ [] → trimmed ≡ trim rest
    → says_part trimmed (datum_of value) → values' ≡ values ++ value ∷ [] → AreSaidBy (comma_parts word) (map datum_of values')
pushed_last datum_of word rest trimmed values values' value before at is says pushed =
    subst (λ vs. AreSaidBy (comma_parts word) vs) (sym (ap (map datum_of) pushed ∙ map-append datum_of values (value ∷ [])))
    (the_last word rest (map datum_of values) (datum_of value) before at (subst (λ w. says_part w (datum_of value)) is says))

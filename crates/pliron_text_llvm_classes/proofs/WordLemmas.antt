-- Words one after another.
use Rattle.std.proofs.Common.{◌≡◌, ℕ, ◌+◌, ◌-◌, ◌<◌, ◌≤◌, Bool, nat_eq, None, eq-eqb, true, false, cond, List, [], ◌∷◌, ◌++◌, length, map, get_or, take, drop, refl, sym, ap, ◌∙◌, subst, append_assoc, arith}
use Rattle.std.specs.Prelude.{◌||◌, filter, codes, bytes_eq}
use Rattle.std.specs.Borrow.{Bor}
use Rattle.std.specs.List.{list_any}
use Rattle.std.proofs.lemmas.Bool.{cond-true, cond-false}
use Rattle.std.proofs.lemmas.List.{take_all, drop_more, drop_all, length-map, map-append, append-nil}
use Rattle.std.proofs.lemmas.List.Elements.{filter_more}
use Rattle.pliron_text_mlir_syntax.specs.Numbers.{all_of}
use Rattle.pliron_text_llvm_classes.specs.StatementClasses.{case_bits, cases_of_words}
use Rattle.pliron_text_llvm_classes.specs.FormWords.{has_bytes, width_behind, widths_of_word, widths_from, word_behind_to, case_before, cases_from}

-- what the words point to
abbrev pub now_of : List (Bor (List ℕ)) → List (List ℕ)
now_of words = map (λ word. word.now) words

fewer : (xs : List (Bor (List ℕ))) (i : ℕ) → i < length xs → i < length (now_of xs)
fewer xs i less = let e : length (now_of xs) ≡ length xs = length-map xs (λ word. word.now) in omega (arith, e, less)

all_past : (xs : List (Bor (List ℕ))) (i : ℕ) → length xs ≤ i → length (now_of xs) ≤ i
all_past xs i past = let e : length (now_of xs) ≡ length xs = length-map xs (λ word. word.now) in omega (arith, e, past)

-- the word of this number, and those behind it
next_of : (xs : List (Bor (List ℕ))) (i : ℕ) (word : List ℕ) → i < length xs → word ≡ get_or (now_of xs) i [] → drop i (now_of xs) ≡ word ∷ drop (i + 1) (now_of xs)
next_of xs i word less word-is = drop_more (now_of xs) i [] (fewer xs i less) ∙ ap (λ w. w ∷ drop (i + 1) (now_of xs)) (sym word-is)

-- ---- words that aren't empty

-- one word more
pub word_added : (words after : List (Bor (List ℕ))) (part : Bor (List ℕ)) → after ≡ words ++ part ∷ [] → now_of after ≡ now_of words ++ part.now ∷ []
word_added words after part after-is = ap now_of after-is ∙ map-append (λ word. word.now) words (part ∷ [])

pub word_pushed : (words after : List (Bor (List ℕ))) (part : Bor (List ℕ)) (has : Bool) → has ≡ true → after ≡ words ++ part ∷ [] → now_of after ≡ now_of words ++ cond has (part.now ∷ []) []
word_pushed words after part has is after-is =
    word_added words after part after-is ∙ ap (λ list. now_of words ++ list) (sym (cond-true has (part.now ∷ []) [] is))

pub word_left_out : (words : List (List ℕ)) (part : List ℕ) (has : Bool) → has ≡ false → words ≡ words ++ cond has (part ∷ []) []
word_left_out words part has is = sym (append-nil words) ∙ ap (λ list. words ++ list) (sym (cond-false has (part ∷ []) [] is))

pub words_more : (parts : List (Bor (List ℕ))) (i : ℕ) (found after : List (List ℕ)) (part : List ℕ) → i < length parts → found ≡ filter has_bytes (take i (now_of parts)) → part ≡ get_or (now_of parts) i []
    → after ≡ found ++ cond (has_bytes part) (part ∷ []) [] → after ≡ filter has_bytes (take (i + 1) (now_of parts))
words_more parts i found after part less found-is part-is after-is =
    after-is
    ∙ ap (λ word. found ++ cond (has_bytes word) (word ∷ []) []) part-is
    ∙ ap (λ words. words ++ cond (has_bytes (get_or (now_of parts) i [])) (get_or (now_of parts) i [] ∷ []) []) found-is
    ∙ sym (filter_more has_bytes (now_of parts) i [] (fewer parts i less))

pub words_end : (parts : List (Bor (List ℕ))) (i : ℕ) (found : List (List ℕ)) → length parts ≤ i → found ≡ filter has_bytes (take i (now_of parts)) → found ≡ filter has_bytes (now_of parts)
words_end parts i found past found-is = found-is ∙ ap (filter has_bytes) (take_all i (now_of parts) (all_past parts i past))

-- ---- one of the words

abbrev pub is_known : List ℕ → List ℕ → Bool
is_known word known = bytes_eq known word

same_first : (words : List (Bor (List ℕ))) (i : ℕ) (known word : List ℕ) (is_same whole : Bool) → i < length words → known ≡ get_or (now_of words) i [] → is_same ≡ bytes_eq known word
    → list_any (is_known word) (drop i (now_of words)) ≡ whole → (is_same || list_any (is_known word) (drop (i + 1) (now_of words))) ≡ whole
same_first words i known word is_same whole less known-is same-is h =
    ap (λ b. b || list_any (is_known word) (drop (i + 1) (now_of words))) same-is
    ∙ sym (ap (list_any (is_known word)) (next_of words i known less known-is))
    ∙ h

pub any_found : (words : List (Bor (List ℕ))) (i : ℕ) (known word : List ℕ) (is_same whole : Bool) → i < length words → known ≡ get_or (now_of words) i [] → is_same ≡ bytes_eq known word → is_same ≡ true
    → list_any (is_known word) (drop i (now_of words)) ≡ whole → true ≡ whole
any_found words i known word is_same whole less known-is same-is is h =
    sym (ap (λ b. b || list_any (is_known word) (drop (i + 1) (now_of words))) is)
    ∙ same_first words i known word is_same whole less known-is same-is h

pub any_more : (words : List (Bor (List ℕ))) (i : ℕ) (known word : List ℕ) (is_same whole : Bool) → i < length words → known ≡ get_or (now_of words) i [] → is_same ≡ bytes_eq known word → is_same ≡ false
    → list_any (is_known word) (drop i (now_of words)) ≡ whole → list_any (is_known word) (drop (i + 1) (now_of words)) ≡ whole
any_more words i known word is_same whole less known-is same-is is h =
    sym (ap (λ b. b || list_any (is_known word) (drop (i + 1) (now_of words))) is)
    ∙ same_first words i known word is_same whole less known-is same-is h

pub any_end : (words : List (Bor (List ℕ))) (i : ℕ) (word : List ℕ) (whole : Bool) → length words ≤ i → list_any (is_known word) (drop i (now_of words)) ≡ whole → false ≡ whole
any_end words i word whole past h = sym (ap (list_any (is_known word)) (drop_all i (now_of words) (all_past words i past))) ∙ h

-- ---- widths

pub widths_more : (words : List (Bor (List ℕ))) (i width next : ℕ) (word : List ℕ) (found after whole : List ℕ) → i < length words → found ++ widths_from width (drop i (now_of words)) ≡ whole
    → word ≡ get_or (now_of words) i [] → after ≡ found ++ widths_of_word width word → next ≡ width_behind width word
    → after ++ widths_from next (drop (i + 1) (now_of words)) ≡ whole
widths_more words i width next word found after whole less h word-is after-is next-is =
    let rest : List (List ℕ) = drop (i + 1) (now_of words) in
    ap (λ list. list ++ widths_from next rest) after-is
    ∙ ap (λ w. (found ++ widths_of_word width word) ++ widths_from w rest) next-is
    ∙ append_assoc found (widths_of_word width word) (widths_from (width_behind width word) rest)
    ∙ sym (ap (λ left. found ++ widths_from width left) (next_of words i word less word-is))
    ∙ h

pub widths_end : (words : List (Bor (List ℕ))) (i width : ℕ) (found whole : List ℕ) → length words ≤ i → found ++ widths_from width (drop i (now_of words)) ≡ whole → found ≡ whole
widths_end words i width found whole past h =
    sym (append-nil found) ∙ sym (ap (λ left. found ++ widths_from width left) (drop_all i (now_of words) (all_past words i past))) ∙ h

-- ---- the word behind `to`

pub behind_found : (words : List (Bor (List ℕ))) (i : ℕ) (is_behind : Bool) (word whole : List ℕ) → i < length words → is_behind ≡ true → word_behind_to is_behind (drop i (now_of words)) ≡ whole
    → word ≡ get_or (now_of words) i [] → word ≡ whole
behind_found words i is_behind word whole less is h word-is =
    sym (ap (λ b. word_behind_to b (word ∷ drop (i + 1) (now_of words))) is)
    ∙ sym (ap (word_behind_to is_behind) (next_of words i word less word-is))
    ∙ h

pub behind_more : (words : List (Bor (List ℕ))) (i : ℕ) (is_behind next : Bool) (word whole : List ℕ) → i < length words → is_behind ≡ false → word_behind_to is_behind (drop i (now_of words)) ≡ whole
    → word ≡ get_or (now_of words) i [] → next ≡ bytes_eq word (codes "to") → word_behind_to next (drop (i + 1) (now_of words)) ≡ whole
behind_more words i is_behind next word whole less is h word-is next-is =
    ap (λ b. word_behind_to b (drop (i + 1) (now_of words))) next-is
    ∙ sym (ap (λ b. word_behind_to b (word ∷ drop (i + 1) (now_of words))) is)
    ∙ sym (ap (word_behind_to is_behind) (next_of words i word less word-is))
    ∙ h

pub behind_end : (words : List (Bor (List ℕ))) (i : ℕ) (is_behind : Bool) (whole : List ℕ) → length words ≤ i → word_behind_to is_behind (drop i (now_of words)) ≡ whole → [] ≡ whole
behind_end words i is_behind whole past h = sym (ap (word_behind_to is_behind) (drop_all i (now_of words) (all_past words i past))) ∙ h

-- ---- cases

pub cases_more : (words : List (Bor (List ℕ))) (i : ℕ) (before word : List ℕ) (found after whole : List (List ℕ)) → i < length words → found ++ cases_from before (drop i (now_of words)) ≡ whole
    → word ≡ get_or (now_of words) i [] → after ≡ found ++ case_before before word
    → after ++ cases_from word (drop (i + 1) (now_of words)) ≡ whole
cases_more words i before word found after whole less h word-is after-is =
    let rest : List (List ℕ) = drop (i + 1) (now_of words) in
    ap (λ list. list ++ cases_from word rest) after-is
    ∙ append_assoc found (case_before before word) (cases_from word rest)
    ∙ sym (ap (λ left. found ++ cases_from before left) (next_of words i word less word-is))
    ∙ h

pub cases_end : (words : List (Bor (List ℕ))) (i : ℕ) (before : List ℕ) (found whole : List (List ℕ)) → length words ≤ i → found ++ cases_from before (drop i (now_of words)) ≡ whole → found ≡ whole
cases_end words i before found whole past h =
    sym (append-nil found) ∙ sym (ap (λ left. found ++ cases_from before left) (drop_all i (now_of words) (all_past words i past))) ∙ h

-- ---- numbers

map_mapped : {A B C : Type 0} (g : B → C) (f : A → B) (xs : List A) → map g (map f xs) ≡ map (λ x. g (f x)) xs
map_mapped g f [] = refl
map_mapped g f (x ∷ xs) = ap (λ rest. g (f x) ∷ rest) (map_mapped g f xs)

-- the cases that were found are those of the switch
pub cases_said : (width successors : ℕ) (words : List (List ℕ)) (cases : List (Bor (List ℕ))) → length cases ≡ successors - 1 → now_of cases ≡ cases_from [] words
    → cases_of_words width successors words ≡ all_of (map (λ case. case_bits width case.now) cases)
cases_said width successors words cases count found =
    let found_cases : List (List ℕ) = cases_from [] words in
    let as_many : length found_cases ≡ successors - 1 = sym (ap length found) ∙ length-map cases (λ case. case.now) ∙ count in
    cond-true (nat_eq (length found_cases) (successors - 1)) (all_of (map (case_bits width) found_cases)) None (eq-eqb (length found_cases) (successors - 1) as_many)
    ∙ ap (λ list. all_of (map (case_bits width) list)) (sym found)
    ∙ ap all_of (map_mapped (case_bits width) (λ case. case.now) cases)

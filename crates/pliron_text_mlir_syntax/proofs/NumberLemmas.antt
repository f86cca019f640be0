-- Digits one after the other, and lists of which each element is read.
use Rattle.std.proofs.Common.{◌≡◌, ℕ, zero, suc, ◌+◌, ◌-◌, ◌*◌, ◌%◌, ◌^◌, ◌<◌, ◌≤◌, true, false, nat_eq, nat_lt, take, if◌then◌else◌, List, [], ◌∷◌, ◌++◌, map, length, get_or, drop, Option, Some, None, refl, sym, ap, ◌∙◌, append_assoc, append-nil, add-one, drop-cons, arith}
use Rattle.std.specs.Prelude.{option_map, option_and_then}
use Rattle.std.proofs.Math.Nat.{mod-eq_of_lt}
use Rattle.std.proofs.lemmas.Nat.{pow_below}
use Rattle.std.proofs.lemmas.Bool.Decides.{nat_tests}
use Rattle.std.specs.List.{slice_split}
use denote.Ref.{Bor}
use Rattle.pliron_text_mlir_syntax.specs.Numbers.{with_digit, with_digits, digits_written, all_of, is_comma, signed_written, numbers_written, without_blanks, digits_of_element, element_in, elements_in}

pub digits_none : (base : ℕ) (text : List ℕ) → length text ≡ 0 → digits_written base text ≡ None
digits_none base [] h = refl
digits_none base (byte ∷ text) h = absurd (omega arith)

pub digits_begin : (base : ℕ) (text : List ℕ) → 0 < length text → digits_written base text ≡ with_digits base 0 text
digits_begin base [] h = absurd (omega arith)
digits_begin base (byte ∷ text) h = refl

pub digits_step : (base number : ℕ) (text : List ℕ) (i : ℕ) → i < length text → with_digits base number (drop i text) ≡ option_and_then (λ next. with_digits base next (drop (i + 1) text)) (with_digit base number (get_or text i 0))
digits_step base number text i h = rw (add-one, drop-cons text i 0 h)

onto_nothing : {B : Type 0} (o : Option (List B)) → o ≡ option_map (λ others. [] ++ others) o
onto_nothing None = refl
onto_nothing (Some others) = refl

onto_more : {B : Type 0} (ys : List B) (y : B) (o : Option (List B)) → option_map (λ others. ys ++ others) (option_map (λ others. y ∷ others) o) ≡ option_map (λ others. (ys ++ y ∷ []) ++ others) o
onto_more ys y None = refl
onto_more ys y (Some others) = ap Some (sym (append_assoc ys (y ∷ []) others))

-- ys are the first i of them
abbrev pub ReadsSo : {A B : Type 0} (f : A → Option B) (xs : List A) (i : ℕ) (ys : List B) → Type 0
ReadsSo f xs i ys = all_of (map f xs) ≡ option_map (λ others. ys ++ others) (all_of (map f (drop i xs)))

pub reads_none : {A B : Type 0} (f : A → Option B) (xs : List A) → ReadsSo f xs 0 []
reads_none f xs = onto_nothing (all_of (map f xs))

pub reads_more : {A B : Type 0} (f : A → Option B) (xs : List A) (i : ℕ) (d : A) (ys : List B) (y : B) → i < length xs → f (get_or xs i d) ≡ Some y → ReadsSo f xs i ys → ReadsSo f xs (i + 1) (ys ++ y ∷ [])
reads_more f xs i d ys y h is so =
    let step : all_of (map f (drop i xs)) ≡ option_map (λ others. y ∷ others) (all_of (map f (drop (i + 1) xs))) = rw (add-one, drop-cons xs i d h, is) in
    so ∙ ap (λ o. option_map (λ others. ys ++ others) o) step ∙ onto_more ys y (all_of (map f (drop (i + 1) xs)))

pub reads_fail : {A B : Type 0} (f : A → Option B) (xs : List A) (i : ℕ) (d : A) (ys : List B) → i < length xs → f (get_or xs i d) ≡ None → ReadsSo f xs i ys → all_of (map f xs) ≡ None
reads_fail f xs i d ys h is so =
    let step : all_of (map f (drop i xs)) ≡ None = rw (drop-cons xs i d h, is) in
    so ∙ ap (λ o. option_map (λ others. ys ++ others) o) step

drop_all : {A : Type 0} (xs : List A) (i : ℕ) → length xs ≤ i → drop i xs ≡ []
drop_all [] zero h = refl
drop_all [] (suc i) h = refl
drop_all (x ∷ xs) zero h = absurd (omega arith)
drop_all (x ∷ xs) (suc i) h = drop_all xs i (omega arith)

pub reads_all : {A B : Type 0} (f : A → Option B) (xs : List A) (i : ℕ) (ys : List B) → length xs ≤ i → ReadsSo f xs i ys → all_of (map f xs) ≡ Some ys
reads_all f xs i ys h so =
    let step : all_of (map f (drop i xs)) ≡ Some [] = rw (drop_all xs i h) in
    so ∙ ap (λ o. option_map (λ others. ys ++ others) o) step ∙ ap Some (append-nil ys)

-- at fewer than 64 bits, as code computes it
pub largest_some : (width : ℕ) → width < 64 → 1 ≤ width → 1 ≤ 1 * 2 ^ width % 18446744073709551616 - 1
largest_some width small h =
    let below : 2 ^ 0 < 2 ^ width = pow_below 0 width h in
    let above : 2 ^ width < 2 ^ 64 = pow_below width 64 small in
    let one : 1 * 2 ^ width ≡ 2 ^ width = omega arith in
    let fits : 1 * 2 ^ width % 18446744073709551616 ≡ 2 ^ width = ap (λ n. n % 18446744073709551616) one ∙ mod-eq_of_lt above in
    omega (arith, below, fits)

map_of_parts : (parts : List (Bor (List ℕ))) → map signed_written (map (λ part. part.now) parts) ≡ map (λ part. signed_written part.now) parts
map_of_parts [] = refl
map_of_parts (part ∷ parts) = ap (λ others. signed_written part.now ∷ others) (map_of_parts parts)

if_some : {A : Type 0} (n : ℕ) (x y : A) → 0 < n → (if nat_eq n 0 then x else y) ≡ y
if_some n x y h = let e : nat_eq n 0 ≡ false = grind (arith, nat_tests) in rw e

if_none : {A : Type 0} (n : ℕ) (x y : A) → n ≡ 0 → (if nat_eq n 0 then x else y) ≡ x
if_none n x y h = let e : nat_eq n 0 ≡ true = grind (arith, nat_tests) in rw e

if_reaches : {A : Type 0} (m n : ℕ) (x y : A) → n ≤ m → (if nat_lt m n then x else y) ≡ y
if_reaches m n x y h = let e : nat_lt m n ≡ false = grind (arith, nat_tests) in rw e

if_short : {A : Type 0} (m n : ℕ) (x y : A) → m < n → (if nat_lt m n then x else y) ≡ x
if_short m n x y h = let e : nat_lt m n ≡ true = grind (arith, nat_tests) in rw e

pub numbers_of_parts : (text : List ℕ) (parts : List (Bor (List ℕ))) → 0 < length (without_blanks text) → map (λ part. part.now) parts ≡ slice_split is_comma text → numbers_written text ≡ all_of (map (λ part. signed_written part.now) parts)
numbers_of_parts text parts some are = if_some (length (without_blanks text)) _ _ some ∙ ap all_of (ap (map signed_written) (sym are) ∙ map_of_parts parts)

-- ys are the elements before those that are left
abbrev pub LeavesSo : (width count : ℕ) (digits : List ℕ) (left : ℕ) (rest ys : List ℕ) → Type 0
LeavesSo width count digits left rest ys = elements_in width count digits ≡ option_map (λ others. ys ++ others) (elements_in width left rest)

pub elements_begin : (width count : ℕ) (digits : List ℕ) → LeavesSo width count digits count digits []
elements_begin width count digits = onto_nothing (elements_in width count digits)

elements_step : (width left : ℕ) (rest : List ℕ) → digits_of_element width ≤ length rest → elements_in width (suc left) rest ≡ option_and_then (λ bits. option_map (λ others. bits ∷ others) (elements_in width left (drop (digits_of_element width) rest))) (element_in width (take (digits_of_element width) rest))
elements_step width left rest long = if_reaches (length rest) (digits_of_element width) _ _ long

pub elements_more : (width count : ℕ) (digits : List ℕ) (left : ℕ) (rest ys : List ℕ) (y : ℕ) → 0 < left → digits_of_element width ≤ length rest → element_in width (take (digits_of_element width) rest) ≡ Some y → LeavesSo width count digits left rest ys → LeavesSo width count digits (left - 1) (drop (digits_of_element width) rest) (ys ++ y ∷ [])
elements_more width count digits zero rest ys y some long is so = absurd (omega arith)
elements_more width count digits (suc left) rest ys y some long is so =
    let step : elements_in width (suc left) rest ≡ option_map (λ others. y ∷ others) (elements_in width left (drop (digits_of_element width) rest)) =
    elements_step width left rest long ∙ ap (λ o. option_and_then (λ bits. option_map (λ others. bits ∷ others) (elements_in width left (drop (digits_of_element width) rest))) o) is in
    let fewer : suc left - 1 ≡ left = omega arith in
    rw fewer (so ∙ ap (λ o. option_map (λ others. ys ++ others) o) step ∙ onto_more ys y (elements_in width left (drop (digits_of_element width) rest)))

pub elements_short : (width count : ℕ) (digits : List ℕ) (left : ℕ) (rest ys : List ℕ) → 0 < left → length rest < digits_of_element width → LeavesSo width count digits left rest ys → elements_in width count digits ≡ None
elements_short width count digits zero rest ys some short so = absurd (omega arith)
elements_short width count digits (suc left) rest ys some short so =
    so ∙ ap (λ o. option_map (λ others. ys ++ others) o) (if_short (length rest) (digits_of_element width) _ _ short)

pub elements_fail : (width count : ℕ) (digits : List ℕ) (left : ℕ) (rest ys : List ℕ) → 0 < left → digits_of_element width ≤ length rest → element_in width (take (digits_of_element width) rest) ≡ None → LeavesSo width count digits left rest ys → elements_in width count digits ≡ None
elements_fail width count digits zero rest ys some long is so = absurd (omega arith)
elements_fail width count digits (suc left) rest ys some long is so =
    let step : elements_in width (suc left) rest ≡ None =
    elements_step width left rest long ∙ ap (λ o. option_and_then (λ bits. option_map (λ others. bits ∷ others) (elements_in width left (drop (digits_of_element width) rest))) o) is in
    so ∙ ap (λ o. option_map (λ others. ys ++ others) o) step

pub elements_end : (width count : ℕ) (digits : List ℕ) (left : ℕ) (rest ys : List ℕ) → left ≡ 0 → length rest ≡ 0 → LeavesSo width count digits left rest ys → elements_in width count digits ≡ Some ys
elements_end width count digits (suc left) rest ys none empty so = absurd (omega arith)
elements_end width count digits zero rest ys none empty so =
    so ∙ ap (λ o. option_map (λ others. ys ++ others) o) (if_none (length rest) _ _ empty) ∙ ap Some (append-nil ys)

pub elements_over : (width count : ℕ) (digits : List ℕ) (left : ℕ) (rest ys : List ℕ) → left ≡ 0 → 0 < length rest → LeavesSo width count digits left rest ys → elements_in width count digits ≡ None
elements_over width count digits (suc left) rest ys none over so = absurd (omega arith)
elements_over width count digits zero rest ys none over so =
    so ∙ ap (λ o. option_map (λ others. ys ++ others) o) (if_some (length rest) _ _ over)

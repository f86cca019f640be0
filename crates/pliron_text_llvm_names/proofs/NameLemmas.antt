-- Bytes and numbers of names.
use Rattle.std.proofs.Common.{◌≡◌, ℕ, ◌+◌, ◌-◌, ◌*◌, ◌<◌, ◌≤◌, List, [], ◌∷◌, length, get_or, take, drop, sym, ap, ◌∙◌, subst, arith}
use Rattle.std.proofs.Math.Seq.{take-nil}
use Rattle.std.proofs.lemmas.List.{drop_all, drop_more, take_all}
use Rattle.pliron_text_llvm_syntax.specs.declared.tokens.ByteSpan.{ByteSpan}
use Rattle.pliron_text_llvm_syntax.specs.Tokens.{bytes_of_span}
use Rattle.pliron_text_llvm_names.specs.Names.{decimal_behind, decimal}

-- a span behind the text
pub dropped_all : (text : List ℕ) (span : ByteSpan) → length text ≤ span.start → [] ≡ bytes_of_span text span
dropped_all text span past = sym (ap (take (span.end - span.start)) (drop_all span.start text past) ∙ take-nil (span.end - span.start))

-- a span that ends behind the text
pub taken_all : (text behind : List ℕ) (span : ByteSpan) (len : ℕ) → behind ≡ drop span.start text → len ≡ span.end - span.start → length behind ≤ len → behind ≡ bytes_of_span text span
taken_all text behind span len behind_is len_is past =
    sym (take_all len behind past) ∙ ap (λ n. take n behind) len_is ∙ ap (take (span.end - span.start)) behind_is

-- a span in the text
pub taken_some : (text behind bytes : List ℕ) (span : ByteSpan) (len : ℕ) → behind ≡ drop span.start text → len ≡ span.end - span.start → bytes ≡ take len behind → bytes ≡ bytes_of_span text span
taken_some text behind bytes span len behind_is len_is bytes_are =
    bytes_are ∙ ap (λ n. take n behind) len_is ∙ ap (take (span.end - span.start)) behind_is

-- ---- numbers

ahead : (digits : List ℕ) (number i d : ℕ) → i < length digits → decimal_behind number (drop i digits) ≡ decimal digits
    → decimal_behind (number * 10 + (get_or digits i d - 48)) (drop (i + 1) digits) ≡ decimal digits
ahead digits number i d less e = ap (decimal_behind number) (sym (drop_more digits i d less)) ∙ e

grows : (number : ℕ) (digits : List ℕ) → number ≤ decimal_behind number digits
grows number [] = omega arith
grows number (digit ∷ digits) = let more = grows (number * 10 + (digit - 48)) digits in omega (arith, more)

-- a digit more
pub decimal_more : (digits : List ℕ) (number i d more : ℕ) → i < length digits → decimal_behind number (drop i digits) ≡ decimal digits → more ≡ number * 10 + (get_or digits i d - 48)
    → decimal_behind more (drop (i + 1) digits) ≡ decimal digits
decimal_more digits number i d more less e more_is = ap (λ n. decimal_behind n (drop (i + 1) digits)) more_is ∙ ahead digits number i d less e

-- no digit is left
pub decimal_all : (digits : List ℕ) (number i : ℕ) → length digits ≤ i → decimal_behind number (drop i digits) ≡ decimal digits → number ≡ decimal digits
decimal_all digits number i past e = sym (ap (decimal_behind number) (drop_all i digits past)) ∙ e

-- it is large once it is with a digit more
pub decimal_large : (digits : List ℕ) (number i d : ℕ) → i < length digits → decimal_behind number (drop i digits) ≡ decimal digits → 4294967295 < number * 10 + (get_or digits i d - 48) → 4294967295 < decimal digits
decimal_large digits number i d less e large =
    let more = grows (number * 10 + (get_or digits i d - 48)) (drop (i + 1) digits) in
    subst (λ n. 4294967295 < n) (ahead digits number i d less e) (omega (arith, large, more))

pub ruleset decimal_steps = (decimal_more, decimal_all, decimal_large)

-- Data as integers of a width, and data that are none.
use Rattle.std.proofs.Common.{◌≡◌, ℕ, ◌+◌, ◌-◌, ◌*◌, ◌/◌, ◌%◌, ◌^◌, ◌<◌, ◌≤◌, Bool, true, false, not, nat_eq, nat_lt, nat_le, ◌&&◌, if◌then◌else◌, List, [], ◌∷◌, Option, Some, None, IsTrue, refl, ap, ap₂, sym, ◌∙◌, subst, arith, tests, ℤ, pos, negsuc, ◌-ℤ◌}
use Rattle.std.specs.Prelude.{int_lt}
use Rattle.std.proofs.Math.Pow.{pow_mono}
use Rattle.pliron_core.proofs.HoldingLemmas.{not_none, some_is}
use Rattle.pliron_laws.specs.Datum.{Datum, Empty, Number, Text, Join}
use Rattle.pliron_dialect.specs.Roles.{number_of}
use Rattle.pliron_bits.specs.Numbers.{signed_value}
use Rattle.pliron_bits.specs.Arithmetic.{signed_less}
use Rattle.pliron_dialect_mlir.specs.Data.{is_width, is_number, bits_of_width, number, bits_at, some_if}
use Rattle.pliron_dialect_mlir.specs.OtherData.{poison, is_of_width, first_other, between_widths, passed_on}
use Rattle.pliron_mlir_rules.specs.WidthMoves.{false_true, moves_chain, moves_to_none, stays_there}

-- the bits, where the datum is an integer of this width
abbrev pub bits_in : ℕ → Datum → Option ℕ
bits_in width d = bits_at width (number_of d)

abbrev pub integer : (width bits : ℕ) → Datum
integer width bits = Number (number width bits)

said_bits : (width n bits : ℕ) → bits_at width (pos n) ≡ Some bits → n ≡ width * 2 ^ 64 + bits
said_bits width n bits e = grind (arith, tests, e)

bits_below : (width n bits : ℕ) → bits_at width (pos n) ≡ Some bits → bits < 2 ^ bits_of_width width
bits_below width n bits e = grind (arith, tests, e)

at_most : (width : ℕ) → is_width width ≡ true → bits_of_width width ≤ 64
at_most width w = grind (arith, tests, w)

pub some_bits : (width : ℕ) → is_width width ≡ true → 1 ≤ bits_of_width width
some_bits width w = grind (arith, tests, w)

pub bits_back : (width bits : ℕ) → is_width width ≡ true → bits < 2 ^ bits_of_width width → bits_in width (integer width bits) ≡ Some bits
bits_back width bits w lt =
    let le : 2 ^ bits_of_width width ≤ 2 ^ 64 = pow_mono (at_most width w) in
    let below : bits < 2 ^ 64 = omega (arith, lt, le) in
    let quotient : (width * 2 ^ 64 + bits) / 2 ^ 64 ≡ width = omega (arith, below) in
    let rest : (width * 2 ^ 64 + bits) % 2 ^ 64 ≡ bits = omega (arith, below) in
    grind (arith, tests, w, lt, quotient, rest)

-- what counts as 0 is no integer
pub no_zero : (width : ℕ) → bits_at width (pos 0) ≡ None
no_zero width = grind (arith, tests)

nothing_said : {A : Type 0} {x : Option ℕ} {n : ℕ} → x ≡ None → x ≡ Some n → A
nothing_said none some = absurd (not_none (sym none ∙ some))

pub bits_alone : (w a b : ℕ) → integer w a ≡ integer w b → a ≡ b
bits_alone w a b e =
    let same : w * 2 ^ 64 + a ≡ w * 2 ^ 64 + b = ap size_of e in
    omega (arith, same)
  where
    size_of : Datum → ℕ
    size_of (Number (pos n)) = n
    size_of d = 0

-- an integer of a width, by its bits
pub is_integer : (width : ℕ) (d : Datum) (n : ℕ) → bits_in width d ≡ Some n → d ≡ integer width n
is_integer width Empty n e = nothing_said (no_zero width) e
is_integer width (Text t) n e = nothing_said (no_zero width) e
is_integer width (Join a b) n e = nothing_said (no_zero width) e
is_integer width (Number (negsuc i)) n e = absurd (not_none e)
is_integer width (Number (pos i)) n e = ap (λ k. Number (pos k)) (said_bits width i n e)

pub below_size : (width : ℕ) (d : Datum) (n : ℕ) → bits_in width d ≡ Some n → n < 2 ^ bits_of_width width
below_size width Empty n e = nothing_said (no_zero width) e
below_size width (Text t) n e = nothing_said (no_zero width) e
below_size width (Join a b) n e = nothing_said (no_zero width) e
below_size width (Number (negsuc i)) n e = absurd (not_none e)
below_size width (Number (pos i)) n e = bits_below width i n e

-- ---- what is no integer of a width

no_number : (width n : ℕ) → bits_at width (pos n) ≡ None → is_number width n ≡ false
no_number width n e = by (is_number width n) e
  where
    by : (b : Bool) → some_if b (n % 2 ^ 64) ≡ None → b ≡ false
    by true f = absurd (not_none (sym f))
    by false f = refl

no_bits : (width n : ℕ) → is_number width n ≡ false → bits_at width (pos n) ≡ None
no_bits width n e = ap (λ b. some_if b (n % 2 ^ 64)) e

other : (width : ℕ) (d : Datum) → bits_in width d ≡ None → is_of_width width d ≡ false
other width Empty e = refl
other width (Text t) e = refl
other width (Join a b) e = refl
other width (Number (negsuc i)) e = refl
other width (Number (pos i)) e = no_number width i e

one : (width : ℕ) (d : Datum) (n : ℕ) → bits_in width d ≡ Some n → is_of_width width d ≡ true
one width Empty n e = nothing_said (no_zero width) e
one width (Text t) n e = nothing_said (no_zero width) e
one width (Join a b) n e = nothing_said (no_zero width) e
one width (Number (negsuc i)) n e = absurd (not_none e)
one width (Number (pos i)) n e = of_bool (is_number width i) refl
  where
    of_bool : (b : Bool) → is_number width i ≡ b → is_number width i ≡ true
    of_bool true f = f
    of_bool false f = nothing_said (no_bits width i f) e

pub first_is_other : (width : ℕ) (d : Datum) (ds : List Datum) → bits_in width d ≡ None → first_other width (d ∷ ds) ≡ d
first_is_other width d ds e = ap (λ b. if b then first_other width ds else d) (other width d e)

pub first_is_later : (width : ℕ) (d : Datum) (ds : List Datum) (n : ℕ) → bits_in width d ≡ Some n → first_other width (d ∷ ds) ≡ first_other width ds
first_is_later width d ds n e = ap (λ b. if b then first_other width ds else d) (one width d n e)

pub passed_is_other : (width to : ℕ) (d : Datum) → bits_in width d ≡ None → bits_in to (passed_on width to d) ≡ None
passed_is_other width to Empty e = no_zero to
passed_is_other width to (Text t) e = no_zero to
passed_is_other width to (Join a b) e = no_zero to
passed_is_other width to (Number (negsuc i)) e = refl
passed_is_other width to (Number (pos i)) e = no_bits to (between_widths width to i) (moves_to_none width to i (no_number width i e))

pub passed_twice : (width to last : ℕ) (d : Datum) → bits_in width d ≡ None → passed_on to last (passed_on width to d) ≡ passed_on width last d
passed_twice width to last Empty e = refl
passed_twice width to last (Text t) e = refl
passed_twice width to last (Join a b) e = refl
passed_twice width to last (Number (negsuc i)) e = refl
passed_twice width to last (Number (pos i)) e = ap (λ k. Number (pos k)) (moves_chain width to last i (no_number width i e))

pub passed_nowhere : (width : ℕ) (d : Datum) → passed_on width width d ≡ d
passed_nowhere width Empty = refl
passed_nowhere width (Text t) = refl
passed_nowhere width (Join a b) = refl
passed_nowhere width (Number (negsuc i)) = refl
passed_nowhere width (Number (pos i)) = ap (λ k. Number (pos k)) (stays_there width i)

-- what is passed on tells what it was
pub passed_apart : (width to : ℕ) (d e : Datum) → bits_in width d ≡ None → bits_in width e ≡ None → passed_on width to d ≡ passed_on width to e → d ≡ e
passed_apart width to d e p q same =
    sym (passed_nowhere width d) ∙ sym (passed_twice width to width d p) ∙ ap (passed_on to width) same
    ∙ passed_twice width to width e q ∙ passed_nowhere width e

-- ---- narrow numbers read as signed

signed_low : (w n : ℕ) → n < 2 ^ (w - 1) → signed_value w n ≡ pos n
signed_low w n lt = ap (λ b. if b then pos n else pos n -ℤ pos (2 ^ w)) (yes n (2 ^ (w - 1)) lt)
  where
    yes : (a b : ℕ) → a < b → nat_lt a b ≡ true
    yes a b h = grind (arith, tests)

pub signed_narrow : (v w a b : ℕ) → v < w → a < 2 ^ v → b < 2 ^ v → signed_less w a b ≡ nat_lt a b
signed_narrow v w a b lt first second =
    let half : 2 ^ v ≤ 2 ^ (w - 1) = pow_mono (omega (arith, lt)) in
    ap₂ int_lt (signed_low w a (omega (arith, first, half))) (signed_low w b (omega (arith, second, half)))

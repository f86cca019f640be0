-- Sums with two constants that promise not to wrap.
use Rattle.std.proofs.Common.{◌≡◌, ℕ, ◌+◌, ◌-◌, ◌%◌, ◌^◌, ◌<◌, ◌≤◌, ◌⊎◌, inl, inr, Bool, true, false, not, nat_lt, int_lt, int_le, ◌&&◌, ◌||◌, if◌then◌else◌, Option, Some, None, refl, ap, ap₂, sym, ◌∙◌, subst, arith, tests, ℤ, pos, ◌+ℤ◌, ◌-ℤ◌, neg_ℤ}
use Rattle.std.proofs.Math.Nat.{mod-eq_of_lt, mod-eq-sub-mod}
use Rattle.std.proofs.lemmas.Int.{ints}
use Rattle.std.proofs.lemmas.Nat.{mod_below, pow_pos}
use Rattle.pliron_bits.specs.declared.flags.Flags.{Flags}
use Rattle.pliron_bits.specs.Numbers.{signed_value, is_signed}
use Rattle.pliron_bits.specs.Arithmetic.{unless_flagged, wraps, sum}
use Rattle.pliron_core.proofs.HoldingLemmas.{not_none, some_is}
use Rattle.pliron_mlir_rules.specs.CastNumbers.{halves, order, signed_low, signed_high}
use Rattle.pliron_mlir_rules.specs.HeadsSay.{both_so}
use Rattle.pliron_mlir_rules.specs.MlirRules.{are_alike, promise_alike, have_one_sign, joined_sum}
use Rattle.pliron_mlir_rules.specs.SumNumbers.{signed_reach, sums_join}

-- ---- the bits of a sum, read as signed

-- a whole number that is the number, or less than it by the size
abbrev MayBeRead : (w n : ℕ) → ℤ → Type 0
MayBeRead w n z = (z ≡ pos n) ⊎ (z ≡ pos n -ℤ pos (2 ^ w))

read_as : (w n : ℕ) (z : ℤ) → 1 ≤ w → n < 2 ^ w → is_signed w z ≡ true → MayBeRead w n z → signed_value w n ≡ z
read_as w n z some lt reach (inl e) = signed_low w n (low (2 ^ (w - 1)) n (ap (is_signed w) (sym e) ∙ reach)) ∙ sym e
  where
    low : (h n : ℕ) → int_le (neg_ℤ (pos h)) (pos n) && int_lt (pos n) (pos h) ≡ true → n < h
    low h n r = grind (arith, tests, ints, r)
read_as w n z some lt reach (inr e) = signed_high w n (high (2 ^ (w - 1)) (2 ^ w) n (halves w some) (ap (is_signed w) (sym e) ∙ reach)) ∙ sym e
  where
    high : (h m n : ℕ) → m ≡ h + h → int_le (neg_ℤ (pos h)) (pos n -ℤ pos m) && int_lt (pos n -ℤ pos m) (pos h) ≡ true → h ≤ n
    high h m n whole r = grind (arith, tests, ints, whole, r)

sum_reads : (w a c : ℕ) → 1 ≤ w → a < 2 ^ w → c < 2 ^ w → is_signed w (signed_value w a +ℤ signed_value w c) ≡ true → signed_value w ((a + c) % 2 ^ w) ≡ signed_value w a +ℤ signed_value w c
sum_reads w a c some p q reach = read_as w ((a + c) % 2 ^ w) (signed_value w a +ℤ signed_value w c) some (mod_below (a + c) (2 ^ w) (pow_pos w)) reach (of_orders (order a (2 ^ (w - 1))) (order c (2 ^ (w - 1))) (order (a + c) (2 ^ w)))
  where
    whole : 2 ^ w ≡ 2 ^ (w - 1) + 2 ^ (w - 1)
    whole = halves w some

    short : a + c < 2 ^ w → (a + c) % 2 ^ w ≡ a + c
    short lt = mod-eq_of_lt lt

    long : 2 ^ w ≤ a + c → (a + c) % 2 ^ w ≡ a + c - 2 ^ w
    long le = mod-eq-sub-mod le ∙ mod-eq_of_lt (omega (arith, p, q, le))

    -- neither is negative, one is, both are
    none : (x y : ℕ) → pos x +ℤ pos y ≡ pos (x + y)
    none x y = omega (arith, ints)

    later : (m x y : ℕ) → pos x +ℤ (pos y -ℤ pos m) ≡ pos (x + y) -ℤ pos m
    later m x y = omega (arith, ints)

    before : (m x y : ℕ) → (pos x -ℤ pos m) +ℤ pos y ≡ pos (x + y) -ℤ pos m
    before m x y = omega (arith, ints)

    less : (m n : ℕ) → m ≤ n → pos n -ℤ pos m ≡ pos (n - m)
    less m n le = omega (arith, ints, le)

    twice : (m x y : ℕ) → m ≤ x + y → (pos x -ℤ pos m) +ℤ (pos y -ℤ pos m) ≡ pos (x + y - m) -ℤ pos m
    twice m x y le = omega (arith, ints, le)

    one : (z : ℤ) → z ≡ pos (a + c) -ℤ pos (2 ^ w) → (a + c < 2 ^ w) ⊎ (2 ^ w ≤ a + c) → MayBeRead w ((a + c) % 2 ^ w) z
    one z e (inl lt) = inr (e ∙ ap (λ x. pos x -ℤ pos (2 ^ w)) (sym (short lt)))
    one z e (inr le) = inl (e ∙ less (2 ^ w) (a + c) le ∙ ap pos (sym (long le)))

    of_orders : (a < 2 ^ (w - 1)) ⊎ (2 ^ (w - 1) ≤ a) → (c < 2 ^ (w - 1)) ⊎ (2 ^ (w - 1) ≤ c) → (a + c < 2 ^ w) ⊎ (2 ^ w ≤ a + c) → MayBeRead w ((a + c) % 2 ^ w) (signed_value w a +ℤ signed_value w c)
    of_orders (inl i) (inl j) o =
        inl (ap₂ (λ x y. x +ℤ y) (signed_low w a i) (signed_low w c j) ∙ none a c ∙ ap pos (sym (short (omega (arith, i, j, whole)))))
    of_orders (inl i) (inr j) o = one (signed_value w a +ℤ signed_value w c) (ap₂ (λ x y. x +ℤ y) (signed_low w a i) (signed_high w c j) ∙ later (2 ^ w) a c) o
    of_orders (inr i) (inl j) o = one (signed_value w a +ℤ signed_value w c) (ap₂ (λ x y. x +ℤ y) (signed_high w a i) (signed_low w c j) ∙ before (2 ^ w) a c) o
    of_orders (inr i) (inr j) o =
        let le : 2 ^ w ≤ a + c = omega (arith, i, j, whole) in
        inr (ap₂ (λ x y. x +ℤ y) (signed_high w a i) (signed_high w c j) ∙ twice (2 ^ w) a c le ∙ ap (λ x. pos x -ℤ pos (2 ^ w)) (sym (long le)))

-- ---- what wraps at once or later wraps where both constants are added, and the other way round

-- a number between two in reach, since both steps have one sign
between : (h : ℕ) (x y z : ℤ) → have_one_sign y z ≡ true → int_le (neg_ℤ (pos h)) x && int_lt x (pos h) ≡ true → int_le (neg_ℤ (pos h)) (x +ℤ (y +ℤ z)) && int_lt (x +ℤ (y +ℤ z)) (pos h) ≡ true → int_le (neg_ℤ (pos h)) (x +ℤ y) && int_lt (x +ℤ y) (pos h) ≡ true
between h x y z signs p q = grind (arith, tests, ints, signs, p, q)

false_if : (b : Bool) → not b ≡ true → b ≡ false
false_if true e = sym e
false_if false e = refl

true_if : (b : Bool) → not b ≡ false → b ≡ true
true_if true e = refl
true_if false e = sym e

-- where the sum of all isn't in reach, nor is the first
not_before : (x y : Bool) → (x ≡ true → y ≡ true) → y ≡ false → x ≡ false
not_before true y after e = sym (after refl) ∙ e
not_before false y after e = refl

module _ (w a c d : ℕ) (some : 1 ≤ w) (p : a < 2 ^ w) (q : c < 2 ^ w) (r : d < 2 ^ w) where
  abbrev one : Bool
  one = have_one_sign (signed_value w c) (signed_value w d)

  signed_constants : is_signed w (signed_value w c +ℤ signed_value w d) ≡ true → is_signed w (signed_value w a +ℤ signed_value w ((c + d) % 2 ^ w)) ≡ is_signed w (signed_value w a +ℤ (signed_value w c +ℤ signed_value w d))
  signed_constants reach = ap (λ z. is_signed w (signed_value w a +ℤ z)) (sum_reads w c d some q r reach)

  signed_later : (x : Bool) → x && not one ≡ false → x && not (is_signed w (signed_value w c +ℤ signed_value w d)) ≡ false → x && not (is_signed w (signed_value w a +ℤ signed_value w c)) ≡ true → x && not (is_signed w (signed_value w a +ℤ signed_value w ((c + d) % 2 ^ w))) ≡ true
  signed_later false i j k = k
  signed_later true i j k =
      ap not (signed_constants (true_if (is_signed w (signed_value w c +ℤ signed_value w d)) j)
      ∙ not_before (is_signed w (signed_value w a +ℤ (signed_value w c +ℤ signed_value w d))) (is_signed w (signed_value w a +ℤ signed_value w c))
      (λ e. between (2 ^ (w - 1)) (signed_value w a) (signed_value w c) (signed_value w d) (true_if one i) (signed_reach w a some p) e)
      (false_if (is_signed w (signed_value w a +ℤ signed_value w c)) k))

  signed_same : (x : Bool) → x && not (is_signed w (signed_value w c +ℤ signed_value w d)) ≡ false → x && not (is_signed w (signed_value w a +ℤ signed_value w c)) ≡ false → x && not (is_signed w (signed_value w ((a + c) % 2 ^ w) +ℤ signed_value w d)) ≡ x && not (is_signed w (signed_value w a +ℤ signed_value w ((c + d) % 2 ^ w)))
  signed_same false j k = refl
  signed_same true j k =
      ap not (ap (λ z. is_signed w (z +ℤ signed_value w d)) (sum_reads w a c some p q (true_if (is_signed w (signed_value w a +ℤ signed_value w c)) k))
      ∙ ap (is_signed w) (in_order (signed_value w a) (signed_value w c) (signed_value w d))
      ∙ sym (signed_constants (true_if (is_signed w (signed_value w c +ℤ signed_value w d)) j)))
    where
      in_order : (x y z : ℤ) → (x +ℤ y) +ℤ z ≡ x +ℤ (y +ℤ z)
      in_order x y z = omega (arith, ints)

  short : (m n : ℕ) → nat_lt n m ≡ true → n % m ≡ n
  short m n lt = mod-eq_of_lt (less m n lt)
    where
      less : (m n : ℕ) → nat_lt n m ≡ true → n < m
      less m n e = grind (arith, tests, e)

  unsigned_later : (y : Bool) → y && not (nat_lt (c + d) (2 ^ w)) ≡ false → y && not (nat_lt (a + c) (2 ^ w)) ≡ true → y && not (nat_lt (a + (c + d) % 2 ^ w) (2 ^ w)) ≡ true
  unsigned_later false j k = k
  unsigned_later true j k =
      ap not (ap (λ n. nat_lt (a + n) (2 ^ w)) (short (2 ^ w) (c + d) (true_if (nat_lt (c + d) (2 ^ w)) j))
      ∙ past (2 ^ w) (false_if (nat_lt (a + c) (2 ^ w)) k))
    where
      past : (m : ℕ) → nat_lt (a + c) m ≡ false → nat_lt (a + (c + d)) m ≡ false
      past m e = grind (arith, tests, e)

  unsigned_same : (y : Bool) → y && not (nat_lt (c + d) (2 ^ w)) ≡ false → y && not (nat_lt (a + c) (2 ^ w)) ≡ false → y && not (nat_lt ((a + c) % 2 ^ w + d) (2 ^ w)) ≡ y && not (nat_lt (a + (c + d) % 2 ^ w) (2 ^ w))
  unsigned_same false j k = refl
  unsigned_same true j k =
      ap not (ap (λ n. nat_lt (n + d) (2 ^ w)) (short (2 ^ w) (a + c) (true_if (nat_lt (a + c) (2 ^ w)) k))
      ∙ ap (λ n. nat_lt n (2 ^ w)) (omega arith)
      ∙ ap (λ n. nat_lt (a + n) (2 ^ w)) (sym (short (2 ^ w) (c + d) (true_if (nat_lt (c + d) (2 ^ w)) j))))

-- ---- both promises

either_later : (x y u v : Bool) → (x ≡ true → u ≡ true) → (y ≡ true → v ≡ true) → x || y ≡ true → u || v ≡ true
either_later true y u v f g e = ap (λ b. b || v) (f refl)
either_later false y true v f g e = refl
either_later false y false v f g e = g e

neither : (x y : Bool) → x || y ≡ false → (x ≡ false) × (y ≡ false)
neither true y e = absurd (grind (arith, e))
neither false y e = (refl, e)

stays_flagged : (b : Bool) (k : ℕ) → unless_flagged b k ≡ None → b ≡ true
stays_flagged true k e = refl
stays_flagged false k e = absurd (not_none (sym e))

not_flagged : (b : Bool) (k n : ℕ) → unless_flagged b k ≡ Some n → (b ≡ false) × (k ≡ n)
not_flagged true k n e = absurd (not_none e)
not_flagged false k n e = (refl, some_is e)

-- the one sum of three numbers, by what the two constants are
pub record JoinsSums (f : Flags) (w a c d n : ℕ) : Type 0 where
  -- where the first sum wraps, the one sum does
  pub none : sum f w a c ≡ None → sum f w a n ≡ None
  -- where it doesn't, the second sum is the one sum
  pub some : (b : ℕ) → sum f w a c ≡ Some b → sum f w b d ≡ sum f w a n

pub sums_join_alike : (f : Flags) (w a c d n : ℕ) → 1 ≤ w → a < 2 ^ w → c < 2 ^ w → d < 2 ^ w → joined_sum f w c d ≡ Some n → JoinsSums f w a c d n
sums_join_alike f w a c d n some p q r e = of_sign (f.no_signed_wrap && not (have_one_sign (signed_value w c) (signed_value w d))) refl e
  where
    whole : f.no_signed_wrap && not (have_one_sign (signed_value w c) (signed_value w d)) ≡ false → wraps f w (signed_value w c +ℤ signed_value w d) (nat_lt (c + d) (2 ^ w)) ≡ false → JoinsSums f w a c d ((c + d) % 2 ^ w)
    whole signs free =
        let parts = neither (f.no_signed_wrap && not (is_signed w (signed_value w c +ℤ signed_value w d))) (f.no_unsigned_wrap && not (nat_lt (c + d) (2 ^ w))) free in
        record {
          none = λ g.
              let first = stays_flagged (wraps f w (signed_value w a +ℤ signed_value w c) (nat_lt (a + c) (2 ^ w))) ((a + c) % 2 ^ w) g in
              ap (λ b. unless_flagged b ((a + (c + d) % 2 ^ w) % 2 ^ w)) (either_later
              (f.no_signed_wrap && not (is_signed w (signed_value w a +ℤ signed_value w c))) (f.no_unsigned_wrap && not (nat_lt (a + c) (2 ^ w)))
              (f.no_signed_wrap && not (is_signed w (signed_value w a +ℤ signed_value w ((c + d) % 2 ^ w)))) (f.no_unsigned_wrap && not (nat_lt (a + (c + d) % 2 ^ w) (2 ^ w)))
              (λ h. signed_later w a c d some p q r f.no_signed_wrap signs parts.0 h) (λ h. unsigned_later w a c d some p q r f.no_unsigned_wrap parts.1 h) first);
          some = λ b g.
              let first = not_flagged (wraps f w (signed_value w a +ℤ signed_value w c) (nat_lt (a + c) (2 ^ w))) ((a + c) % 2 ^ w) b g in
              let free_first = neither (f.no_signed_wrap && not (is_signed w (signed_value w a +ℤ signed_value w c))) (f.no_unsigned_wrap && not (nat_lt (a + c) (2 ^ w))) first.0 in
              ap (λ x. sum f w x d) (sym first.1)
              ∙ ap₂ (λ x y. unless_flagged (x || y) (((a + c) % 2 ^ w + d) % 2 ^ w)) (signed_same w a c d some p q r f.no_signed_wrap parts.0 free_first.0) (unsigned_same w a c d some p q r f.no_unsigned_wrap parts.1 free_first.1)
              ∙ ap (unless_flagged (wraps f w (signed_value w a +ℤ signed_value w ((c + d) % 2 ^ w)) (nat_lt (a + (c + d) % 2 ^ w) (2 ^ w)))) (sums_join (2 ^ w) a c d);
        }

    of_sign : (b : Bool) → f.no_signed_wrap && not (have_one_sign (signed_value w c) (signed_value w d)) ≡ b → (if b then None else sum f w c d) ≡ Some n → JoinsSums f w a c d n
    of_sign true signs g = absurd (not_none g)
    of_sign false signs g =
        let constants = not_flagged (wraps f w (signed_value w c +ℤ signed_value w d) (nat_lt (c + d) (2 ^ w))) ((c + d) % 2 ^ w) n g in
        subst (JoinsSums f w a c d) constants.1 (whole signs constants.0)

-- ---- results

pub sum_below : (f : Flags) (w a c n : ℕ) → sum f w a c ≡ Some n → n < 2 ^ w
sum_below f w a c n e =
    subst (λ k. k < 2 ^ w) (not_flagged (wraps f w (signed_value w a +ℤ signed_value w c) (nat_lt (a + c) (2 ^ w))) ((a + c) % 2 ^ w) n e).1 (mod_below (a + c) (2 ^ w) (pow_pos w))

pub joined_below : (f : Flags) (w c d n : ℕ) → joined_sum f w c d ≡ Some n → n < 2 ^ w
joined_below f w c d n e = by (f.no_signed_wrap && not (have_one_sign (signed_value w c) (signed_value w d))) e
  where
    by : (b : Bool) → (if b then None else sum f w c d) ≡ Some n → n < 2 ^ w
    by true g = absurd (not_none g)
    by false g = sum_below f w c d n g

same_is : (x y : Bool) → are_alike x y ≡ true → y ≡ x
same_is true y e = e
same_is false true e = sym e
same_is false false e = refl

-- where the promises are the same, so are the sums
pub alike_sums : (f g : Flags) → promise_alike f g ≡ true → (w a c : ℕ) → sum g w a c ≡ sum f w a c
alike_sums f g e w a c =
    let wrap_alike = (both_so (are_alike f.no_signed_wrap g.no_signed_wrap && are_alike f.no_unsigned_wrap g.no_unsigned_wrap) (not f.disjoint && not g.disjoint) e).0 in
    let both = both_so (are_alike f.no_signed_wrap g.no_signed_wrap) (are_alike f.no_unsigned_wrap g.no_unsigned_wrap) wrap_alike in
    ap₂ (λ x y. sum (record g { no_signed_wrap = x; no_unsigned_wrap = y }) w a c) (same_is f.no_signed_wrap g.no_signed_wrap both.0) (same_is f.no_unsigned_wrap g.no_unsigned_wrap both.1)

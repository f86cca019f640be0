-- Data that are no numbers of a width, on their way through casts: the way there and on is the way at once.
use Rattle.std.proofs.Common.{◌≡◌, ℕ, zero, suc, ◌+◌, ◌-◌, ◌*◌, ◌/◌, ◌%◌, ◌^◌, ◌<◌, ◌≤◌, ◌⊎◌, inl, inr, Bool, true, false, nat_eq, nat_lt, nat_le, ◌&&◌, if◌then◌else◌, IsTrue, refl, ap, sym, ◌∙◌, subst, arith, tests}
use Rattle.std.proofs.Math.Nat.{mod-eq_of_lt, mod-eq-sub-mod}
use Rattle.pliron_dialect_mlir.specs.Data.{is_width, is_number, bits_of_width}
use Rattle.pliron_dialect_mlir.specs.OtherData.{above_integers, moved_between, between_widths}

order : (n m : ℕ) → (n < m) ⊎ (m ≤ n)
order n zero = inr (omega arith)
order zero (suc m) = inl (omega arith)
order (suc n) (suc m) = again (order n m)
  where
    again : (n < m) ⊎ (m ≤ n) → (suc n < suc m) ⊎ (suc m ≤ suc n)
    again (inl lt) = inl (omega (arith, lt))
    again (inr le) = inr (omega (arith, le))

pub false_true : {A : Type 0} (b : Bool) → b ≡ false → b ≡ true → A
false_true true p q = absurd (grind (arith, p))
false_true false p q = absurd (grind (arith, q))

-- an integer of a width is below
kept_below : (width n : ℕ) → is_number width n ≡ true → n < above_integers
kept_below width n is = grind (arith, tests, is)

added_again : (n : ℕ) → (n + above_integers) % above_integers ≡ n % above_integers
added_again n =
    let le : above_integers ≤ n + above_integers = omega arith in
    let back : n + above_integers - above_integers ≡ n = omega arith in
    mod-eq-sub-mod le ∙ ap (λ k. k % above_integers) back

-- moving leaves the place below
same_place : (x y : Bool) (n : ℕ) → (x ≡ true → above_integers ≤ n) → moved_between x y n % above_integers ≡ n % above_integers
same_place true true n le = refl
same_place true false n le = sym (mod-eq-sub-mod (le refl))
same_place false true n le = added_again n
same_place false false n le = refl

moves_twice : (x y z : Bool) (n : ℕ) → (x ≡ true → above_integers ≤ n) → moved_between y z (moved_between x y n) ≡ moved_between x z n
moves_twice true true z n le = refl
moves_twice false false z n le = refl
moves_twice true false true n le = let h : above_integers ≤ n = le refl in omega (arith, h)
moves_twice true false false n le = refl
moves_twice false true true n le = refl
moves_twice false true false n le = omega arith

-- what is none of a width, and is one of it below, is above
above : (width n : ℕ) → is_number width n ≡ false → is_number width (n % above_integers) ≡ true → above_integers ≤ n
above width n none one = of_order (order n above_integers)
  where
    of_order : (n < above_integers) ⊎ (above_integers ≤ n) → above_integers ≤ n
    of_order (inl lt) = false_true (is_number width n) none (ap (is_number width) (sym (mod-eq_of_lt lt)) ∙ one)
    of_order (inr le) = le

pub moves_chain : (width to last n : ℕ) → is_number width n ≡ false → between_widths to last (between_widths width to n) ≡ between_widths width last n
moves_chain width to last n none =
    let x : Bool = is_number width (n % above_integers) in
    let y : Bool = is_number to (n % above_integers) in
    let z : Bool = is_number last (n % above_integers) in
    let place : between_widths width to n % above_integers ≡ n % above_integers = same_place x y n (above width n none) in
    ap (λ k. moved_between (is_number to k) (is_number last k) (between_widths width to n)) place
    ∙ moves_twice x y z n (above width n none)

pub moves_to_none : (width to n : ℕ) → is_number width n ≡ false → is_number to (between_widths width to n) ≡ false
moves_to_none width to n none = of_bool (is_number to (between_widths width to n)) refl
  where
    moved : ℕ
    moved = between_widths width to n

    place : moved % above_integers ≡ n % above_integers
    place = same_place (is_number width (n % above_integers)) (is_number to (n % above_integers)) n (above width n none)

    never : (x y : Bool) → y ≡ true → (x ≡ true → above_integers ≤ n) → moved_between x y n < above_integers → ⊥
    never true true e le lt = let h : above_integers ≤ n = le refl in omega (arith, h, lt)
    never false true e le lt = omega (arith, lt)
    never true false e le lt = false_true false refl e
    never false false e le lt = false_true false refl e

    of_bool : (b : Bool) → is_number to moved ≡ b → is_number to moved ≡ false
    of_bool false e = e
    of_bool true e =
        let lt : moved < above_integers = kept_below to moved e in
        let there : is_number to (n % above_integers) ≡ true = ap (is_number to) (sym place ∙ mod-eq_of_lt lt) ∙ e in
        absurd (never (is_number width (n % above_integers)) (is_number to (n % above_integers)) there (above width n none) lt)

moves_nowhere : (x : Bool) (n : ℕ) → moved_between x x n ≡ n
moves_nowhere true n = refl
moves_nowhere false n = refl

pub stays_there : (width n : ℕ) → between_widths width width n ≡ n
stays_there width n = moves_nowhere (is_number width (n % above_integers)) n

-- Attributes by their index.
use Rattle.std.proofs.Common.{◌≡◌, ℕ, zero, suc, ◌+◌, ◌-◌, ◌/◌, ◌%◌, ◌^◌, ◌<◌, ◌≤◌, ◌&&◌, Bool, true, false, nat_eq, nat_lt, nat_le, Option, None, subst, add-one, if◌then◌else◌, List, [], ◌∷◌, Some, length, drop, slice_get, refl, ap, ap₂, sym, ◌∙◌, arith, tests}
use Rattle.std.proofs.lemmas.Option.{same_Some}
use Rattle.pliron_core.specs.declared.attrs.AttrObj.{AttrObj}
use Rattle.pliron_dialect.specs.Counts.{counted_by}
use Rattle.pliron_dialect.specs.Roles.{has_some}
use Rattle.pliron_dialect_mlir.specs.Data.{bits_at, is_width, bits_of_width, some_if}
use Rattle.pliron_dialect_mlir.specs.Heads.{attribute_at}
use Rattle.pliron_dialect_mlir.specs.Classes.{edge_of_case, switch_edge}
use Rattle.std.specs.Option.{option_map}
use Rattle.std.specs.Prelude.{ℤ, pos, negsuc}

pub attribute_there : (attrs : List AttrObj) (i : ℕ) (a : AttrObj) → slice_get attrs i ≡ Some a → attribute_at attrs i ≡ counted_by a
attribute_there [] i a e = grind arith
attribute_there (x ∷ attrs) zero a e = ap counted_by (same_Some x a e)
attribute_there (x ∷ attrs) (suc i) a e = attribute_there attrs i a e

pub attribute_past : (attrs : List AttrObj) (i : ℕ) → length attrs ≤ i → attribute_at attrs i ≡ 0
attribute_past [] i le = refl
attribute_past (x ∷ attrs) zero le = absurd (omega (arith, le))
attribute_past (x ∷ attrs) (suc i) le = attribute_past attrs i (omega (arith, le))

-- ---- cases, one after the other

drop_there : (attrs : List AttrObj) (i : ℕ) (a : AttrObj) → slice_get attrs i ≡ Some a → drop i attrs ≡ a ∷ drop (suc i) attrs
drop_there [] i a e = grind arith
drop_there (x ∷ attrs) zero a e = ap (λ z. z ∷ attrs) (same_Some x a e)
drop_there (x ∷ attrs) (suc i) a e = drop_there attrs i a e

drop_past : (attrs : List AttrObj) (i : ℕ) → length attrs ≤ i → drop i attrs ≡ []
drop_past [] zero le = refl
drop_past [] (suc i) le = refl
drop_past (x ∷ attrs) zero le = absurd (omega (arith, le))
drop_past (x ∷ attrs) (suc i) le = drop_past attrs i (omega (arith, le))

-- whether the search from here on is the one from the first case on
abbrev pub GoesOn : List AttrObj → (first i bits : ℕ) → Type 0
GoesOn attrs first i bits = (first ≤ i) × (edge_of_case 1 (drop first attrs) bits ≡ edge_of_case (suc (i - first)) (drop i attrs) bits)

pub case_first : (attrs : List AttrObj) (first bits : ℕ) → GoesOn attrs first first bits
case_first attrs first bits = (omega arith, ap (λ n. edge_of_case n (drop first attrs) bits) (omega arith))

-- behind what isn't the last attribute there is another
more_behind : (attrs : List AttrObj) (i : ℕ) → suc i < length attrs → has_some (drop (suc i) attrs) ≡ true
more_behind [] i lt = absurd (omega (arith, lt))
more_behind (x ∷ []) i lt = absurd (omega (arith, lt))
more_behind (x ∷ y ∷ attrs) zero lt = refl
more_behind (x ∷ y ∷ attrs) (suc i) lt = more_behind (y ∷ attrs) i (omega (arith, lt))

pub case_here : (attrs : List AttrObj) (first i bits : ℕ) (a : AttrObj) → GoesOn attrs first i bits → slice_get attrs i ≡ Some a → suc i < length attrs → counted_by a ≡ bits → i - first + 1 ≡ edge_of_case 1 (drop first attrs) bits
case_here attrs first i bits a g at lt e =
    let here : edge_of_case (suc (i - first)) (a ∷ drop (suc i) attrs) bits ≡ suc (i - first) =
    ap₂ (λ x b. if x && b then suc (i - first) else edge_of_case (suc (suc (i - first))) (drop (suc i) attrs) bits) (more_behind attrs i lt) (yes_same (counted_by a) bits e) in
    let count : i - first + 1 ≡ suc (i - first) = omega arith in
    count ∙ sym (g.1 ∙ ap (λ xs. edge_of_case (suc (i - first)) xs bits) (drop_there attrs i a at) ∙ here)
  where
    yes_same : (x y : ℕ) → x ≡ y → nat_eq x y ≡ true
    yes_same x y h = grind (arith, tests)

both_no : (x b : Bool) → b ≡ false → (x && b) ≡ false
both_no true b e = e
both_no false b e = refl

pub case_next : (attrs : List AttrObj) (first i bits : ℕ) (a : AttrObj) → GoesOn attrs first i bits → slice_get attrs i ≡ Some a → nat_eq (counted_by a) bits ≡ false → GoesOn attrs first (i + 1) bits
case_next attrs first i bits a g at e =
    let count : suc (suc (i - first)) ≡ suc (i + 1 - first) = omega (arith, g.0) in
    let next : suc i ≡ i + 1 = omega arith in (
      omega (arith, g.0),
      g.1 ∙ ap (λ xs. edge_of_case (suc (i - first)) xs bits) (drop_there attrs i a at)
          ∙ ap (λ b. if b then suc (i - first) else edge_of_case (suc (suc (i - first))) (drop (suc i) attrs) bits) (both_no (has_some (drop (suc i) attrs)) (nat_eq (counted_by a) bits) e)
          ∙ ap₂ (λ n k. edge_of_case n (drop k attrs) bits) count next,
    )

-- the last attribute is no case
last_is_none : (n i bits : ℕ) (attrs : List AttrObj) → length attrs ≤ suc i → edge_of_case n (drop i attrs) bits ≡ 0
last_is_none n zero bits [] le = refl
last_is_none n (suc i) bits [] le = refl
last_is_none n zero bits (x ∷ []) le = refl
last_is_none n zero bits (x ∷ y ∷ attrs) le = absurd (omega (arith, le))
last_is_none n (suc i) bits (x ∷ attrs) le = last_is_none n i bits attrs (omega (arith, le))

pub case_none : (attrs : List AttrObj) (first i bits : ℕ) → GoesOn attrs first i bits → length attrs ≤ suc i → 0 ≡ edge_of_case 1 (drop first attrs) bits
case_none attrs first i bits g le = sym (g.1 ∙ last_is_none (suc (i - first)) i bits attrs le)

-- ---- switches

bits_wide : (w : ℕ) (z : ℤ) → 65 < w → bits_at w z ≡ None
bits_wide w (negsuc n) lt = refl
bits_wide w (pos n) lt = ap (λ b. some_if b (n % 2 ^ 64)) (too_wide (nat_le 1 w) (nat_eq (n / 2 ^ 64) w && nat_lt (n % 2 ^ 64) (2 ^ bits_of_width w)))
  where
    too_wide : (x y : Bool) → ((x && nat_le w 65) && y) ≡ false
    too_wide x y = grind (arith, tests, lt)

pub switch_wide : (attrs : List AttrObj) (edges w : ℕ) (a : AttrObj) (z : ℤ) → slice_get attrs edges ≡ Some a → w ≡ counted_by a → 65 < w → None ≡ switch_edge 0 (drop edges attrs) z
switch_wide attrs edges w a z at e lt = sym (ap (λ xs. switch_edge 0 xs z) (drop_there attrs edges a at) ∙ ap (option_map (edge_of_case 1 (drop (suc edges) attrs))) (bits_wide (counted_by a) z (subst (λ x. 65 < x) e lt)))

pub switch_told : (attrs : List AttrObj) (edges w : ℕ) (a : AttrObj) (z : ℤ) (bits : Option ℕ) → slice_get attrs edges ≡ Some a → w ≡ counted_by a → bits ≡ bits_at w z → option_map (edge_of_case 1 (drop (edges + 1) attrs)) bits ≡ switch_edge 0 (drop edges attrs) z
switch_told attrs edges w a z bits at e f =
    ap (option_map (edge_of_case 1 (drop (edges + 1) attrs))) (f ∙ ap (λ x. bits_at x z) e)
    ∙ ap (λ k. option_map (edge_of_case 1 (drop k attrs)) (bits_at (counted_by a) z)) (add-one edges)
    ∙ sym (ap (λ xs. switch_edge 0 xs z) (drop_there attrs edges a at))

-- no switch stands behind the last attribute
pub switch_past : (attrs : List AttrObj) (edges : ℕ) (z : ℤ) → length attrs ≤ edges → None ≡ switch_edge 0 (drop edges attrs) z
switch_past attrs edges z le = sym (ap (λ xs. switch_edge 0 xs z) (drop_past attrs edges le))

-- The results that a dialect of roles says to be operands or numbers are these, whatever the interpretation is.
use Rattle.std.proofs.Common.{◌≡◌, ◌⊎◌, inl, inr, ℕ, zero, suc, ◌<◌, nat_eq, ◌&&◌, ◌||◌, not, if◌then◌else◌, Bool, true, false, List, [], ◌∷◌, Option, Some, None, length, slice_get, IsTrue, refl, ap, ap₂, sym, ◌∙◌, subst, arith}
use Rattle.std.specs.Prelude.{ℤ, option_map}
use Rattle.std.specs.Option.{option_or}
use Rattle.std.specs.Ordering.{int_eq}
use Rattle.std.specs.Cmp.{signed_Decides}
use Rattle.std.specs.Cmp.Lexicographic.{pointwise, nat_list_eq_equiv}
use Rattle.std.proofs.lemmas.Option.{same_Some}
use Rattle.pliron_core.specs.declared.attrs.AttrObj.{AttrObj}
use Rattle.pliron_core.specs.declared.attrs.AttrObj.TheVariants.{Int}
use Rattle.pliron_laws.specs.Datum.{Datum, Empty, Number, Text, Join, datum_of, Head, Shape, Move, Give, Visit, Goto, Leave, Emit, Trap}
use Rattle.pliron_laws.specs.Acting.{AgreeWithKnown}
use Rattle.pliron_laws.specs.declared.operand_folds.OpFoldResult.{OpFoldResult}
use Rattle.pliron_laws.specs.declared.operand_folds.OpFoldResult.TheVariants.{Operand, Constant as ConstantFold}
use Rattle.pliron_laws.specs.OperandFolding.{AreSameData, datum_by, IsWithinShape, AnswersOperand, AnswersOperands}
use Rattle.pliron_dialect.specs.declared.identity.Absorption.{Absorption}
use Rattle.pliron_dialect.specs.declared.identity.Identity.{Identity}
use Rattle.pliron_dialect.specs.Identities.{same_datum, is_this, place_of_one, place_by, place_between, place_in, is_known_as, are_same, identity_operand, agrees_with, absorption_if, absorption_of, absorber_of, absorbed_of, equal_if, equal_of, given_by, given_between, given_in, identity_constant, IdentityHolds, operand_by_fact, constant_by_fact}
use Rattle.pliron_dialect.specs.Roles.{Interpretation, Allows, Role, Constant, Folds, Picks, Opaque, Jumps, Chooses, Leaves, Stops, Acts, Names, Forks, Holds, RoleFits, RolesFit, ComputesFacts, complete, give_or_trap, numbers_of, first_number, results_given, operands_picked, operand_left, nth_datum, truth_of, known_number_at, by_role, by_form, form_of, act_of, no_act, meaning_by, folds_of}
use Rattle.pliron_dialect.specs.declared.form.Otherwise.TheVariants.{Says, Never, Traps}
use Rattle.pliron_dialect.specs.Parts.{Admits, AdmitsAll, IsQuiet, comes_first, three, same, both_parts}
use Rattle.pliron_dialect.specs.FoldLaws.{AgreesWithKnown, first_agrees, role_quiet}
use Rattle.pliron_dialect.specs.OperandFolds.{place_picked, answer_at, fold_by_identity, operands_by, operand_folds_by}
use Rattle.pliron_dialect.specs.OperandFacts.{GivesAnswered, facts_answer, fact_within}

-- ---- equal data

same_number : (n : ℤ) → int_eq n n ≡ true
same_number n = (signed_Decides n n).1 refl

both : (x y : Bool) → x ≡ true → y ≡ true → (x && y) ≡ true
both true y e f = f
both false y e f = grind arith

parts : (x y : Bool) → (x && y) ≡ true → (x ≡ true) × (y ≡ true)
parts true y e = (refl, e)
parts false y e = grind arith

pub same_itself : (d : Datum) → same_datum d d ≡ true
same_itself Empty = refl
same_itself (Number n) = same_number n
same_itself (Text s) = nat_list_eq_equiv.refl s
same_itself (Join a b) = both (same_datum a a) (same_datum b b) (same_itself a) (same_itself b)

this_is : (o : Option ℤ) (d e : Datum) → is_this o d ≡ true → is_this o e ≡ true → d ≡ e
this_is None d e f g = grind arith
this_is (Some n) (Number l) (Number m) f g = ap Number ((signed_Decides l n).0 f ∙ sym ((signed_Decides m n).0 g))
this_is (Some n) Empty e f g = grind arith
this_is (Some n) (Text s) e f g = grind arith
this_is (Some n) (Join a b) e f g = grind arith
this_is (Some n) (Number l) Empty f g = grind arith
this_is (Some n) (Number l) (Text s) f g = grind arith
this_is (Some n) (Number l) (Join a b) f g = grind arith

known_this : (o : Option ℤ) (a : Option AttrObj) (known : List (Option AttrObj)) (d : Datum) (ds : List Datum) → AgreeWithKnown (a ∷ known) (d ∷ ds) → is_known_as o a ≡ true → is_this o d ≡ true
known_this o None known d ds h e = grind arith
known_this o (Some a) known d ds h e = ap (is_this o) (sym h.0) ∙ e

-- ---- the operand that is left

-- the one datum that is given is that of the operand
abbrev GivesOperand : ℕ → List Datum → List Datum → Type 0
GivesOperand p first ds = slice_get ds 0 ≡ slice_get first p

-- what determines a place, and what decides: whatever determines one also decides
record IdentityGives (x y z u v w : Bool) (d e : Datum) : Type 0 where
  second : x ≡ true → u ≡ true
  first : y ≡ true → v ≡ true
  neutral : u ≡ true → v ≡ true → d ≡ e
  equal : z ≡ true → (d ≡ e) × (w ≡ true)

left_first : (u v w : Bool) (d e : Datum) (ds : List Datum) → (u ≡ true) → Some d ≡ slice_get (operand_left (d ∷ e ∷ []) (place_by u v w) ds) 0
left_first true v w d e ds f = refl
left_first false v w d e ds f = grind arith

left_second : (u v w : Bool) (d e : Datum) (ds : List Datum) → (u ≡ true → v ≡ true → d ≡ e) → v ≡ true → Some e ≡ slice_get (operand_left (d ∷ e ∷ []) (place_by u v w) ds) 0
left_second true true w d e ds n f = ap Some (sym (n refl refl))
left_second true false w d e ds n f = grind arith
left_second false true w d e ds n f = refl
left_second false false w d e ds n f = grind arith

left_equal : (u v w : Bool) (d e : Datum) (ds : List Datum) → d ≡ e → w ≡ true → Some d ≡ slice_get (operand_left (d ∷ e ∷ []) (place_by u v w) ds) 0
left_equal true v w d e ds g f = refl
left_equal false true w d e ds g f = ap Some g
left_equal false false true d e ds g f = refl
left_equal false false false d e ds g f = grind arith

left_identity : (x y z u v w : Bool) (d e : Datum) (ds : List Datum) (p : ℕ) → IdentityGives x y z u v w d e → place_by x y z ≡ Some p → GivesOperand p (d ∷ e ∷ []) (operand_left (d ∷ e ∷ []) (place_by u v w) ds)
left_identity true y z u v w d e ds p t f =
    let at : 0 ≡ p = same_Some 0 p f in
    sym (left_first u v w d e ds (t.second refl)) ∙ ap (slice_get (d ∷ e ∷ [])) at
left_identity false true z u v w d e ds p t f =
    let at : 1 ≡ p = same_Some 1 p f in
    sym (left_second u v w d e ds t.neutral (t.first refl)) ∙ ap (slice_get (d ∷ e ∷ [])) at
left_identity false false true u v w d e ds p t f =
    let at : 0 ≡ p = same_Some 0 p f in
    sym (left_equal u v w d e ds (t.equal refl).0 (t.equal refl).1) ∙ ap (slice_get (d ∷ e ∷ [])) at
left_identity false false false u v w d e ds p t f = grind arith

equal_data : (operands : List ℕ) (d e : Datum) → AreSameData operands (d ∷ e ∷ []) → are_same operands ≡ true → d ≡ e
equal_data [] d e s f = grind arith
equal_data (v ∷ []) d e s f = grind arith
equal_data (v ∷ w ∷ x ∷ operands) d e s f = grind arith
equal_data (v ∷ w ∷ []) d e s f = same_Some d e (s 0 1 w (ap Some (same v w f)) refl)

accurate : (i : Identity) (a b : Option AttrObj) (operands : List ℕ) (d e : Datum) → AgreeWithKnown (a ∷ b ∷ []) (d ∷ e ∷ []) → AreSameData operands (d ∷ e ∷ []) → IdentityGives (is_known_as i.neutral b) (i.either_side && is_known_as i.neutral a) (i.idempotent && are_same operands) (is_this i.neutral e) (i.either_side && is_this i.neutral d) (i.idempotent && same_datum d e) d e
accurate i a b operands d e h s = record {
  second = λ x. known_this i.neutral b [] e [] (behind a b d e h) x;
  first = λ y. let p = parts i.either_side (is_known_as i.neutral a) y in both i.either_side (is_this i.neutral d) p.0 (known_this i.neutral a (b ∷ []) d (e ∷ []) h p.1);
  neutral = λ u v. this_is i.neutral d e (parts i.either_side (is_this i.neutral d) v).1 u;
  equal = λ z.
      let p = parts i.idempotent (are_same operands) z in
      let one = equal_data operands d e s p.1 in
      (one, both i.idempotent (same_datum d e) p.0 (subst (λ x. same_datum d x ≡ true) one (same_itself d)));
}
  where
    behind : (a b : Option AttrObj) (d e : Datum) → AgreeWithKnown (a ∷ b ∷ []) (d ∷ e ∷ []) → AgreeWithKnown (b ∷ []) (e ∷ [])
    behind None b d e h = h
    behind (Some x) b d e h = h.1

only_left : (only : Bool) (d : Datum) (ds : List Datum) (p : ℕ) → place_of_one only ≡ Some p → GivesOperand p (d ∷ []) (operand_left (d ∷ []) (place_of_one only) ds)
only_left true d ds p e = let at : 0 ≡ p = same_Some 0 p e in ap (slice_get (d ∷ [])) at
only_left false d ds p e = grind arith

folded_left : (i : Identity) (known : List (Option AttrObj)) (operands : List ℕ) (first ds : List Datum) (p : ℕ) → AgreeWithKnown known first → AreSameData operands first → identity_operand i known operands ≡ Some p → GivesOperand p first (operand_left first (place_in i first) ds)
folded_left i [] operands first ds p h s e = grind arith
folded_left i (a ∷ []) operands [] ds p h s e = absurd h
folded_left i (a ∷ []) operands (d ∷ []) ds p h s e = only_left i.only d ds p e
folded_left i (None ∷ []) operands (d ∷ x ∷ first) ds p h s e = absurd h
folded_left i (Some a ∷ []) operands (d ∷ x ∷ first) ds p h s e = absurd h.1
folded_left i (a ∷ b ∷ c ∷ known) operands first ds p h s e = grind arith
folded_left i (a ∷ b ∷ []) operands [] ds p h s e = absurd h
folded_left i (None ∷ b ∷ []) operands (d ∷ []) ds p h s e = absurd h
folded_left i (Some a ∷ b ∷ []) operands (d ∷ []) ds p h s e = absurd h.1
folded_left i (None ∷ None ∷ []) operands (d ∷ x ∷ y ∷ first) ds p h s e = absurd h
folded_left i (None ∷ Some b ∷ []) operands (d ∷ x ∷ y ∷ first) ds p h s e = absurd h.1
folded_left i (Some a ∷ None ∷ []) operands (d ∷ x ∷ y ∷ first) ds p h s e = absurd h.1
folded_left i (Some a ∷ Some b ∷ []) operands (d ∷ x ∷ y ∷ first) ds p h s e = absurd h.1.1
folded_left i (a ∷ b ∷ []) operands (d ∷ x ∷ []) ds p h s e = left_identity _ _ _ _ _ _ d x ds p (accurate i a b operands d x h s) e

one_of_two : (x y z : Bool) (p : ℕ) → place_by x y z ≡ Some p → p < 2
one_of_two true y z p e = omega (arith, same_Some 0 p e)
one_of_two false true z p e = omega (arith, same_Some 1 p e)
one_of_two false false true p e = omega (arith, same_Some 0 p e)
one_of_two false false false p e = grind arith

one_of_one : (only : Bool) (p : ℕ) → place_of_one only ≡ Some p → p < 1
one_of_one true p e = omega (arith, same_Some 0 p e)
one_of_one false p e = grind arith

identity_operand_within : (i : Identity) (known : List (Option AttrObj)) (operands : List ℕ) (p : ℕ) → identity_operand i known operands ≡ Some p → p < length known
identity_operand_within i [] operands p e = grind arith
identity_operand_within i (a ∷ []) operands p e = one_of_one i.only p e
identity_operand_within i (a ∷ b ∷ c ∷ known) operands p e = grind arith
identity_operand_within i (a ∷ b ∷ []) operands p e = one_of_two _ _ _ p e

-- ---- the number that is given

this_number : (o : Option ℤ) (d : Datum) → is_this o d ≡ true → (n : ℤ) × (o ≡ Some n) × (d ≡ Number n)
this_number None d e = grind arith
this_number (Some n) (Number m) e = (n, refl, ap Number ((signed_Decides m n).0 e))
this_number (Some n) Empty e = grind arith
this_number (Some n) (Text s) e = grind arith
this_number (Some n) (Join a b) e = grind arith

same_as_number : (d : Datum) (n : ℤ) → same_datum d (Number n) ≡ true → d ≡ Number n
same_as_number (Number m) n e = ap Number ((signed_Decides m n).0 e)
same_as_number Empty n e = grind arith
same_as_number (Text s) n e = grind arith
same_as_number (Join a b) n e = grind arith

-- what is known to be one number is known not to be another
known_other : (o p : Option ℤ) (a : Option AttrObj) (known : List (Option AttrObj)) (d : Datum) (ds : List Datum) → AgreeWithKnown (a ∷ known) (d ∷ ds) → is_known_as p a ≡ true → is_known_as o a ≡ false → is_this o d ≡ false
known_other o p None known d ds h e f = grind arith
known_other o p (Some a) known d ds h e f = ap (is_this o) (sym h.0) ∙ f

-- what absorbs where it may be either operand, or one of equal operands is left, gives itself
itself_if : (b : Bool) (o : Option Absorption) (z r : ℤ) → option_map (λ a. a.operand) (absorption_if b o) ≡ Some z → option_map (λ a. a.result) (absorption_if b o) ≡ Some r → b ≡ true → z ≡ r
itself_if false o z r e f g = grind arith
itself_if true None z r e f g = grind arith
itself_if true (Some a) z r e f g = by_test (int_eq a.operand a.result) refl e f
  where
    by_test : (t : Bool) → int_eq a.operand a.result ≡ t → option_map (λ a. a.operand) (if not t then None else Some a) ≡ Some z → option_map (λ a. a.result) (if not t then None else Some a) ≡ Some r → z ≡ r
    by_test false is e f = grind arith
    by_test true is e f = sym (same_Some a.operand z e) ∙ (signed_Decides a.operand a.result).0 is ∙ same_Some a.result r f

agreed : (o : Option ℤ) (n m : ℤ) → agrees_with o m ≡ true → o ≡ Some n → n ≡ m
agreed None n m e f = grind arith
agreed (Some k) n m e f = sym (same_Some k n f) ∙ (signed_Decides k m).0 e

-- what equal operands give is what is neutral and what is absorbed
equal_agrees : (neutral absorbed o : Option ℤ) (m : ℤ) → equal_if neutral absorbed o ≡ Some m → ((n : ℤ) → neutral ≡ Some n → n ≡ m) × ((n : ℤ) → absorbed ≡ Some n → n ≡ m)
equal_agrees neutral absorbed None m e = grind arith
equal_agrees neutral absorbed (Some k) m e = by_test (agrees_with neutral k && agrees_with absorbed k) refl e
  where
    by_test : (t : Bool) → (agrees_with neutral k && agrees_with absorbed k) ≡ t → (if t then Some k else None) ≡ Some m → ((n : ℤ) → neutral ≡ Some n → n ≡ m) × ((n : ℤ) → absorbed ≡ Some n → n ≡ m)
    by_test false is e = grind arith
    by_test true is e =
        let p = parts (agrees_with neutral k) (agrees_with absorbed k) is in
        let one = same_Some k m e in
        (λ n f. agreed neutral n k p.0 f ∙ one, λ n f. agreed absorbed n k p.1 f ∙ one)

none_placed : (x y z : Bool) → place_by x y z ≡ None → (x ≡ false) × (y ≡ false) × (z ≡ false)
none_placed true y z e = grind arith
none_placed false true z e = grind arith
none_placed false false true e = grind arith
none_placed false false false e = (refl, refl, refl)

-- why a number is given
given_cases : (i : Identity) (x y s : Bool) (m : ℤ) → given_by i x y s ≡ Some m → ((x ≡ true) × (absorbed_of i ≡ Some m)) ⊎ (((y ≡ true) × (absorbed_of i ≡ Some m)) ⊎ ((s ≡ true) × (equal_of i ≡ Some m)))
given_cases i true y s m e = inl (refl, e)
given_cases i false true s m e = inr (inl (refl, e))
given_cases i false false true m e = inr (inr (refl, e))
given_cases i false false false m e = grind arith

given_second : (i : Identity) (x y s : Bool) (m : ℤ) → x ≡ true → absorbed_of i ≡ Some m → given_by i x y s ≡ Some m
given_second i true y s m e f = f
given_second i false y s m e f = grind arith

given_first : (i : Identity) (x y s : Bool) (m : ℤ) → y ≡ true → absorbed_of i ≡ Some m → given_by i x y s ≡ Some m
given_first i true y s m e f = f
given_first i false true s m e f = f
given_first i false false s m e f = grind arith

-- where something absorbs, there is something absorbed
absorbed_with : (i : Identity) (z : ℤ) → absorber_of i ≡ Some z → (r : ℤ) × (absorbed_of i ≡ Some r)
absorbed_with i z e = by_option (absorption_of i) e
  where
    by_option : (o : Option Absorption) → option_map (λ a. a.operand) o ≡ Some z → (r : ℤ) × (option_map (λ a. a.result) o ≡ Some r)
    by_option None e = grind arith
    by_option (Some a) e = (a.result, refl)

given_equal : (i : Identity) (d e : Datum) (m : ℤ) → same_datum d e ≡ true → equal_of i ≡ Some m → given_between i d e ≡ Some m
given_equal i d e m s f = by_tests (is_this (absorber_of i) e) (i.either_side && is_this (absorber_of i) d) (same_datum d e) (λ x. absorbs e x) (λ y. absorbs d (parts i.either_side (is_this (absorber_of i) d) y).1) s
  where
    absorbs : (d : Datum) → is_this (absorber_of i) d ≡ true → absorbed_of i ≡ Some m
    absorbs d x =
        let z = this_number (absorber_of i) d x in
        let r = absorbed_with i z.0 z.1 in
        r.1 ∙ ap Some ((equal_agrees i.neutral (absorbed_of i) i.equal m f).1 r.0 r.1)

    by_tests : (x y s : Bool) → (x ≡ true → absorbed_of i ≡ Some m) → (y ≡ true → absorbed_of i ≡ Some m) → s ≡ true → given_by i x y s ≡ Some m
    by_tests true y s g h k = g refl
    by_tests false true s g h k = h refl
    by_tests false false true g h k = f
    by_tests false false false g h k = grind arith

-- the data give the number, and an operand that is left has it
record GivesNumber (i : Identity) (d e : Datum) (m : ℤ) : Type 0 where
  second : is_this i.neutral e ≡ true → d ≡ Number m
  first : (i.either_side && is_this i.neutral d) ≡ true → e ≡ Number m
  equal : (i.idempotent && same_datum d e) ≡ true → d ≡ Number m
  number : given_between i d e ≡ Some m

contradicts : {P : Type 0} (b : Bool) → b ≡ false → b ≡ true → P
contradicts true e f = grind arith
contradicts false e f = grind arith

either_true : (x y : Bool) → y ≡ true → (x || y) ≡ true
either_true true y e = refl
either_true false y e = e

left_true : (x y : Bool) → x ≡ true → (x || y) ≡ true
left_true true y e = refl
left_true false y e = grind arith

off : (x y : Bool) → x ≡ true → (x && y) ≡ false → y ≡ false
off true y e f = f
off false y e f = grind arith

constant_holds : (i : Identity) (a b : Option AttrObj) (operands : List ℕ) (d e : Datum) (m : ℤ) → AgreeWithKnown (a ∷ b ∷ []) (d ∷ e ∷ []) → AreSameData operands (d ∷ e ∷ []) → identity_operand i (a ∷ b ∷ []) operands ≡ None → identity_constant i (a ∷ b ∷ []) operands ≡ Some m → GivesNumber i d e m
constant_holds i a b operands d e m h s none given = by_case (given_cases i (is_known_as (absorber_of i) b) (i.either_side && is_known_as (absorber_of i) a) (are_same operands) m given)
  where
    off_all : (is_known_as i.neutral b ≡ false) × ((i.either_side && is_known_as i.neutral a) ≡ false) × ((i.idempotent && are_same operands) ≡ false)
    off_all = none_placed (is_known_as i.neutral b) (i.either_side && is_known_as i.neutral a) (i.idempotent && are_same operands) none

    behind : (a b : Option AttrObj) → AgreeWithKnown (a ∷ b ∷ []) (d ∷ e ∷ []) → AgreeWithKnown (b ∷ []) (e ∷ [])
    behind None b h = h
    behind (Some x) b h = h.1

    -- a datum that absorbs is the number, where it has to give itself
    itself : (f : Datum) → is_this (absorber_of i) f ≡ true → absorbed_of i ≡ Some m → (i.either_side || i.idempotent) ≡ true → f ≡ Number m
    itself f x r g = let z = this_number (absorber_of i) f x in z.2 ∙ ap Number (itself_if (i.either_side || i.idempotent) i.absorbing z.0 m z.1 r g)

    neutral_is : (f : Datum) → equal_of i ≡ Some m → is_this i.neutral f ≡ true → f ≡ Number m
    neutral_is f q x = let n = this_number i.neutral f x in n.2 ∙ ap Number ((equal_agrees i.neutral (absorbed_of i) i.equal m q).0 n.0 n.1)

    by_second : is_known_as (absorber_of i) b ≡ true → absorbed_of i ≡ Some m → GivesNumber i d e m
    by_second x r =
        let is = known_this (absorber_of i) b [] e [] (behind a b h) x in
        record {
          second = λ u. contradicts (is_this i.neutral e) (known_other i.neutral (absorber_of i) b [] e [] (behind a b h) x off_all.0) u;
          first = λ v. itself e is r (left_true i.either_side i.idempotent (parts i.either_side (is_this i.neutral d) v).0);
          equal = λ w.
              let p = parts i.idempotent (same_datum d e) w in
              let one = itself e is r (either_true i.either_side i.idempotent p.0) in same_as_number d m (subst (λ z. same_datum d z ≡ true) one p.1);
          number = given_second i (is_this (absorber_of i) e) (i.either_side && is_this (absorber_of i) d) (same_datum d e) m is r;
        }

    by_first : (i.either_side && is_known_as (absorber_of i) a) ≡ true → absorbed_of i ≡ Some m → GivesNumber i d e m
    by_first y r =
        let p = parts i.either_side (is_known_as (absorber_of i) a) y in
        let is = known_this (absorber_of i) a (b ∷ []) d (e ∷ []) h p.1 in
        let one = itself d is r (left_true i.either_side i.idempotent p.0) in
        record {
          second = λ u. one;
          first = λ v. contradicts (is_this i.neutral d) (known_other i.neutral (absorber_of i) a (b ∷ []) d (e ∷ []) h p.1 (off i.either_side (is_known_as i.neutral a) p.0 off_all.1)) (parts i.either_side (is_this i.neutral d) v).1;
          equal = λ w. one;
          number = given_first i (is_this (absorber_of i) e) (i.either_side && is_this (absorber_of i) d) (same_datum d e) m (both i.either_side (is_this (absorber_of i) d) p.0 is) r;
        }

    by_equal : are_same operands ≡ true → equal_of i ≡ Some m → GivesNumber i d e m
    by_equal z q =
        let one = equal_data operands d e s z in
        record {
          second = λ u. one ∙ neutral_is e q u;
          first = λ v. sym one ∙ neutral_is d q (parts i.either_side (is_this i.neutral d) v).1;
          equal = λ w. contradicts (i.idempotent && are_same operands) off_all.2 (both i.idempotent (are_same operands) (parts i.idempotent (same_datum d e) w).0 z);
          number = given_equal i d e m (subst (λ x. same_datum d x ≡ true) one (same_itself d)) q;
        }

    by_case : ((is_known_as (absorber_of i) b ≡ true) × (absorbed_of i ≡ Some m)) ⊎ ((((i.either_side && is_known_as (absorber_of i) a) ≡ true) × (absorbed_of i ≡ Some m)) ⊎ ((are_same operands ≡ true) × (equal_of i ≡ Some m))) → GivesNumber i d e m
    by_case (inl c) = by_second c.0 c.1
    by_case (inr (inl c)) = by_first c.0 c.1
    by_case (inr (inr c)) = by_equal c.0 c.1

module _ (value : Interpretation) (h : Head) (input : List Datum) (computed : Option ℤ) where
  -- where the data give the number, so does the operation
  number_there : (u v w : Bool) (d e : Datum) (o : Option ℤ) (m : ℤ) → (u ≡ true → d ≡ Number m) → (v ≡ true → e ≡ Number m) → (w ≡ true → d ≡ Number m) → o ≡ Some m → slice_get (operand_left (d ∷ e ∷ []) (place_by u v w) (results_given value h input (option_or o computed))) 0 ≡ Some (Number m)
  number_there true v w d e o m f g k n = ap Some (f refl)
  number_there false true w d e o m f g k n = ap Some (g refl)
  number_there false false true d e o m f g k n = ap Some (k refl)
  number_there false false false d e o m f g k n = ap (λ x. slice_get (results_given value h input (option_or x computed)) 0) n

  number_given_by : (i : Identity) (known : List (Option AttrObj)) (operands : List ℕ) (first : List Datum) (m : ℤ) → AgreeWithKnown known first → AreSameData operands first → identity_operand i known operands ≡ None → identity_constant i known operands ≡ Some m → slice_get (operand_left first (place_in i first) (results_given value h input (option_or (given_in i first) computed))) 0 ≡ Some (Number m)
  number_given_by i [] operands first m k s e f = grind arith
  number_given_by i (a ∷ []) operands first m k s e f = grind arith
  number_given_by i (a ∷ b ∷ c ∷ known) operands first m k s e f = grind arith
  number_given_by i (a ∷ b ∷ []) operands [] m k s e f = absurd k
  number_given_by i (None ∷ b ∷ []) operands (d ∷ []) m k s e f = absurd k
  number_given_by i (Some a ∷ b ∷ []) operands (d ∷ []) m k s e f = absurd k.1
  number_given_by i (None ∷ None ∷ []) operands (d ∷ x ∷ y ∷ first) m k s e f = absurd k
  number_given_by i (None ∷ Some b ∷ []) operands (d ∷ x ∷ y ∷ first) m k s e f = absurd k.1
  number_given_by i (Some a ∷ None ∷ []) operands (d ∷ x ∷ y ∷ first) m k s e f = absurd k.1
  number_given_by i (Some a ∷ Some b ∷ []) operands (d ∷ x ∷ y ∷ first) m k s e f = absurd k.1.1
  number_given_by i (a ∷ b ∷ []) operands (d ∷ x ∷ []) m k s e f =
      let t = constant_holds i a b operands d x m k s e f in
      number_there (is_this i.neutral x) (i.either_side && is_this i.neutral d) (i.idempotent && same_datum d x) d x (given_between i d x) m t.second t.first t.equal t.number

-- ---- the operand that is picked

picked_within : (o : Option Bool) (p : ℕ) → place_picked o ≡ Some p → p < 3
picked_within None p e = grind arith
picked_within (Some true) p e = omega (arith, same_Some 1 p e)
picked_within (Some false) p e = omega (arith, same_Some 2 p e)

there : (ds : List Datum) (p : ℕ) → p < length ds → Some (nth_datum ds p) ≡ slice_get ds p
there [] p lt = absurd (omega (arith, lt))
there (d ∷ ds) zero lt = refl
there (d ∷ ds) (suc p) lt = there ds p (omega (arith, lt))

truth_agrees : (truth : ℤ → Option Bool) (o : Option ℤ) (c : ℤ) (b : Bool) → AgreesWithKnown o c → truth_of truth o ≡ Some b → truth c ≡ Some b
truth_agrees truth None c b a e = grind arith
truth_agrees truth (Some n) c b a e = ap truth (sym a) ∙ e

picked_place : (value : Interpretation) (h : Head) (o : Option Bool) (t : Option Bool) (first : List Datum) (p : ℕ) → length first ≡ 3 → ((b : Bool) → o ≡ Some b → t ≡ Some b) → place_picked o ≡ Some p → GivesOperand p first (operands_picked value h first t)
picked_place value h None t first p l f e = grind arith
picked_place value h (Some true) t first p l f e =
    let at : 1 ≡ p = same_Some 1 p e in
    ap (λ x. slice_get (operands_picked value h first x) 0) (f true refl) ∙ there first 1 (omega (arith, l)) ∙ ap (slice_get first) at
picked_place value h (Some false) t first p l f e =
    let at : 2 ≡ p = same_Some 2 p e in
    ap (λ x. slice_get (operands_picked value h first x) 0) (f false refl) ∙ there first 2 (omega (arith, l)) ∙ ap (slice_get first) at

-- ---- the roles

-- the first datum that is given is what the answer says
abbrev GivesFirst : OpFoldResult → List Datum → List Datum → Type 0
GivesFirst answer first ds = slice_get ds 0 ≡ datum_by answer first

-- the answer is of the first result, which the operation gives
record Left (value : Interpretation) (r : Role) (s : Shape) (known : List (Option AttrObj)) (operands : List ℕ) (i : ℕ) (answer : OpFoldResult) : Type 0 where
  first_result : i ≡ 0
  one_result : s.results ≡ 1
  no_successors : s.successors ≡ 0
  folds : IsTrue (folds_of (form_of r))
  within : IsWithinShape s answer
  gives : (memo : Datum) (first : List Datum) → length first ≡ s.operands → AgreeWithKnown known first → AreSameData operands first → GivesAnswered answer first (act_of value r s memo first)

answered : (o : Option OpFoldResult) (i : ℕ) (answer : OpFoldResult) → slice_get (o ∷ []) i ≡ Some (Some answer) → (i ≡ 0) × (o ≡ Some answer)
answered o (suc i) answer e = grind arith
answered o zero answer e = (refl, same_Some o (Some answer) e)

-- an answer is the operand at the place, or the number where there is no place
is_answer : (place : Option ℕ) (number : Option ℤ) (answer : OpFoldResult) → answer_at place number ≡ Some answer → ((p : ℕ) × (place ≡ Some p) × (answer ≡ Operand p)) ⊎ ((m : ℤ) × (place ≡ None) × (number ≡ Some m) × (answer ≡ ConstantFold (Int m)))
is_answer (Some p) number answer e = inl (p, refl, sym (same_Some (Operand p) answer e))
is_answer None None answer e = grind arith
is_answer None (Some m) answer e = inr (m, refl, refl, sym (same_Some (ConstantFold (Int m)) answer e))

identity_answer_within : (i : Identity) (s : Shape) (known : List (Option AttrObj)) (operands : List ℕ) (answer : OpFoldResult) → length known ≡ s.operands → answer_at (identity_operand i known operands) (identity_constant i known operands) ≡ Some answer → IsWithinShape s answer
identity_answer_within i s known operands answer l e = by_case (is_answer (identity_operand i known operands) (identity_constant i known operands) answer e)
  where
    by_case : ((p : ℕ) × (identity_operand i known operands ≡ Some p) × (answer ≡ Operand p)) ⊎ ((m : ℤ) × (identity_operand i known operands ≡ None) × (identity_constant i known operands ≡ Some m) × (answer ≡ ConstantFold (Int m))) → IsWithinShape s answer
    by_case (inl c) = subst (IsWithinShape s) (sym c.2) (omega (arith, identity_operand_within i known operands c.0 c.1, l))
    by_case (inr c) = subst (IsWithinShape s) (sym c.3) tt

identity_answer_given : (value : Interpretation) (h : Head) (computed : Option ℤ) (i : Identity) (known : List (Option AttrObj)) (operands : List ℕ) (answer : OpFoldResult) (first : List Datum) → AgreeWithKnown known first → AreSameData operands first → answer_at (identity_operand i known operands) (identity_constant i known operands) ≡ Some answer → GivesFirst answer first (operand_left first (place_in i first) (results_given value h first (option_or (given_in i first) computed)))
identity_answer_given value h computed i known operands answer first k s e = by_case (is_answer (identity_operand i known operands) (identity_constant i known operands) answer e)
  where
    given : List Datum
    given = operand_left first (place_in i first) (results_given value h first (option_or (given_in i first) computed))

    by_case : ((p : ℕ) × (identity_operand i known operands ≡ Some p) × (answer ≡ Operand p)) ⊎ ((m : ℤ) × (identity_operand i known operands ≡ None) × (identity_constant i known operands ≡ Some m) × (answer ≡ ConstantFold (Int m))) → GivesFirst answer first given
    by_case (inl c) = subst (λ a. GivesFirst a first given) (sym c.2) (folded_left i known operands first (results_given value h first (option_or (given_in i first) computed)) c.0 k s c.1)
    by_case (inr c) = subst (λ a. GivesFirst a first given) (sym c.3) (number_given_by value h first computed i known operands first c.0 k s c.1 c.2)

-- by a fact about what is computed
fact_answer_within : (i : Identity) (s : Shape) (known : List (Option AttrObj)) (operands : List ℕ) (answer : OpFoldResult) → length known ≡ s.operands → answer_at (operand_by_fact i known) (constant_by_fact i known operands) ≡ Some answer → IsWithinShape s answer
fact_answer_within i s known operands answer l e = by_case (is_answer (operand_by_fact i known) (constant_by_fact i known operands) answer e)
  where
    by_case : ((p : ℕ) × (operand_by_fact i known ≡ Some p) × (answer ≡ Operand p)) ⊎ ((m : ℤ) × (operand_by_fact i known ≡ None) × (constant_by_fact i known operands ≡ Some m) × (answer ≡ ConstantFold (Int m))) → IsWithinShape s answer
    by_case (inl c) = subst (IsWithinShape s) (sym c.2) (omega (arith, fact_within i known c.0 c.1, l))
    by_case (inr c) = subst (IsWithinShape s) (sym c.3) tt

picked_answer : (o : Option Bool) (answer : OpFoldResult) → answer_at (place_picked o) None ≡ Some answer → (p : ℕ) × (place_picked o ≡ Some p) × (answer ≡ Operand p)
picked_answer None answer e = grind arith
picked_answer (Some true) answer e = (1, refl, sym (same_Some (Operand 1) answer e))
picked_answer (Some false) answer e = (2, refl, sym (same_Some (Operand 2) answer e))

-- what computes a fact
fact_left : (value : Interpretation) (n : ℕ) (knows : Head → List (Option ℤ) → Option ℤ) (identity : Head → Identity) (r : Role) (s : Shape) (known : List (Option AttrObj)) (operands : List ℕ) (i : ℕ) (answer : OpFoldResult) → ComputesFacts knows identity → IsTrue (folds_of (form_of r)) → ((memo : Datum) (first : List Datum) → act_of value r s memo first ≡ give_or_trap (complete knows s.head (numbers_of first))) → IsTrue (nat_eq s.operands n && (nat_eq s.results 1 && (nat_eq s.successors 0 && nat_eq (length s.entry_arguments) 0))) → length known ≡ s.operands → slice_get (answer_at (operand_by_fact (identity s.head) known) (constant_by_fact (identity s.head) known operands) ∷ []) i ≡ Some (Some answer) → Left value r s known operands i answer
fact_left value n knows identity r s known operands i answer own folds acts h l e =
    let at = answered (answer_at (operand_by_fact (identity s.head) known) (constant_by_fact (identity s.head) known operands)) i answer e in
    let q = three s.operands n _ h in
    let u = three s.results 1 _ q.1 in
    let v = three s.successors 0 _ u.1 in
    record {
      first_result = at.0;
      one_result = u.0;
      no_successors = v.0;
      folds = folds;
      within = fact_answer_within (identity s.head) s known operands answer l at.1;
      gives = λ memo first k known_first same_data. subst (GivesAnswered answer first) (sym (acts memo first)) (facts_answer (identity s.head) (complete knows s.head) (own.identity_holds s.head) known operands first answer known_first same_data at.1);
    }

role_left : (value : Interpretation) (allows : Allows) (r : Role) (s : Shape) (known : List (Option AttrObj)) (operands : List ℕ) (i : ℕ) (answer : OpFoldResult) → RoleFits allows r s → Admits (Some r) s → length known ≡ s.operands → slice_get (operands_by s.head known operands r) i ≡ Some (Some answer) → Left value r s known operands i answer
role_left value allows (Folds n knows identity Never) s known operands i answer own h l e = fact_left value n knows identity (Folds n knows identity Never) s known operands i answer own.0 refl (λ memo first. refl) h l e
role_left value allows (Folds n knows identity Traps) s known operands i answer own h l e = fact_left value n knows identity (Folds n knows identity Traps) s known operands i answer own refl (λ memo first. refl) h l e
role_left value allows (Folds n knows identity Says) s known operands i answer own h l e =
    let at = answered (answer_at (identity_operand (identity s.head) known operands) (identity_constant (identity s.head) known operands)) i answer e in
    let q = three s.operands n _ h in
    let u = three s.results 1 _ q.1 in
    let v = three s.successors 0 _ u.1 in
    record {
      first_result = at.0;
      one_result = u.0;
      no_successors = v.0;
      folds = refl;
      within = identity_answer_within (identity s.head) s known operands answer l at.1;
      gives = λ memo first k known_first same_data. identity_answer_given value s.head (complete knows s.head (numbers_of first)) (identity s.head) known operands answer first known_first same_data at.1;
    }
role_left value allows (Picks truth) s known operands i answer own h l e =
    let at = answered (answer_at (place_picked (truth_of truth (known_number_at known 0))) None) i answer e in
    let c = picked_answer (truth_of truth (known_number_at known 0)) answer at.1 in
    let q = three s.operands 3 _ h in
    let u = three s.results 1 _ q.1 in
    let v = three s.successors 0 _ u.1 in
    record {
      first_result = at.0;
      one_result = u.0;
      no_successors = v.0;
      folds = refl;
      within = subst (IsWithinShape s) (sym c.2) (omega (arith, picked_within (truth_of truth (known_number_at known 0)) c.0 c.1, q.0));
      gives = λ memo first k known_first same_data. subst (λ a. GivesFirst a first (operands_picked value s.head first (truth (first_number first)))) (sym c.2) (picked_place value s.head (truth_of truth (known_number_at known 0)) (truth (first_number first)) first c.0 (k ∙ q.0) (λ b. truth_agrees truth (known_number_at known 0) (first_number first) b (first_agrees known first known_first)) c.1);
    }
role_left value allows Constant s known operands i answer own h l e = grind arith
role_left value allows Opaque s known operands i answer own h l e = grind arith
role_left value allows Jumps s known operands i answer own h l e = grind arith
role_left value allows (Chooses counting choose) s known operands i answer own h l e = grind arith
role_left value allows Leaves s known operands i answer own h l e = grind arith
role_left value allows Stops s known operands i answer own h l e = grind arith
role_left value allows (Acts says removes act) s known operands i answer own h l e = grind arith
role_left value allows (Names act named) s known operands i answer own h l e = grind arith
role_left value allows (Forks says act) s known operands i answer own h l e = grind arith
role_left value allows (Holds says) s known operands i answer own h l e = grind arith

moves_to : (value : Interpretation) (r : Role) (s : Shape) (memo : Datum) (input first ds : List Datum) (answer : OpFoldResult) → input ≡ first → act_of value r s memo input ≡ Give ds → GivesAnswered answer first (act_of value r s memo first) → slice_get ds 0 ≡ datum_by answer first
moves_to value r s memo input first ds answer e f g = subst (GivesAnswered answer first) (ap (act_of value r s memo) (sym e) ∙ f) g

answers_of : (value : Interpretation) (roles : ℕ → Option Role) (allows : Allows) (o : Option Role) (s : Shape) (known : List (Option AttrObj)) (operands : List ℕ) (i : ℕ) (answer : OpFoldResult) → roles s.head.kind ≡ o → ((r : Role) → o ≡ Some r → RoleFits allows r s) → Admits o s → length known ≡ s.operands → slice_get (by_role [] (operands_by s.head known operands) o) i ≡ Some (Some answer) → AnswersOperand (meaning_by value roles allows) s known operands i answer
unfolding meaning_by
answers_of value roles allows None s known operands i answer is own h l e = grind arith
answers_of value roles allows (Some r) s known operands i answer is own h l e =
    let left = role_left value allows r s known operands i answer (own r refl) h l e in
    let acts : (memo : Datum) (input : List Datum) → by_role no_act (act_of value) (roles s.head.kind) s memo input ≡ act_of value r s memo input = λ memo input. ap (λ o. by_role no_act (act_of value) o s memo input) is in
    record {
      result = omega (arith, left.first_result, left.one_result);
      within = left.within;
      no_successors = left.no_successors;
      gives = λ first len known_first same_data later memo input ds comes g.
          let quiet : (memo : Datum) (input : List Datum) → IsQuiet (by_role no_act (act_of value) (roles s.head.kind) s memo input) = λ memo input. subst IsQuiet (sym (acts memo input)) (role_quiet value r s left.folds memo input) in
          let at = comes_first _ s first later memo input quiet comes in
          ap (slice_get ds) left.first_result ∙ moves_to value r s memo input first ds answer at.same_input (sym (acts memo input) ∙ g) (left.gives memo first len known_first same_data);
    }

pub answers_operands : (value : Interpretation) (roles : ℕ → Option Role) (allows : Allows) → RolesFit allows roles → AnswersOperands (meaning_by value roles allows) (operand_folds_by roles)
unfolding meaning_by operand_folds_by
answers_operands value roles allows own = λ s h known operands l k i answer e. answers_of value roles allows (roles s.head.kind) s known operands i answer refl (own s) (both_parts _ _ h).0 l e

-- The results that are operands, or that equal operands decide, of operations whose identity is a fact about what is
-- computed: where nothing is computed they trap, and give nothing.
use Rattle.std.proofs.Common.{◌≡◌, ℕ, zero, suc, ◌<◌, nat_eq, ◌&&◌, if◌then◌else◌, Bool, true, false, List, [], ◌∷◌, Option, Some, None, length, slice_get, IsTrue, refl, ap, sym, ◌∙◌, subst, arith}
use Rattle.std.specs.Prelude.{ℤ, option_map}
use Rattle.std.specs.Option.{option_or}
use Rattle.std.specs.Ordering.{int_eq}
use Rattle.std.specs.Cmp.{signed_Decides}
use Rattle.std.proofs.lemmas.Option.{same_Some}
use Rattle.pliron_core.specs.declared.attrs.AttrObj.{AttrObj}
use Rattle.pliron_core.specs.declared.attrs.AttrObj.TheVariants.{Int}
use Rattle.pliron_laws.specs.Datum.{Datum, Empty, Number, Text, Join, datum_of, Move, Give, Visit, Goto, Leave, Emit, Trap}
use Rattle.pliron_laws.specs.Acting.{AgreeWithKnown}
use Rattle.pliron_laws.specs.declared.operand_folds.OpFoldResult.{OpFoldResult}
use Rattle.pliron_laws.specs.declared.operand_folds.OpFoldResult.TheVariants.{Operand, Constant as ConstantFold}
use Rattle.pliron_laws.specs.OperandFolding.{AreSameData, datum_by}
use Rattle.pliron_dialect.specs.declared.identity.Annihilator.{Annihilator}
use Rattle.pliron_dialect.specs.declared.identity.Identity.{Identity}
use Rattle.pliron_dialect.specs.Identities.{is_this, is_known_as, are_same, annihilating_place, IdentityHolds, Annihilates, EqualGives, IfAnyIs, operand_by_fact, constant_by_fact}
use Rattle.pliron_dialect.specs.Roles.{number_of, numbers_of, give_or_trap}
use Rattle.pliron_dialect.specs.OperandFolds.{answer_at}
use Rattle.pliron_dialect.specs.Parts.{same, both_parts}

-- the number of equal operands, as an answer
abbrev equal_answer : Bool → Option ℤ → Option OpFoldResult
equal_answer same_operands equal = answer_at None (if same_operands then equal else None)

-- where the move gives results, the first is what the answer says
abbrev pub GivesAnswered : OpFoldResult → List Datum → Move → Type 0
GivesAnswered answer first (Give ds) = slice_get ds 0 ≡ datum_by answer first
GivesAnswered answer first (Visit i ds memo) = Unit {0}
GivesAnswered answer first (Goto i ds) = Unit {0}
GivesAnswered answer first (Leave ds) = Unit {0}
GivesAnswered answer first (Emit e memo) = Unit {0}
GivesAnswered answer first Trap = Unit {0}

-- a datum that is this number
this_one : (n : ℤ) (d : Datum) → is_this (Some n) d ≡ true → d ≡ Number n
this_one n (Number m) e = ap Number ((signed_Decides m n).0 e)
this_one n Empty e = grind arith
this_one n (Text s) e = grind arith
this_one n (Join a b) e = grind arith

known_one : (n : ℤ) (p : Option AttrObj) (known : List (Option AttrObj)) (d : Datum) (ds : List Datum) → AgreeWithKnown (p ∷ known) (d ∷ ds) → is_known_as (Some n) p ≡ true → d ≡ Number n
known_one n None known d ds k e = grind arith
known_one n (Some a) known d ds k e = sym k.0 ∙ this_one n (datum_of a) e

behind : (p q : Option AttrObj) (d e : Datum) → AgreeWithKnown (p ∷ q ∷ []) (d ∷ e ∷ []) → AgreeWithKnown (q ∷ []) (e ∷ [])
behind None q d e k = k
behind (Some a) q d e k = k.1

-- what is given is this number, if any is
itself_given : (n : ℤ) (answer : OpFoldResult) (first : List Datum) (o : Option ℤ) → IfAnyIs o n → datum_by answer first ≡ Some (Number n) → GivesAnswered answer first (give_or_trap o)
itself_given n answer first None is e = tt
itself_given n answer first (Some m) is e = ap (λ x. Some (Number x)) is ∙ sym e

module _ (i : Identity) (result : List ℤ → Option ℤ) (holds : IdentityHolds i result) where
  first_left : (n : Annihilator) (d e : Datum) → i.annihilator ≡ Some n → d ≡ Number n.operand → GivesAnswered (Operand 0) (d ∷ e ∷ []) (give_or_trap (result (numbers_of (d ∷ e ∷ []))))
  first_left n d e same_n is =
      let facts : Annihilates (Some n) result = subst (λ x. Annihilates x result) same_n holds.annihilates in
      itself_given n.operand (Operand 0) (d ∷ e ∷ []) (result (number_of d ∷ number_of e ∷ [])) (subst (λ x. IfAnyIs (result (number_of x ∷ number_of e ∷ [])) n.operand) (sym is) (facts.0 (number_of e))) (ap Some is)

  second_left : (n : Annihilator) (d e : Datum) → i.annihilator ≡ Some n → IsTrue n.either_side → e ≡ Number n.operand → GivesAnswered (Operand 1) (d ∷ e ∷ []) (give_or_trap (result (numbers_of (d ∷ e ∷ []))))
  second_left n d e same_n either is =
      let facts : Annihilates (Some n) result = subst (λ x. Annihilates x result) same_n holds.annihilates in
      itself_given n.operand (Operand 1) (d ∷ e ∷ []) (result (number_of d ∷ number_of e ∷ [])) (subst (λ x. IfAnyIs (result (number_of d ∷ number_of x ∷ [])) n.operand) (sym is) (facts.1 (number_of d) either)) (ap Some is)

  equal_left : (k : ℤ) (d e : Datum) → i.equal ≡ Some k → d ≡ e → GivesAnswered (ConstantFold (Int k)) (d ∷ e ∷ []) (give_or_trap (result (numbers_of (d ∷ e ∷ []))))
  equal_left k d e same_k is =
      let facts : EqualGives (Some k) result = subst (λ x. EqualGives x result) same_k holds.equal in
      itself_given k (ConstantFold (Int k)) (d ∷ e ∷ []) (result (number_of d ∷ number_of e ∷ [])) (subst (λ x. IfAnyIs (result (number_of d ∷ number_of x ∷ [])) k) is (facts (number_of d))) refl

  equal_data : (operands : List ℕ) (d e : Datum) → AreSameData operands (d ∷ e ∷ []) → are_same operands ≡ true → d ≡ e
  equal_data [] d e s f = grind arith
  equal_data (v ∷ []) d e s f = grind arith
  equal_data (v ∷ w ∷ x ∷ operands) d e s f = grind arith
  equal_data (v ∷ w ∷ []) d e s f = same_Some d e (s 0 1 w (ap Some (same v w f)) refl)

  by_equal : (same_operands : Bool) (equal : Option ℤ) (operands : List ℕ) (d e : Datum) (answer : OpFoldResult) → are_same operands ≡ same_operands → i.equal ≡ equal → AreSameData operands (d ∷ e ∷ []) → equal_answer same_operands equal ≡ Some answer → GivesAnswered answer (d ∷ e ∷ []) (give_or_trap (result (numbers_of (d ∷ e ∷ []))))
  by_equal true (Some k) operands d e answer f g s a = subst (λ x. GivesAnswered x (d ∷ e ∷ []) (give_or_trap (result (numbers_of (d ∷ e ∷ []))))) (same_Some (ConstantFold (Int k)) answer a) (equal_left k d e g (equal_data operands d e s f))
  by_equal true None operands d e answer f g s a = grind arith
  by_equal false (Some k) operands d e answer f g s a = grind arith
  by_equal false None operands d e answer f g s a = grind arith

  by_place : (a : Option Annihilator) (p q : Option AttrObj) (operands : List ℕ) (d e : Datum) (answer : OpFoldResult) → i.annihilator ≡ a → AgreeWithKnown (p ∷ q ∷ []) (d ∷ e ∷ []) → AreSameData operands (d ∷ e ∷ []) → answer_at (annihilating_place a p q) (if are_same operands then i.equal else None) ≡ Some answer → GivesAnswered answer (d ∷ e ∷ []) (give_or_trap (result (numbers_of (d ∷ e ∷ []))))
  by_place None p q operands d e answer same_n k s f = by_equal (are_same operands) i.equal operands d e answer refl refl s f
  by_place (Some n) p q operands d e answer same_n k s f = by_test (is_known_as (Some n.operand) p) (n.either_side && is_known_as (Some n.operand) q) refl refl f
    where
      by_test : (b c : Bool) → is_known_as (Some n.operand) p ≡ b → (n.either_side && is_known_as (Some n.operand) q) ≡ c → answer_at (if b then Some 0 else if c then Some 1 else None) (if are_same operands then i.equal else None) ≡ Some answer → GivesAnswered answer (d ∷ e ∷ []) (give_or_trap (result (numbers_of (d ∷ e ∷ []))))
      by_test true c x y g = subst (λ z. GivesAnswered z (d ∷ e ∷ []) (give_or_trap (result (numbers_of (d ∷ e ∷ []))))) (same_Some (Operand 0) answer g) (first_left n d e same_n (known_one n.operand p (q ∷ []) d (e ∷ []) k x))
      by_test false true x y g =
          let both = both_parts n.either_side (is_known_as (Some n.operand) q) y in
          subst (λ z. GivesAnswered z (d ∷ e ∷ []) (give_or_trap (result (numbers_of (d ∷ e ∷ []))))) (same_Some (Operand 1) answer g) (second_left n d e same_n both.0 (known_one n.operand q [] e [] (behind p q d e k) both.1))
      by_test false false x y g = by_equal (are_same operands) i.equal operands d e answer refl refl s g

-- each answer is what is given, if anything is
pub facts_answer : (i : Identity) (result : List ℤ → Option ℤ) → IdentityHolds i result → (known : List (Option AttrObj)) (operands : List ℕ) (first : List Datum) (answer : OpFoldResult) → AgreeWithKnown known first → AreSameData operands first → answer_at (operand_by_fact i known) (constant_by_fact i known operands) ≡ Some answer → GivesAnswered answer first (give_or_trap (result (numbers_of first)))
facts_answer i result holds [] operands first answer k s e = grind arith
facts_answer i result holds (p ∷ []) operands first answer k s e = grind arith
facts_answer i result holds (p ∷ q ∷ r ∷ known) operands first answer k s e = grind arith
facts_answer i result holds (p ∷ q ∷ []) operands [] answer k s e = absurd k
facts_answer i result holds (None ∷ q ∷ []) operands (d ∷ []) answer k s e = absurd k
facts_answer i result holds (Some a ∷ q ∷ []) operands (d ∷ []) answer k s e = absurd k.1
facts_answer i result holds (p ∷ q ∷ []) operands (d ∷ f ∷ []) answer k s e = by_place i result holds i.annihilator p q operands d f answer refl k s e
facts_answer i result holds (None ∷ None ∷ []) operands (d ∷ f ∷ g ∷ first) answer k s e = absurd k
facts_answer i result holds (None ∷ Some b ∷ []) operands (d ∷ f ∷ g ∷ first) answer k s e = absurd k.1
facts_answer i result holds (Some a ∷ None ∷ []) operands (d ∷ f ∷ g ∷ first) answer k s e = absurd k.1
facts_answer i result holds (Some a ∷ Some b ∷ []) operands (d ∷ f ∷ g ∷ first) answer k s e = absurd k.1.1

-- an operand that is itself the result is one of those of the operation
pub fact_within : (i : Identity) (known : List (Option AttrObj)) (p : ℕ) → operand_by_fact i known ≡ Some p → p < length known
fact_within i [] p e = grind arith
fact_within i (a ∷ []) p e = grind arith
fact_within i (a ∷ b ∷ c ∷ known) p e = grind arith
fact_within i (a ∷ b ∷ []) p e = by_annihilator i.annihilator e
  where
    by_tests : (x y : Bool) → (if x then Some 0 else if y then Some 1 else None) ≡ Some p → p < 2
    by_tests true y f = omega (arith, same_Some 0 p f)
    by_tests false true f = omega (arith, same_Some 1 p f)
    by_tests false false f = grind arith

    by_annihilator : (n : Option Annihilator) → annihilating_place n a b ≡ Some p → p < 2
    by_annihilator None f = grind arith
    by_annihilator (Some n) f = by_tests (is_known_as (Some n.operand) a) (n.either_side && is_known_as (Some n.operand) b) f

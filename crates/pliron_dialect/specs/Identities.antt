-- What leaves an operand as it is. It may also give one number, whatever the other data are.
use Rattle.std.specs.Prelude.{◌≡◌, IsTrue, ℕ, nat_eq, if◌then◌else◌, Bool, true, false, not, ◌&&◌, ◌||◌, List, [], ◌∷◌, Option, Some, None, is_some, ℤ, option_map}
use Rattle.std.specs.Ordering.{int_eq}
use Rattle.std.specs.Cmp.Lexicographic.{pointwise}
use Rattle.pliron_core.specs.declared.attrs.AttrObj.{AttrObj}
use Rattle.pliron_laws.specs.Datum.{Datum, Empty, Number, Text, Join, datum_of}
use Rattle.pliron_dialect.specs.declared.identity.Absorption.{Absorption}
use Rattle.pliron_dialect.specs.declared.identity.Annihilator.{Annihilator}
use Rattle.pliron_dialect.specs.declared.identity.Identity.{Identity}

abbrev pub no_identity : Identity
no_identity = record { neutral = None; either_side = false; idempotent = false; only = false; equal = None; absorbing = None; annihilator = None }

-- whether two data are one
abbrev pub same_datum : Datum → Datum → Bool
same_datum Empty Empty = true
same_datum (Number m) (Number n) = int_eq m n
same_datum (Text s) (Text t) = pointwise nat_eq s t
same_datum (Join a b) (Join c d) = same_datum a c && same_datum b d
same_datum _ _ = false

-- whether the datum is this number
abbrev pub is_this : Option ℤ → Datum → Bool
is_this (Some n) (Number m) = int_eq m n
is_this _ d = false

-- the place of the operand of two that is left: the first where the second is neutral, the second where the first is,
-- the first of equal ones
abbrev pub place_by : (second_neutral first_neutral equal : Bool) → Option ℕ
place_by second_neutral first_neutral equal = if second_neutral then Some 0 else if first_neutral then Some 1 else if equal then Some 0 else None

abbrev pub place_between : Identity → Datum → Datum → Option ℕ
place_between i d e = place_by (is_this i.neutral e) (i.either_side && is_this i.neutral d) (i.idempotent && same_datum d e)

-- the place of an only operand that is left
abbrev pub place_of_one : Bool → Option ℕ
place_of_one only = if only then Some 0 else None

abbrev pub place_in : Identity → List Datum → Option ℕ
place_in i (d ∷ []) = place_of_one i.only
place_in i (d ∷ e ∷ []) = place_between i d e
place_in i _ = None

-- the place where all operands are known
abbrev pub place_of_two : Identity → Option AttrObj → Option AttrObj → Option ℕ
place_of_two i (Some a) (Some b) = place_between i (datum_of a) (datum_of b)
place_of_two i _ _ = None

abbrev pub place_known : Identity → List (Option AttrObj) → Option ℕ
place_known i (a ∷ []) = place_of_one i.only
place_known i (a ∷ b ∷ []) = place_of_two i a b
place_known i _ = None

-- the place of the operand that is left, by what one operand is known to be, by both being the same value, or by there
-- being only one operand
abbrev pub is_known_as : Option ℤ → Option AttrObj → Bool
is_known_as n None = false
is_known_as n (Some a) = is_this n (datum_of a)

abbrev pub are_same : List ℕ → Bool
are_same (v ∷ w ∷ []) = nat_eq v w
are_same _ = false

-- the place of the one of two operands that is known to be itself the result
abbrev pub annihilating_place : Option Annihilator → Option AttrObj → Option AttrObj → Option ℕ
annihilating_place None p q = None
annihilating_place (Some n) p q = if is_known_as (Some n.operand) p then Some 0 else if n.either_side && is_known_as (Some n.operand) q then Some 1 else None

abbrev pub identity_operand : Identity → List (Option AttrObj) → List ℕ → Option ℕ
identity_operand i (p ∷ []) operands = place_of_one i.only
identity_operand i (p ∷ q ∷ []) operands = place_by (is_known_as i.neutral q) (i.either_side && is_known_as i.neutral p) (i.idempotent && are_same operands)
identity_operand i _ operands = None

-- ---- the number that is given

-- whether there is no other number
abbrev pub agrees_with : Option ℤ → ℤ → Bool
agrees_with None n = true
agrees_with (Some m) n = int_eq m n

-- what absorbs: where it may be either operand, or one of equal operands is left, it has to give itself
abbrev pub absorption_if : Bool → Option Absorption → Option Absorption
absorption_if itself None = None
absorption_if itself (Some a) = if itself && not (int_eq a.operand a.result) then None else Some a

abbrev pub absorption_of : Identity → Option Absorption
absorption_of i = absorption_if (i.either_side || i.idempotent) i.absorbing

abbrev pub absorber_of : Identity → Option ℤ
absorber_of i = option_map (λ a. a.operand) (absorption_of i)

abbrev pub absorbed_of : Identity → Option ℤ
absorbed_of i = option_map (λ a. a.result) (absorption_of i)

-- what equal operands give: no other number than what is neutral, and than what is absorbed
abbrev pub equal_if : Option ℤ → Option ℤ → Option ℤ → Option ℤ
equal_if neutral absorbed None = None
equal_if neutral absorbed (Some n) = if agrees_with neutral n && agrees_with absorbed n then Some n else None

abbrev pub equal_of : Identity → Option ℤ
equal_of i = equal_if i.neutral (absorbed_of i) i.equal

-- the number that is given: where the second operand absorbs, where the first does, of equal ones
abbrev pub given_by : Identity → (second first equal : Bool) → Option ℤ
given_by i second first equal = if second then absorbed_of i else if first then absorbed_of i else if equal then equal_of i else None

abbrev pub given_between : Identity → Datum → Datum → Option ℤ
given_between i d e = given_by i (is_this (absorber_of i) e) (i.either_side && is_this (absorber_of i) d) (same_datum d e)

abbrev pub given_in : Identity → List Datum → Option ℤ
given_in i (d ∷ e ∷ []) = given_between i d e
given_in i _ = None

-- the number where all operands are known
abbrev pub given_of_two : Identity → Option AttrObj → Option AttrObj → Option ℤ
given_of_two i (Some a) (Some b) = given_between i (datum_of a) (datum_of b)
given_of_two i _ _ = None

abbrev pub given_known : Identity → List (Option AttrObj) → Option ℤ
given_known i (a ∷ b ∷ []) = given_of_two i a b
given_known i _ = None

-- the number that is given by what one operand is known to be, or by both being the same value
abbrev pub identity_constant : Identity → List (Option AttrObj) → List ℕ → Option ℤ
identity_constant i (p ∷ q ∷ []) operands = given_by i (is_known_as (absorber_of i) q) (i.either_side && is_known_as (absorber_of i) p) (are_same operands)
identity_constant i _ operands = None

-- ---- an identity as a fact about what is computed: no operand is left but one that is itself the result, and equal
-- numbers give one number

-- the place of the operand that is itself the result, and the number that is given of both being the same value
abbrev pub operand_by_fact : Identity → List (Option AttrObj) → Option ℕ
operand_by_fact i (p ∷ q ∷ []) = annihilating_place i.annihilator p q
operand_by_fact i _ = None

abbrev pub constant_by_fact : Identity → List (Option AttrObj) → List ℕ → Option ℤ
constant_by_fact i (p ∷ q ∷ []) operands = if are_same operands then i.equal else None
constant_by_fact i _ operands = None

abbrev pub is_bare : Identity → Bool
is_bare i = not (is_some i.neutral) && (not i.idempotent && (not i.only && not (is_some i.absorbing)))

-- if a number is computed at all, it is this one
abbrev pub IfAnyIs : Option ℤ → ℤ → Type 0
IfAnyIs None n = Unit {0}
IfAnyIs (Some m) n = m ≡ n

abbrev pub Annihilates : Option Annihilator → (List ℤ → Option ℤ) → Type 0
Annihilates None result = Unit {0}
Annihilates (Some n) result = ((b : ℤ) → IfAnyIs (result (n.operand ∷ b ∷ [])) n.operand) × ((a : ℤ) → IsTrue n.either_side → IfAnyIs (result (a ∷ n.operand ∷ [])) n.operand)

abbrev pub EqualGives : Option ℤ → (List ℤ → Option ℤ) → Type 0
EqualGives None result = Unit {0}
EqualGives (Some k) result = (a : ℤ) → IfAnyIs (result (a ∷ a ∷ [])) k

pub record IdentityHolds (i : Identity) (result : List ℤ → Option ℤ) : Type 0 where
  pub bare : IsTrue (is_bare i)
  pub annihilates : Annihilates i.annihilator result
  pub equal : EqualGives i.equal result

-- Tables of small dialects: what is computed of numbers of 64 signed bits, branches of two edges, and heads without other
-- attributes.
use Rattle.std.proofs.Common.{◌≡◌, ℕ, zero, suc, ◌<◌, ◌-◌, min, nat_lt, if◌then◌else◌, ◌&&◌, Bool, true, false, List, [], ◌∷◌, Option, Some, None, IsSome, IsTrue, map, refl, ap, ap₂, sym, subst, arith, rules}
use Rattle.std.specs.Prelude.{ℤ, pos, negsuc}
use Rattle.std.specs.Int.{w64, int_wrap}
use Rattle.pliron_core.specs.declared.attrs.Head.{Head}
use Rattle.pliron_core.specs.declared.attrs.AttrObj.{AttrObj}
use Rattle.pliron_core.specs.declared.attrs.AttrObj.TheVariants.{Int, Text as Words}
use Rattle.pliron_laws.specs.Datum.{Shape}
use Rattle.pliron_dialect.specs.declared.form.Form.{Form}
use Rattle.pliron_dialect.specs.declared.form.Form.TheVariants.{Constant as ConstantForm, Chooses as ChoosesForm}
use Rattle.pliron_dialect.specs.declared.form.Counting.TheVariants.{OfFirst, OfEach}
use Rattle.pliron_dialect.specs.declared.form.Otherwise.TheVariants.{Never}
use Rattle.pliron_dialect.specs.Identities.{no_identity}
use Rattle.pliron_dialect.specs.Counted.{count_of, two_counts, first_edge_count, fewer_by}
use Rattle.pliron_dialect.specs.Roles.{Role, Folds, Jumps, Chooses, Allows, Interpretation, form_of, Stays, AllStay, ResultFits, RoleFits}
use Rattle.pliron_role_runs.specs.Numbers.{is_whole_number, are_known, where_known, edge_by_condition}
use Rattle.pliron_dialect_bench.specs.Bench.{has_none, has_number, has_count}

-- ---- roles

-- it has so many operands, and gives a number that is computed of theirs
abbrev pub computes : ℕ → (List (Option ℤ) → ℤ) → Role
computes n value = Folds n (λ h os. where_known os (value os)) (λ h. no_identity) Never

-- it jumps to its second successor where its first operand is 0, else to its first one; an attribute counts the operands
-- of the first edge
abbrev pub branches_by_condition : Role
branches_by_condition = Chooses OfFirst (λ kind attrs n. Some (edge_by_condition (int_wrap w64 n)))

-- where all tables say what is given
abbrev pub never_asked : Interpretation
never_asked h ds = []

-- ---- which operations there are

abbrev pub plain_attributes : Form → List AttrObj → ℕ → Bool
plain_attributes ConstantForm attrs operands = has_number attrs
plain_attributes (ChoosesForm OfFirst) attrs operands = has_count attrs operands
plain_attributes (ChoosesForm OfEach) attrs operands = true
plain_attributes _ attrs operands = has_none attrs

abbrev pub is_plain : Form → Head → ℕ → Bool
is_plain f h operands = h.ssa && plain_attributes f h.attrs operands

-- what takes so many operands, results and regions, and has such a head
abbrev pub Takes : Type 0
Takes = (operands results regions : ℕ) → Bool

abbrev pub any_counts : Takes
any_counts a b d = true

abbrev pub allows_plain : Takes → Role → Allows
allows_plain takes r h a b c d = takes a b d && is_plain (form_of r) h a

-- ---- what these roles owe

same_operands : (os ps : List (Option ℤ)) → AllStay os ps → IsTrue (are_known os) → os ≡ ps
same_operands [] [] s k = refl
same_operands [] (p ∷ ps) s k = absurd s
same_operands (o ∷ os) [] s k = absurd s
same_operands (None ∷ os) (p ∷ ps) s k = grind arith
same_operands (Some n ∷ os) (p ∷ ps) s k = ap₂ (λ x xs. x ∷ xs) (sym s.0) (same_operands os ps s.1 k)

grows_so : (value : List (Option ℤ) → ℤ) (os ps : List (Option ℤ)) (b : Bool) → are_known os ≡ b → AllStay os ps → Stays (if b then Some (value os) else None) (where_known ps (value ps))
grows_so value os ps true e s = subst (λ z. where_known z (value z) ≡ Some (value os)) (same_operands os ps s e) (ap (λ b. if b then Some (value os) else None) e)
grows_so value os ps false e s = tt

all_are_known : (ns : List ℤ) → are_known (map Some ns) ≡ true
all_are_known [] = refl
all_are_known (n ∷ ns) = all_are_known ns

pub computes_fits : (n : ℕ) (value : List (Option ℤ) → ℤ) → ResultFits Never n (λ h os. where_known os (value os)) (λ h. no_identity)
computes_fits n value = (
  record {
    grows = λ h os ps s. grows_so value os ps (are_known os) refl s;
    identity_holds = λ h. record { bare = refl; annihilates = tt; equal = tt };
  },
  λ h ns l. subst (λ b. IsSome (if b then Some (value (map Some ns)) else None)) (sym (all_are_known ns)) refl,
)

second : (x y : Bool) → IsTrue (x && y) → IsTrue y
second true y h = h
second false y h = grind arith

first : (x y : Bool) → IsTrue (x && y) → IsTrue x
first true y h = refl
first false y h = grind arith

both : (x y : Bool) → IsTrue x → IsTrue y → IsTrue (x && y)
both true y h k = k
both false y h k = grind arith

pub jump_fits : (s : Shape) → RoleFits (allows_plain any_counts Jumps) Jumps s
jump_fits s = λ some fits. second _ _ fits

below_less : (n a : ℕ) → 0 < min n (a - 1) → IsTrue (nat_lt n a) → IsTrue (nat_lt (n - 1) (a - 1))
below_less n a some h = search (rules, arith)

below_other : (n a : ℕ) → 0 < a - 1 - n → IsTrue (nat_lt n (a - 1))
below_other n a some = search (rules, arith)

count_kept : (attrs : List AttrObj) (c a i : ℕ) → 0 < count_of (two_counts (first_edge_count attrs) (a - 1)) i → IsTrue (has_count attrs a) → IsTrue (has_count (fewer_by OfFirst attrs c i) (a - 1))
count_kept [] c a i some h = grind arith
count_kept (Int (pos n) ∷ []) c a zero some h = below_less n a some h
count_kept (Int (pos n) ∷ []) c a (suc zero) some h = below_other n a some
count_kept (Int (pos n) ∷ []) c a (suc (suc i)) some h = absurd (omega (arith, some))
count_kept (Int (negsuc n) ∷ []) c a i some h = grind arith
count_kept (Words s ∷ []) c a i some h = grind arith
count_kept (x ∷ y ∷ attrs) c a i some h = grind arith

pub branch_fits : (s : Shape) → RoleFits (allows_plain any_counts branches_by_condition) branches_by_condition s
branch_fits s = λ i lt some fits.
    let plain = second _ _ fits in
    both s.head.ssa _ (first s.head.ssa _ plain) (count_kept s.head.attrs s.successors s.operands i some (second s.head.ssa _ plain))

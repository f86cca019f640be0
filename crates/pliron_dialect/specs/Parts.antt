-- What it says that a dialect of roles admits an operation, and what an operation can come to.
use Rattle.std.proofs.Common.{◌≡◌, ℕ, ◌<◌, ◌-◌, Bool, true, false, ◌&&◌, nat_eq, nat_lt, List, Option, Some, None, length, IsTrue, refl, sym, subst, ap, ◌∙◌, arith, rules}
use Rattle.pliron_core.specs.declared.attrs.AttrObj.{AttrObj}
use Rattle.pliron_core.specs.declared.attrs.Head.{Head}
use Rattle.pliron_laws.specs.Datum.{Datum, Empty, Shape, Move, Give, Visit, Goto, Leave, Emit, Trap}
use Rattle.pliron_laws.specs.Acting.{Act, Comes}
use Rattle.pliron_laws.specs.Acting.Comes.{Begins, Answered, AnsweredByWorld}
use Rattle.pliron_dialect.specs.Roles.{Role, Constant, Folds, Picks, Opaque, Jumps, Chooses, Leaves, Stops, Acts, Names, Forks, Holds, Fits, shortened_of, by_role, takes_by, Tables, KeepsTables, RoleFits, RolesFit, Allows, allows_at, by_kind, constant_head_of, head_of_kind, role_at}
use Rattle.std.specs.Option.{option_map}
use Rattle.std.proofs.lemmas.Option.{same_Some}

pub both_parts : (x y : Bool) → IsTrue (x && y) → IsTrue x × IsTrue y
both_parts true y h = (refl, h)
both_parts false y h = grind arith

pub both_true : (x y : Bool) → IsTrue x → IsTrue y → IsTrue (x && y)
both_true true y h k = k
both_true false y h k = grind arith

pub same : (a b : ℕ) → IsTrue (nat_eq a b) → a ≡ b
same a b h = search (rules, arith)

pub same_true : (a b : ℕ) → a ≡ b → IsTrue (nat_eq a b)
same_true a b e = search (rules, arith)

pub below : (a b : ℕ) → IsTrue (nat_lt a b) → a < b
below a b h = search (rules, arith)

pub three : (a b : ℕ) (x : Bool) → IsTrue (nat_eq a b && x) → (a ≡ b) × IsTrue x
three a b x h = let p = both_parts (nat_eq a b) x h in (same a b p.0, p.1)

abbrev pub Admits : Option Role → Shape → Type 0
Admits o s = IsTrue (by_role false (takes_by s.head s.operands s.results s.successors (length s.entry_arguments)) o)

-- the same with what is allowed beyond the role
abbrev pub AdmitsAll : Allows → Option Role → Shape → Type 0
AdmitsAll allows o s = IsTrue (by_role false (takes_by s.head s.operands s.results s.successors (length s.entry_arguments)) o && allows s.head s.operands s.results s.successors (length s.entry_arguments))

-- the move asks nothing of others
abbrev pub IsQuiet : Move → Type 0
IsQuiet (Give ds) = Unit {0}
IsQuiet (Visit i ds memo) = ⊥
IsQuiet (Goto i ds) = Unit {0}
IsQuiet (Leave ds) = Unit {0}
IsQuiet (Emit e memo) = ⊥
IsQuiet Trap = Unit {0}

-- an operation that asks nothing of others comes to no more than its first input
pub record IsFirst (first : List Datum) (later : Bool) (memo : Datum) (input : List Datum) : Type 0 where
  pub once : later ≡ false
  pub no_memo : memo ≡ Empty
  pub same_input : input ≡ first

pub comes_first : (act : Act) (s : Shape) (first : List Datum) (later : Bool) (memo : Datum) (input : List Datum) → ((memo : Datum) (input : List Datum) → IsQuiet (act s memo input)) → Comes act s first later memo input → IsFirst first later memo input
comes_first act s first _ _ _ quiet Begins = record { once = refl; no_memo = refl; same_input = refl }
comes_first act s first _ _ _ quiet (Answered {memo = memo} {input = input} i ds next answer c e) = absurd (subst IsQuiet e (quiet memo input))
comes_first act s first _ _ _ quiet (AnsweredByWorld {memo = memo} {input = input} effect next answer c e) = absurd (subst IsQuiet e (quiet memo input))

-- ---- what the tables of a dialect keep, by numbers

-- what fits what is allowed of its kind fits what is allowed of its number
module _ {K : Type 0} (t : Tables K) (k : K) (s : Shape) (named : t.kind_of s.head.kind ≡ Some k) where
  of_kind : (r : Role) → Fits (allows_at t) r s → Fits (t.allows k) r s
  of_kind r h = subst (λ o. IsTrue (takes_by s.head s.operands s.results s.successors (length s.entry_arguments) r && by_kind t.allows o s.head s.operands s.results s.successors (length s.entry_arguments))) named h

  of_number : (h : Head) (a b c d : ℕ) → h.kind ≡ s.head.kind → IsTrue (t.allows k h a b c d) → IsTrue (allows_at t h a b c d)
  of_number h a b c d e p = subst (λ o. IsTrue (by_kind t.allows o h a b c d)) (sym (ap t.kind_of e ∙ named)) p

  role_fits : (r : Role) → RoleFits (t.allows k) r s → RoleFits (allows_at t) r s
  role_fits (Folds n knows identity otherwise) own = own
  role_fits Jumps own = λ lt h. of_number s.head (s.operands - 1) s.results s.successors (length s.entry_arguments) refl (own lt (of_kind Jumps h))
  role_fits (Chooses counting choose) own = λ i lt some h. of_number (shortened_of s i (Chooses counting choose)) (s.operands - 1) s.results s.successors (length s.entry_arguments) refl (own i lt some (of_kind (Chooses counting choose) h))
  role_fits (Acts says removes act) own = λ h memo input. own (of_kind (Acts says removes act) h) memo input
  role_fits (Names act names) own = record {
    moves = λ h memo input. own.moves (of_kind (Names act names) h) memo input;
    there = λ h. own.there (of_kind (Names act names) h);
    passes = λ h. own.passes (of_kind (Names act names) h);
  }
  role_fits (Forks says act) own = λ h memo input. own (of_kind (Forks says act) h) memo input
  role_fits Constant own = tt
  role_fits (Picks truth) own = tt
  role_fits Opaque own = tt
  role_fits Leaves own = tt
  role_fits Stops own = tt
  role_fits (Holds says) own = tt

kind_fits : {K : Type 0} (t : Tables K) → KeepsTables t → (o : Option K) (s : Shape) (r : Role) → t.kind_of s.head.kind ≡ o → option_map t.role_of o ≡ Some r → RoleFits (allows_at t) r s
kind_fits t keeps None s r named e = grind arith
kind_fits t keeps (Some k) s r named e = role_fits t k s named r (subst (λ x. RoleFits (t.allows k) x s) (same_Some (t.role_of k) r e) (keeps.roles k s))

pub roles_fit : {K : Type 0} (t : Tables K) → KeepsTables t → RolesFit (allows_at t) (role_at t)
roles_fit t keeps = λ s r e. kind_fits t keeps (t.kind_of s.head.kind) s r refl e

-- what is allowed of a kind is allowed of heads with its number
allowed_named : {K : Type 0} (t : Tables K) → KeepsTables t → (k : K) (h : Head) (a b c d : ℕ) → h.kind ≡ t.number_of k → IsTrue (t.allows k h a b c d) → IsTrue (allows_at t h a b c d)
allowed_named t keeps k h a b c d e p = subst (λ o. IsTrue (by_kind t.allows o h a b c d)) (sym (ap t.kind_of e ∙ keeps.numbered k)) p

pub constants_allowed : {K : Type 0} (t : Tables K) → KeepsTables t → (attr : AttrObj) → IsTrue (t.accepts attr) → IsTrue (allows_at t (constant_head_of (t.number_of t.constant) (t.is_ssa t.constant) attr) 0 1 0 0)
constants_allowed t keeps attr p = allowed_named t keeps t.constant (constant_head_of (t.number_of t.constant) (t.is_ssa t.constant) attr) 0 1 0 0 refl (keeps.constants_allowed attr p)

pub jumps_allowed : {K : Type 0} (t : Tables K) → KeepsTables t → (n : ℕ) → IsTrue (allows_at t (head_of_kind (t.number_of t.jump) (t.is_ssa t.jump)) n 0 1 0)
jumps_allowed t keeps n = allowed_named t keeps t.jump (head_of_kind (t.number_of t.jump) (t.is_ssa t.jump)) n 0 1 0 refl (keeps.jumps_allowed n)

pub constant_named : {K : Type 0} (t : Tables K) → KeepsTables t → role_at t (t.number_of t.constant) ≡ Some Constant
constant_named t keeps = ap (option_map t.role_of) (keeps.numbered t.constant) ∙ ap Some keeps.constant

pub jump_named : {K : Type 0} (t : Tables K) → KeepsTables t → role_at t (t.number_of t.jump) ≡ Some Jumps
jump_named t keeps = ap (option_map t.role_of) (keeps.numbered t.jump) ∙ ap Some keeps.jump

-- The laws of a dialect on operands that every invocation of a region passes.
use Rattle.std.specs.Prelude.{◌≡◌, ◌<◌, ℕ, Bool, false, not, List, Option, Some, None, length, slice_get, refl}
use Rattle.pliron_laws.specs.Datum.{Datum, Head, Shape, Visit, Meaning}
use Rattle.pliron_laws.specs.Acting.{Comes}
use Rattle.pliron_laws.specs.Laws.{Admitted}

-- for the shape of an operation, the index of a region and that of an argument of its entry, the operand that
-- every invocation passes there, where one is named
abbrev pub EntryOperands : Type 0
EntryOperands = Shape → (region argument : ℕ) → Option ℕ

-- what implements no interface for it names no operand; a named operand is there, and every invocation of the
-- region passes there the datum that the first input has in its place
pub record NamesOperands (m : Meaning) (entry_operands : EntryOperands) (implements : Head → Bool) : Type 0 where
  pub silent : (s : Shape) (i j : ℕ) → implements s.head ≡ false → entry_operands s i j ≡ None
  pub there : (s : Shape) → Admitted m s → (i j k : ℕ) → entry_operands s i j ≡ Some k → k < s.operands
  pub passes : (s : Shape) → Admitted m s → (i j k : ℕ) → entry_operands s i j ≡ Some k → (first : List Datum) → length first ≡ s.operands → (later : Bool) (memo : Datum) (input ds : List Datum) (next : Datum) → Comes m.act s first later memo input → m.act s memo input ≡ Visit i ds next → (d : Datum) → slice_get ds j ≡ Some d → slice_get first k ≡ Some d

-- runs begin at exactly what names no operands
abbrev pub RootsNameNone : Meaning → (Head → Bool) → Type 0
RootsNameNone m implements = (h : Head) → m.may_be_root h ≡ not (implements h)

-- what names no operand keeps the law
abbrev pub names_none : EntryOperands
names_none s i j = None

none_named : (k : ℕ) → None ≡ Some k → ⊥
none_named k e = cc

pub none_are_named : (m : Meaning) (implements : Head → Bool) → NamesOperands m names_none implements
none_are_named m implements = record {
  silent = λ s i j no. refl;
  there = λ s h i j k e. absurd (none_named k e);
  passes = λ s h i j k e. absurd (none_named k e);
}

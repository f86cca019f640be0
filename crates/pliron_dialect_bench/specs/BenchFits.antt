-- The tables keep what an author of tables owes.
use Rattle.std.proofs.Common.{◌≡◌, ℕ, zero, suc, ◌<◌, Bool, true, false, ◌&&◌, if◌then◌else◌, nat_lt, List, [], ◌∷◌, Option, Some, None, length, slice_get, slice_index_or, replicate, IsTrue, refl, ap, sym, ◌∙◌, subst, arith}
use Rattle.std.proofs.lemmas.Option.{same_Some, get_or_from_slice_get}
use Rattle.std.proofs.lemmas.List.{length-replicate}
use Rattle.pliron_core.specs.declared.attrs.AttrObj.{AttrObj}
use Rattle.pliron_core.specs.declared.attrs.AttrObj.TheVariants.{Int, Text as Words}
use Rattle.pliron_dialect_bench.specs.declared.kind.BenchKind.{BenchKind}
use Rattle.pliron_dialect_bench.specs.declared.kind.BenchKind.TheVariants.{Mod, Func, Const, Add, Mul, Div, Read, Print, Pair, Sink, Scope, Box, Br, Cbr, Ret, Fork}
use Rattle.pliron_laws.specs.Datum.{Datum, Empty, Number, Text, Join, Shape, Move, Give, Visit, Leave, Emit}
use Rattle.pliron_laws.specs.Acting.{Comes}
use Rattle.pliron_laws.specs.Acting.Comes.{Begins, Answered, AnsweredByWorld}
use Rattle.pliron_laws.specs.Laws.{CountsFit}
use Rattle.pliron_dialect.specs.Parts.{both_parts, below}
use Rattle.pliron_dialect.specs.Roles.{Role, Fits, NamesFit, RoleFits, KeepsTables, constant_head_of}
use Rattle.pliron_dialect_bench.specs.Bench.{kind_of, number_of_kind, takes, is_number_attribute}
use Rattle.pliron_dialect_bench.specs.BenchNumbers.{fits}
use Rattle.pliron_dialect_bench.specs.BenchMoves.{memo_when_done, once, fit_with_zeros, datum_at, edge_taken, argument_count, func_act, scope_act, read_act, print_act, bench_fork_act, operand_of_index, bench_role, bench_allows, bench_tables}
use Rattle.pliron_dialect_bench.specs.BenchFacts.{sum_facts, product_facts, quotient_facts}
use Rattle.pliron_dialect_bench.specs.BenchTaken.{numbered, IsTaken, taken, br_loses, cbr_loses}

constants_taken : (attr : AttrObj) → IsTrue (is_number_attribute attr) → IsTrue (takes (constant_head_of (number_of_kind Const) true attr) 0 1 0 0 Const)
constants_taken (Int n) h = four (fits n) h
  where
    four : (x : Bool) → IsTrue x → IsTrue (x && true && true && true && true)
    four true e = refl
    four false e = grind arith
constants_taken (Words s) h = grind arith

-- ---- moves pass as many values as there are places for

-- the shape of an operation of the kind
of_kind : (k : BenchKind) (r : Role) (s : Shape) → Fits (bench_allows k) r s → IsTaken k s.head s.operands s.results s.successors (length s.entry_arguments)
of_kind k r s h = taken k s.head s.operands s.results s.successors (length s.entry_arguments) (both_parts _ _ h).1

length-fitted : (n : ℕ) (ds : List Datum) → length (fit_with_zeros n ds) ≡ n
length-fitted zero ds = refl
length-fitted (suc n) [] = ap suc (length-fitted n [])
length-fitted (suc n) (d ∷ ds) = ap suc (length-fitted n ds)

visit_fits : (counts : List ℕ) (input : List Datum) (n : ℕ) → slice_get counts 0 ≡ Some n → length (fit_with_zeros (slice_index_or counts 0 0) input) ≡ n
visit_fits [] input n e = grind arith
visit_fits (c ∷ counts) input n e = length-fitted c input ∙ same_Some c n e

once_fits : (s : Shape) (memo : Datum) (move after : Move) → CountsFit false s move → CountsFit false s after → CountsFit false s (once memo move after)
once_fits s Empty move after f g = f
once_fits s (Number n) move after f g = g
once_fits s (Text w) move after f g = g
once_fits s (Join x y) move after f g = g

target_fits : (target_arguments : Option (List ℕ)) (i : ℕ) (d : Datum) (counts : List ℕ) (n : ℕ) → target_arguments ≡ Some counts → slice_get counts i ≡ Some n → length (replicate (argument_count target_arguments i) d) ≡ n
target_fits target_arguments i d counts n e f = length-replicate (argument_count target_arguments i) d ∙ ap (λ t. argument_count t i) e ∙ get_or_from_slice_get counts i n 0 f

func_fits : (s : Shape) (memo : Datum) (input : List Datum) → CountsFit false s (func_act s memo input)
func_fits s memo input = once_fits s memo _ (Leave input) (λ n at. visit_fits s.entry_arguments input n at) tt

read_fits : (s : Shape) (memo : Datum) (input : List Datum) → s.results ≡ 1 → CountsFit false s (read_act s memo input)
read_fits s memo input e = once_fits s memo _ (Give (datum_at input 0 ∷ [])) tt (sym e)

print_fits : (s : Shape) (memo : Datum) (input : List Datum) → s.results ≡ 0 → CountsFit false s (print_act s memo input)
print_fits s memo input e = once_fits s memo _ (Give []) tt (sym e)

scope_fits : (s : Shape) (memo : Datum) (input : List Datum) → s.results ≡ 0 → CountsFit false s (scope_act s memo input)
scope_fits s memo input e = once_fits s memo _ (Give []) (λ n at. visit_fits s.entry_arguments input n at) (sym e)

fork_fits : (s : Shape) (memo : Datum) (input : List Datum) → CountsFit false s (bench_fork_act s memo input)
fork_fits s memo input = λ counts n f g at. target_fits s.target_arguments (edge_taken input) (datum_at input 0) counts n g at

-- ---- the operand that a `scope` names

unsaid : {k : ℕ} → None ≡ Some k → ⊥
unsaid e = cc

in_case : (b : Bool) (j k : ℕ) → (if b then Some j else None) ≡ Some k → IsTrue b × (j ≡ k)
in_case true j k e = (refl, same_Some j k e)
in_case false j k e = absurd (unsaid e)

-- it is that of the argument's index
named : (n i j k : ℕ) → operand_of_index n i j ≡ Some k → (j ≡ k) × (j < n)
named n i j k e = let c = in_case (nat_lt j n) j k e in (c.1, below j n c.0)

-- an invocation is the first transition
at_first : (memo : Datum) (values : List Datum) (i : ℕ) (ds : List Datum) (next : Datum) → once memo (Visit 0 values memo_when_done) (Give []) ≡ Visit i ds next → (memo ≡ Empty) × (values ≡ ds) × (next ≡ memo_when_done)
at_first Empty values i ds next e = (refl, cc, cc)
at_first (Number n) values i ds next e = grind arith
at_first (Text w) values i ds next e = grind arith
at_first (Join x y) values i ds next e = grind arith

no_effect : (memo : Datum) (values : List Datum) (effect next : Datum) → once memo (Visit 0 values memo_when_done) (Give []) ≡ Emit effect next → ⊥
no_effect Empty values effect next e = cc
no_effect (Number n) values effect next e = cc
no_effect (Text w) values effect next e = cc
no_effect (Join x y) values effect next e = cc

not_done : (next : Datum) → next ≡ memo_when_done → next ≡ Empty → ⊥
not_done next e f = cc

-- with an empty memo its input is the first one
first_alone : (s : Shape) (first : List Datum) (later : Bool) (memo : Datum) (input : List Datum) → Comes scope_act s first later memo input → memo ≡ Empty → input ≡ first
first_alone s first later memo input Begins e = refl
first_alone s first later memo input (Answered i ds next answer c move) e = absurd (not_done next (at_first _ _ i ds next move).2 e)
first_alone s first later memo input (AnsweredByWorld effect next answer c move) e = absurd (no_effect _ _ effect next move)

fitted_at : (n : ℕ) (ds : List Datum) (j : ℕ) (d : Datum) → j < length ds → slice_get (fit_with_zeros n ds) j ≡ Some d → slice_get ds j ≡ Some d
fitted_at zero ds j d lt e = grind arith
fitted_at (suc n) [] j d lt e = absurd (omega (arith, lt))
fitted_at (suc n) (x ∷ ds) zero d lt e = e
fitted_at (suc n) (x ∷ ds) (suc j) d lt e = fitted_at n ds j d (omega (arith, lt)) e

passes : (s : Shape) (i j k : ℕ) → operand_of_index s.operands i j ≡ Some k → (first : List Datum) → length first ≡ s.operands → (later : Bool) (memo : Datum) (input ds : List Datum) (next : Datum) → Comes scope_act s first later memo input → scope_act s memo input ≡ Visit i ds next → (d : Datum) → slice_get ds j ≡ Some d → slice_get first k ≡ Some d
passes s i j k e first l later memo input ds next comes move d at =
    let it = named s.operands i j k e in
    let visit = at_first memo _ i ds next move in
    let same : input ≡ first = first_alone s first later memo input comes visit.0 in
    let inside : j < length input = subst (λ x. j < length x) (sym same) (subst (λ x. j < x) (sym l) it.1) in
    let read : slice_get input j ≡ Some d = fitted_at _ input j d inside (ap (λ x. slice_get x j) visit.1 ∙ at) in
    ap (λ x. slice_get first x) (sym it.0) ∙ ap (λ x. slice_get x j) (sym same) ∙ read

scope_names : (s : Shape) → NamesFit (bench_allows Scope) (bench_role Scope) scope_act operand_of_index s
scope_names s = record {
  moves = λ h memo input. scope_fits s memo input (of_kind Scope (bench_role Scope) s h).results;
  there = λ h i j k e. let it = named s.operands i j k e in subst (λ x. x < s.operands) it.0 it.1;
  passes = λ h i j k e first l later memo input ds next comes move d at. passes s i j k e first l later memo input ds next comes move d at;
}

-- ---- the kinds

role_fits : (k : BenchKind) (s : Shape) → RoleFits (bench_allows k) (bench_role k) s
role_fits Mod s = tt
role_fits Func s = λ h memo input. func_fits s memo input
role_fits Const s = tt
role_fits Add s = sum_facts
role_fits Mul s = product_facts
role_fits Div s = quotient_facts
role_fits Read s = λ h memo input. read_fits s memo input (of_kind Read (bench_role Read) s h).results
role_fits Print s = λ h memo input. print_fits s memo input (of_kind Print (bench_role Print) s h).results
role_fits Pair s = tt
role_fits Sink s = tt
role_fits Scope s = scope_names s
role_fits Box s = tt
role_fits Br s = λ lt h. br_loses s.head s.operands s.results s.successors (length s.entry_arguments) (of_kind Br (bench_role Br) s h)
role_fits Cbr s = λ i lt some h. cbr_loses s.head s.operands s.results s.successors (length s.entry_arguments) i (of_kind Cbr (bench_role Cbr) s h) some
role_fits Ret s = tt
role_fits Fork s = λ h memo input. fork_fits s memo input

pub keeps_bench : KeepsTables bench_tables
keeps_bench = record {
  numbered = numbered;
  constant = refl;
  jump = refl;
  constants_allowed = constants_taken;
  jumps_allowed = λ n. refl;
  roles = role_fits;
}

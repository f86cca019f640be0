-- Visits of regions, for dialects to cite.
use Rattle.std.proofs.Common.{◌≡◌, ℕ, zero, suc, ◌+◌, ◌<◌, nat_lt, if◌then◌else◌, Bool, true, false, List, [], ◌∷◌, ◌++◌, drop, Option, Some, None, length, slice_get, slice_index_or, IsTrue, refl, ap, sym, ◌∙◌, subst, arith, rules}
use Rattle.std.specs.Prelude.{ℤ, pos, negsuc, int_lt}
use Rattle.std.proofs.lemmas.Option.{same_Some}
use Rattle.pliron_laws.specs.Datum.{Datum, Empty, Number, Text, Join, Shape, Move, Give, Visit, Emit}
use Rattle.pliron_laws.specs.Laws.{CountsFit}
use Rattle.pliron_laws.specs.Acting.{Comes}
use Rattle.pliron_laws.specs.Acting.Comes.{Begins, Answered, AnsweredByWorld}
use Rattle.pliron_dialect.specs.Roles.{Role, Allows, NamesFit, chain_of}
use Rattle.pliron_role_runs.specs.Numbers.{whole_number_of, wrapped_sum, condition_of}
pub use Rattle.pliron_dialect_bench.specs.BenchMoves.{fit_with_zeros, memo_when_done, once}

-- the region with this index is visited with these values, as far as its entry has arguments, and this memo is kept
abbrev pub visit_keeping : ℕ → Shape → List Datum → Datum → Move
visit_keeping i s values memo = Visit i (fit_with_zeros (slice_index_or s.entry_arguments i 0) values) memo

-- so it is, and the memo says no more than that it was
abbrev pub visit_of : ℕ → Shape → List Datum → Move
visit_of i s values = visit_keeping i s values memo_when_done

pub length-fit_with_zeros : (n : ℕ) (ds : List Datum) → length (fit_with_zeros n ds) ≡ n
length-fit_with_zeros zero ds = refl
length-fit_with_zeros (suc n) [] = ap suc (length-fit_with_zeros n [])
length-fit_with_zeros (suc n) (d ∷ ds) = ap suc (length-fit_with_zeros n ds)

entry_fits : (counts : List ℕ) (i : ℕ) (values : List Datum) (n : ℕ) → slice_get counts i ≡ Some n → length (fit_with_zeros (slice_index_or counts i 0) values) ≡ n
entry_fits [] i values n e = grind arith
entry_fits (c ∷ counts) zero values n e = length-fit_with_zeros c values ∙ same_Some c n e
entry_fits (c ∷ counts) (suc i) values n e = entry_fits counts i values n e

pub visit_keeping_fits : (b : Bool) (i : ℕ) (s : Shape) (values : List Datum) (memo : Datum) → CountsFit b s (visit_keeping i s values memo)
visit_keeping_fits b i s values memo = λ n at. entry_fits s.entry_arguments i values n at

pub visit_fits : (b : Bool) (i : ℕ) (s : Shape) (values : List Datum) → CountsFit b s (visit_of i s values)
visit_fits b i s values = visit_keeping_fits b i s values memo_when_done

pub once_fits : (b : Bool) (s : Shape) (memo : Datum) (move after : Move) → CountsFit b s move → CountsFit b s after → CountsFit b s (once memo move after)
once_fits b s Empty move after x y = x
once_fits b s (Number n) move after x y = y
once_fits b s (Text t) move after x y = y
once_fits b s (Join d e) move after x y = y

abbrev pub data_of_chain : Datum → List Datum
data_of_chain (Join d e) = d ∷ data_of_chain e
data_of_chain Empty = []
data_of_chain (Number n) = []
data_of_chain (Text s) = []

-- ---- operations that ask the world

-- the world is asked by an effect that has this name and the operands; its answer is the first result, the others are 0
abbrev pub ask_world : ℤ → Shape → Datum → List Datum → Move
ask_world name s memo input = once memo (Emit (Join (Number name) (chain_of input)) memo_when_done) (Give (fit_with_zeros s.results input))

pub asks_fit : (name : ℤ) (s : Shape) (memo : Datum) (input : List Datum) → CountsFit false s (ask_world name s memo input)
asks_fit name s memo input = once_fits false s memo (Emit (Join (Number name) (chain_of input)) memo_when_done) (Give (fit_with_zeros s.results input)) tt (length-fit_with_zeros s.results input)

-- ---- operations that pass the same operands at each visit

-- of so many operands the one for this argument, where those from a place on are passed
abbrev pub operand_from : (place operands argument : ℕ) → Option ℕ
operand_from place operands argument = if nat_lt (place + argument) operands then Some (place + argument) else None

-- the operands from this place on are named, in every region
abbrev pub operands_from : (place operands region argument : ℕ) → Option ℕ
operands_from place operands region argument = operand_from place operands argument

-- between visits the memo is a stage beside the operands; at first it is empty, and the input is the operands
abbrev pub kept_operands : Datum → List Datum → List Datum
kept_operands Empty input = input
kept_operands (Join stage kept) input = data_of_chain kept
kept_operands (Number n) input = []
kept_operands (Text s) input = []

abbrev pub stage_of : Datum → Datum
stage_of (Join stage kept) = stage
stage_of Empty = Empty
stage_of (Number n) = Empty
stage_of (Text s) = Empty

-- the first of the data, by default 0
abbrev pub first_or_zero : List Datum → Datum
first_or_zero [] = Number (pos 0)
first_or_zero (d ∷ ds) = d

-- what the last visit gave, at first nothing
abbrev pub last_answer : Datum → List Datum → List Datum
last_answer (Join stage kept) input = input
last_answer Empty input = []
last_answer (Number n) input = []
last_answer (Text s) input = []

-- what comes next: the region with this index is visited, with these data behind the operands, and then comes this
-- stage; or the results are given
pub data Turn : Type 0 where
  Again : (region : ℕ) (others : List Datum) (stage : Datum) → Turn
  Over : (results : List Datum) → Turn

-- by the operands, the stage and what the last visit gave
abbrev pub Turns : Type 0
Turns = (operands : List Datum) (stage : Datum) (answer : List Datum) → Turn

abbrev pub turn_move : ℕ → Shape → List Datum → Turn → Move
turn_move place s operands (Again i others stage) = visit_keeping i s (drop place operands ++ others) (Join stage (chain_of operands))
turn_move place s operands (Over results) = Give (fit_with_zeros s.results results)

-- each visit passes the operands from this place on, and then what the turn says, cut or filled with 0
abbrev pub turning : ℕ → Turns → Shape → Datum → List Datum → Move
turning place turns s memo input = turn_move place s (kept_operands memo input) (turns (kept_operands memo input) (stage_of memo) (last_answer memo input))

-- a counted loop: its first operand says how often it visits its region, with its other operands and then what the
-- last visit gave; it gives what the last one gave
abbrev pub turns_left : List Datum → Datum → ℤ
turns_left operands Empty = condition_of operands
turns_left operands (Number n) = whole_number_of (Number n)
turns_left operands (Text s) = pos 0
turns_left operands (Join a b) = pos 0

abbrev pub again_if : Bool → ℤ → List Datum → Turn
again_if true left answer = Again 0 answer (Number (wrapped_sum left (negsuc 0)))
again_if false left answer = Over answer

abbrev pub counted_turns : Turns
counted_turns operands stage answer = again_if (int_lt (pos 0) (turns_left operands stage)) (turns_left operands stage) answer

abbrev pub counted_loop : Shape → Datum → List Datum → Move
counted_loop = turning 1 counted_turns

-- ---- what they owe

data-of-chain : (ds : List Datum) → data_of_chain (chain_of ds) ≡ ds
data-of-chain [] = refl
data-of-chain (d ∷ ds) = ap (λ z. d ∷ z) (data-of-chain ds)

turn_fits : (place : ℕ) (s : Shape) (operands : List Datum) (turn : Turn) → CountsFit false s (turn_move place s operands turn)
turn_fits place s operands (Again i others stage) = visit_keeping_fits false i s (drop place operands ++ others) (Join stage (chain_of operands))
turn_fits place s operands (Over results) = length-fit_with_zeros s.results results

unnamed : {k : ℕ} → None ≡ Some k → ⊥
unnamed e = cc

below : (a b : ℕ) → IsTrue (nat_lt a b) → a < b
below a b h = search (rules, arith)

in_case : (b : Bool) (j k : ℕ) → (if b then Some j else None) ≡ Some k → IsTrue b × (j ≡ k)
in_case true j k e = (refl, same_Some j k e)
in_case false j k e = absurd (unnamed e)

named_there : (place operands i j k : ℕ) → operands_from place operands i j ≡ Some k → (place + j ≡ k) × (k < operands)
named_there place operands i j k e = let c = in_case (nat_lt (place + j) operands) (place + j) k e in (c.1, subst (λ z. z < operands) c.1 (below (place + j) operands c.0))

no_visit : {ds es : List Datum} {i : ℕ} {next : Datum} → Give ds ≡ Visit i es next → ⊥
no_visit e = cc

nor_effect : {ds : List Datum} {effect next : Datum} → Give ds ≡ Emit effect next → ⊥
nor_effect e = cc

no_effect : {i : ℕ} {ds : List Datum} {memo effect next : Datum} → Visit i ds memo ≡ Emit effect next → ⊥
no_effect e = cc

memo_of : {i j : ℕ} {ds es : List Datum} {memo next : Datum} → Visit i ds memo ≡ Visit j es next → memo ≡ next
memo_of e = cc

values_of : {i j : ℕ} {ds es : List Datum} {memo next : Datum} → Visit i ds memo ≡ Visit j es next → ds ≡ es
values_of e = cc

-- a visit keeps the operands in the memo
visit_keeps : (place : ℕ) (s : Shape) (operands : List Datum) (turn : Turn) (i : ℕ) (ds answer : List Datum) (next : Datum) → turn_move place s operands turn ≡ Visit i ds next → kept_operands next answer ≡ operands
visit_keeps place s operands (Again j others stage) i ds answer next e = subst (λ z. kept_operands z answer ≡ operands) (memo_of e) (data-of-chain operands)
visit_keeps place s operands (Over results) i ds answer next e = absurd (no_visit e)

turn_quiet : (place : ℕ) (s : Shape) (operands : List Datum) (turn : Turn) (effect next : Datum) → turn_move place s operands turn ≡ Emit effect next → ⊥
turn_quiet place s operands (Again j others stage) effect next e = no_effect e
turn_quiet place s operands (Over results) effect next e = nor_effect e

passed_at : (place n : ℕ) (xs others : List Datum) (j k : ℕ) (d : Datum) → place + j ≡ k → k < length xs → slice_get (fit_with_zeros n (drop place xs ++ others)) j ≡ Some d → slice_get xs k ≡ Some d
passed_at place n [] others j k d same lt e = absurd (omega (arith, lt))
passed_at zero zero (x ∷ xs) others j k d same lt e = grind arith
passed_at zero (suc n) (x ∷ xs) others zero zero d same lt e = e
passed_at zero (suc n) (x ∷ xs) others zero (suc k) d same lt e = absurd (omega (arith, same))
passed_at zero (suc n) (x ∷ xs) others (suc j) zero d same lt e = absurd (omega (arith, same))
passed_at zero (suc n) (x ∷ xs) others (suc j) (suc k) d same lt e = passed_at zero n xs others j k d (omega (arith, same)) (omega (arith, lt)) e
passed_at (suc place) n (x ∷ xs) others j zero d same lt e = absurd (omega (arith, same))
passed_at (suc place) n (x ∷ xs) others j (suc k) d same lt e = passed_at place n xs others j k d (omega (arith, same)) (omega (arith, lt)) e

visit_passes : (place : ℕ) (s : Shape) (operands : List Datum) (turn : Turn) (i j k : ℕ) (ds : List Datum) (next d : Datum) → place + j ≡ k → k < length operands → turn_move place s operands turn ≡ Visit i ds next → slice_get ds j ≡ Some d → slice_get operands k ≡ Some d
visit_passes place s operands (Again r others stage) i j k ds next d same lt e at = passed_at place (slice_index_or s.entry_arguments r 0) operands others j k d same lt (ap (λ z. slice_get z j) (values_of e) ∙ at)
visit_passes place s operands (Over results) i j k ds next d same lt e at = absurd (no_visit e)

-- whatever it comes to, the operands are those of its first input
comes_kept : (place : ℕ) (turns : Turns) (s : Shape) (first : List Datum) (later : Bool) (memo : Datum) (input : List Datum) → Comes (turning place turns) s first later memo input → kept_operands memo input ≡ first
comes_kept place turns s first _ _ _ Begins = refl
comes_kept place turns s first _ _ _ (Answered {memo = memo} {input = input} i ds next answer c e) =
    visit_keeps place s (kept_operands memo input) (turns (kept_operands memo input) (stage_of memo) (last_answer memo input)) i ds answer next e ∙ comes_kept place turns s first _ memo input c
comes_kept place turns s first _ _ _ (AnsweredByWorld {memo = memo} {input = input} effect next answer c e) =
    absurd (turn_quiet place s (kept_operands memo input) (turns (kept_operands memo input) (stage_of memo) (last_answer memo input)) effect next e)

pub turns_fit : {allows : Allows} {r : Role} (place : ℕ) (turns : Turns) (s : Shape) → NamesFit allows r (turning place turns) (operands_from place) s
turns_fit place turns s = record {
  moves = λ h memo input. turn_fits place s (kept_operands memo input) (turns (kept_operands memo input) (stage_of memo) (last_answer memo input));
  there = λ h i j k e. (named_there place s.operands i j k e).1;
  passes = λ h i j k e first l later memo input ds next comes move d read.
      let at = named_there place s.operands i j k e in
      let kept = comes_kept place turns s first later memo input comes in
      let inside : k < length (kept_operands memo input) = subst (λ z. k < length z) (sym kept) (subst (λ z. k < z) (sym l) at.1) in
      ap (λ z. slice_get z k) (sym kept) ∙ visit_passes place s (kept_operands memo input) (turns (kept_operands memo input) (stage_of memo) (last_answer memo input)) i j k ds next d at.0 inside move read;
}

pub counted_fits : {allows : Allows} {r : Role} (s : Shape) → NamesFit allows r counted_loop (operands_from 1) s
counted_fits s = turns_fit 1 counted_turns s

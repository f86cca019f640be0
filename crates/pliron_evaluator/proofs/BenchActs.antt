-- The moves of `Bench`, as the evaluator makes them.
use Rattle.std.proofs.Common.{◌≡◌, ℕ, zero, suc, ◌+◌, ◌<◌, ◌≤◌, false, List, [], ◌∷◌, map, take, drop, length, get_or, option_map, Some, None, Result, Ok, Err, refl, sym, ap, ◌∙◌, arith}
use Rattle.std.specs.Int.{w64, int_wrap}
use Rattle.std.specs.Prelude.{ℤ, slice_index_or, pos, replicate}
use Rattle.std.specs.Result.{IfOk}
use Rattle.std.proofs.lemmas.List.{drop-map, take-map, get_or-drop}
use Rattle.pliron_core.specs.Tree.{Tree, head_of, operands_of, results_of, regions_of, successors_of}
use Rattle.pliron_dialect_bench.specs.declared.kind.BenchKind.{BenchKind}
use Rattle.pliron_dialect_bench.specs.declared.kind.BenchKind.TheVariants.{Fork}
use Rattle.pliron_laws.specs.Datum.{Datum, Empty, Number, Head, Shape, Move, Visit, Goto, Trap}
use Rattle.pliron_laws.specs.Tree.{Operation, op_at, shape_of, entry_block, block_at, count_arguments, unless}
use Rattle.pliron_laws.specs.Answers.{ReadsHead, ReadsShape}
use Rattle.pliron_dialect.specs.Counted.{count_of, start_of, values_of_edge}
use Rattle.pliron_dialect.specs.Roles.{act_of, no_act, by_role, by_form, form_of, branches, numbers_of, number_of, fit_data as fit_or_empty, meaning_by}
use Rattle.pliron_dialect_bench.specs.Bench.{kind_of}
use Rattle.pliron_dialect_bench.specs.BenchNumbers.{wrapped_known_at}
use Rattle.pliron_dialect_bench.specs.BenchMoves.{bench, bench_role, bench_value, datum_at, memo_when_done, once, fit_with_zeros, edge_taken, argument_count}
use Rattle.pliron_evaluator.specs.Tiny.{fitted_or_empty}
use Rattle.pliron_evaluator.specs.declared.evaluator.values.Datum.{Datum as DatumValue}
use Rattle.pliron_evaluator.specs.declared.evaluator.values.Move.{Move as MoveValue}
use Rattle.pliron_evaluator.specs.Evaluator.{datum_of_value, move_of}
use Rattle.pliron_laws.proofs.Records.{op_shows}
use Rattle.pliron_laws.proofs.ShapeLemmas.{head_at, shape_head}

-- data, cut or filled
pub fitted_begins : (n : ℕ) (ds : List Datum) → fit_with_zeros (suc n) ds ≡ datum_at ds 0 ∷ fit_with_zeros n (drop 1 ds)
fitted_begins n [] = refl
fitted_begins n (d ∷ ds) = refl

pub datum_behind : (xs : List DatumValue) (i : ℕ) → datum_at (map datum_of_value xs) i ≡ datum_at (map datum_of_value (drop i xs)) 0
datum_behind xs i =
    let same : i + 0 ≡ i = omega arith in
    sym (ap (λ y. datum_at y 0) (sym (drop-map datum_of_value i xs)) ∙ get_or-drop i (map datum_of_value xs) 0 (Number (pos 0)) ∙ ap (datum_at (map datum_of_value xs)) same)

pub filled_as : (n : ℕ) (ds : List Datum) → fitted_or_empty n ds ≡ fit_or_empty n ds
filled_as zero ds = refl
filled_as (suc n) [] = ap (λ z. Empty ∷ z) (filled_as n [])
filled_as (suc n) (d ∷ ds) = ap (λ z. d ∷ z) (filled_as n ds)

-- the numbers that are there
pub known_there : (xs : List DatumValue) (i : ℕ) (x : DatumValue) → i < length xs → x ≡ get_or xs i x → wrapped_known_at (map Some (numbers_of (map datum_of_value xs))) i ≡ Some (int_wrap w64 (number_of (datum_of_value x)))
known_there [] i x lt e = absurd (omega (arith, lt))
known_there (y ∷ xs) zero x lt e = ap (λ z. Some (int_wrap w64 (number_of (datum_of_value z)))) (sym e)
known_there (y ∷ xs) (suc i) x lt e = known_there xs i x (omega (arith, lt)) e

pub number_there : (xs : List DatumValue) (i : ℕ) (x : DatumValue) (n : ℤ) → i < length xs → x ≡ get_or xs i x → n ≡ int_wrap w64 (number_of (datum_of_value x)) → Some n ≡ wrapped_known_at (map Some (numbers_of (map datum_of_value xs))) i
number_there xs i x n lt e f = ap Some f ∙ sym (known_there xs i x lt e)

pub none_there : (xs : List DatumValue) (i : ℕ) → length xs ≤ i → None ≡ wrapped_known_at (map Some (numbers_of (map datum_of_value xs))) i
none_there [] i le = refl
none_there (y ∷ xs) zero le = absurd (omega (arith, le))
none_there (y ∷ xs) (suc i) le = none_there xs i (omega (arith, le))

-- the values along an edge
pub along_edge : (ns : List ℕ) (i : ℕ) (xs : List DatumValue) → map datum_of_value (values_of_edge ns i xs) ≡ values_of_edge ns i (map datum_of_value xs)
along_edge ns i xs = sym (take-map datum_of_value (count_of ns i) (drop (start_of ns i) (drop 1 xs))) ∙ ap (take (count_of ns i)) (sym (drop-map datum_of_value (start_of ns i) (drop 1 xs)) ∙ ap (drop (start_of ns i)) (sym (drop-map datum_of_value 1 xs)))

module _ (t : Tree) (op : ℕ) (k : BenchKind) (memo : Datum) (input : List Datum) where
  -- what an operation of the kind does
  abbrev pub Acts : Operation → Move → Type 0
  Acts o m = m ≡ act_of bench_value (bench_role k) (shape_of bench t o) memo input

  -- the move is that of a table of one kind
  pub acts : {E : Type 0} (r : Result MoveValue E) (m : Move) → ((o : Operation) → op_at t op ≡ Some o → Acts o m) → IfOk r (λ n. move_of n ≡ m) → IfOk r (λ n. (o : Operation) → op_at t op ≡ Some o → Acts o (move_of n))
  acts (Ok n) m f e = λ o at. e ∙ f o at
  acts (Err z) m f e = e

  operand_count : (o : Operation) → op_at t op ≡ Some o → length (operands_of t op) ≡ (shape_of bench t o).operands
  unfolding shape_of
  operand_count o at = ap length (op_shows t op o at).operands

  result_count : (o : Operation) → op_at t op ≡ Some o → length (results_of t op) ≡ (shape_of bench t o).results
  unfolding shape_of
  result_count o at = ap length (op_shows t op o at).results

  -- it reads the head, and how many operands there are
  pub by_operands : (f : Head → ℕ → Move) (kind : BenchKind) (h : Head) → k ≡ kind → head_of t op ≡ Some h → ((s : Shape) → f s.head s.operands ≡ act_of bench_value (bench_role kind) s memo input) → (o : Operation) → op_at t op ≡ Some o → Acts o (f h (length (operands_of t op)))
  by_operands f kind h e at_head g = λ o at.
      let same : Some h ≡ Some o.head = sym at_head ∙ head_at t op o at in
      let heads : h ≡ o.head = cc in
      ap (f h) (operand_count o at) ∙ ap (λ z. f z (shape_of bench t o).operands) (heads ∙ sym (shape_head bench t o)) ∙ g (shape_of bench t o) ∙ ap (λ z. act_of bench_value (bench_role z) (shape_of bench t o) memo input) (sym e)

  -- it reads the head
  pub by_head : (f : Head → Move) (kind : BenchKind) (h : Head) → k ≡ kind → head_of t op ≡ Some h → ((s : Shape) → f s.head ≡ act_of bench_value (bench_role kind) s memo input) → (o : Operation) → op_at t op ≡ Some o → Acts o (f h)
  by_head f kind h e at_head g = by_operands (λ z n. f z) kind h e at_head g

  -- it reads how many results there are
  pub by_results : (f : ℕ → Move) (kind : BenchKind) → k ≡ kind → ((s : Shape) → f s.results ≡ act_of bench_value (bench_role kind) s memo input) → (o : Operation) → op_at t op ≡ Some o → Acts o (f (length (results_of t op)))
  by_results f kind e g = λ o at. ap f (result_count o at) ∙ g (shape_of bench t o) ∙ ap (λ z. act_of bench_value (bench_role z) (shape_of bench t o) memo input) (sym e)

  entries : (o : Operation) → op_at t op ≡ Some o → map (λ r. count_arguments (entry_block t r)) (regions_of t op) ≡ (shape_of bench t o).entry_arguments
  unfolding shape_of
  entries o at = ap (map (λ r. count_arguments (entry_block t r))) (op_shows t op o at).regions

  -- it visits its region
  pub by_entry : (after : Move) (count : ℕ) (kind : BenchKind) → k ≡ kind → count ≡ slice_index_or (map (λ r. count_arguments (entry_block t r)) (regions_of t op)) 0 0 → ((s : Shape) → once memo (Visit 0 (fit_with_zeros (slice_index_or s.entry_arguments 0 0) input) memo_when_done) after ≡ act_of bench_value (bench_role kind) s memo input) → (o : Operation) → op_at t op ≡ Some o → Acts o (once memo (Visit 0 (fit_with_zeros count input) memo_when_done) after)
  by_entry after count kind e is f = λ o at.
      ap (λ z. once memo (Visit 0 (fit_with_zeros z input) memo_when_done) after) (is ∙ ap (λ z. slice_index_or z 0 0) (entries o at)) ∙ f (shape_of bench t o) ∙ ap (λ z. act_of bench_value (bench_role z) (shape_of bench t o) memo input) (sym e)

  target_counts : (o : Operation) → op_at t op ≡ Some o → kind_of o.head.kind ≡ Some Fork → (i : ℕ) → slice_index_or (map (λ b. count_arguments (block_at t b)) (successors_of t op)) i 0 ≡ argument_count (shape_of bench t o).target_arguments i
  unfolding shape_of meaning_by
  target_counts o at e i =
      ap (λ z. slice_index_or (map (λ b. count_arguments (block_at t b)) z) i 0) (op_shows t op o at).successors
      ∙ ap (λ z. argument_count (unless (by_form false branches (option_map form_of (option_map bench_role z))) (map (λ b. count_arguments (block_at t b)) o.successors)) i) (sym e)

  -- it reads how many arguments the target has
  pub by_target : k ≡ Fork → ReadsHead (λ h. kind_of h.kind) t op (Some k) → (o : Operation) → op_at t op ≡ Some o → Acts o (Goto (edge_taken input) (replicate (slice_index_or (map (λ b. count_arguments (block_at t b)) (successors_of t op)) (edge_taken input) 0) (datum_at input 0)))
  by_target e reads = λ o at.
      let kind : kind_of o.head.kind ≡ Some Fork = sym (reads o.head (head_at t op o at)) ∙ ap Some e in
      ap (λ z. Goto (edge_taken input) (replicate z (datum_at input 0))) (target_counts o at kind (edge_taken input)) ∙ ap (λ z. act_of bench_value (bench_role z) (shape_of bench t o) memo input) (sym e)

  kind_acts : (o : Operation) → op_at t op ≡ Some o → ReadsHead (λ h. kind_of h.kind) t op (Some k) → act_of bench_value (bench_role k) (shape_of bench t o) memo input ≡ bench.act (shape_of bench t o) memo input
  unfolding meaning_by shape_of
  kind_acts o at reads = ap (λ z. by_role no_act (act_of bench_value) (option_map bench_role z) (shape_of bench t o) memo input) (reads o.head (head_at t op o at))

  -- an operation of the kind moves as its table says
  pub moves : {E : Type 0} (r : Result MoveValue E) → ReadsHead (λ h. kind_of h.kind) t op (Some k) → IfOk r (λ n. (o : Operation) → op_at t op ≡ Some o → Acts o (move_of n)) → IfOk r (λ n. ReadsShape bench (λ s. bench.act s memo input) t op (move_of n))
  moves (Ok n) reads e = λ o at. e o at ∙ kind_acts o at reads
  moves (Err z) reads e = e

pub others_trap : (t : Tree) (op : ℕ) (memo : Datum) (input : List Datum) → ReadsHead (λ h. kind_of h.kind) t op None → ReadsShape bench (λ s. bench.act s memo input) t op Trap
unfolding meaning_by shape_of
others_trap t op memo input reads = λ o at. ap (λ z. by_role no_act (act_of bench_value) (option_map bench_role z) (shape_of bench t o) memo input) (reads o.head (head_at t op o at))

use Rattle.std.proofs.Common.{◌≡◌, ◌<◌, ◌+◌, ◌∷◌, ◌++◌, [], nat_eq, Some, length, refl, sym, ap, ◌∙◌, ⊎_elim, inr, subst, true≢false, arith, slice_get, slice_index_or}
use Rattle.std.proofs.lemmas.Grind.{common_steps}
use Rattle.std.specs.List.{position}
use Rattle.std.proofs.lemmas.List.{length-set}
use Rattle.pliron_theory.specs.LatticeValues.{Constant, NotAConstant}
use Rattle.pliron_opt_sccp.specs.declared.lattice_tables.LatticeCell.{LatticeCell}
use Rattle.pliron_opt_sccp.specs.declared.lattice_tables.LatticeCell.TheVariants.{Undetermined as Unknown, Constant as Known, NotAConstant as Varying}
use Rattle.pliron_opt_sccp.specs.LatticeCells.{cell_at, constant_or, value_of_cell, KeepsConstants}
use Rattle.pliron_opt_sccp.specs.LatticeTables.{lattice_value_in}
use Rattle.pliron_opt_sccp.proofs.Worklists.{get_at, length_one}
use Rattle.pliron_opt_sccp.proofs.Written.{means_at, no_constant, read_known, known_set, count_kept, count_taken, keeps_more, last_constant, said_kept, stays_low, falls_then, fall_first, fall_apart, number_is, written_here, written_there}
use Rattle.pliron_opt_sccp.proofs.lattice_tables.Tables.answer.Goals as goal

pub push_reserved-requires : goal.push_reserved-requires
push_reserved-requires c =
    let s = c.args.self.now in
    let n = c.in-Some.n in
    let cells = s.cells.items in
    let constants = s.constants.items in
    let at : position (nat_eq c.args.value) s.values.keys ≡ Some n = grind (arith, common_steps) in
    let lt : n < length cells = grind (arith, common_steps, s.has_cells) in
    let none : slice_index_or cells n Varying ≡ Unknown = grind (arith, common_steps) in
    let count = count_taken cells n c.len.result none in
    grind (arith, common_steps, count, s.constants_room)

pub invariant_of-self : goal.invariant_of-self
invariant_of-self c =
    let s = c.args.self.now in
    let n = c.in-Some.n in
    let cells = s.cells.items in
    let constants = s.constants.items in
    let at : position (nat_eq c.args.value) s.values.keys ≡ Some n = grind (arith, common_steps) in
    let lt : n < length cells = grind (arith, common_steps, s.has_cells) in
    let none : slice_index_or cells n Varying ≡ Unknown = grind (arith, common_steps) in
    let count = count_taken cells n c.len.result none in
    let more = c.push_reserved.new.self.items in
    let items : more ≡ constants ++ c.args.attr ∷ [] = c.push_reserved.ensures.items in
    let len : c.len.result ≡ length constants = grind (arith, common_steps) in
    let size : length more ≡ length constants + 1 = ap length items ∙ length_one constants c.args.attr in
    record {
      marked = s.marked;
      has_cells = length-set cells n (Known c.len.result) ∙ s.has_cells;
      queued = s.queued;
      block_numbers = s.block_numbers;
      value_numbers = s.value_numbers;
      blocks_wait = s.blocks_wait;
      values_wait = s.values_wait;
      blocks_once = s.blocks_once;
      values_once = s.values_once;
      blocks_room = s.blocks_room;
      values_room = s.values_room;
      values_few = s.values_few;
      known = λ q k e. ⊎_elim (λ same. omega (arith, size, len, number_is c.len.result k same)) (λ before. let l = s.known q k before in omega (arith, size, l)) (known_set cells n (Known c.len.result) q k e);
      constants_room = omega (arith, size, count, s.constants_room, c.push_reserved.ensures.capacity);
      has_visit_stamps = s.has_visit_stamps;
      stamped = s.stamped;
      past = s.past;
    }

pub returns-in-Undetermined : goal.returns-in-Undetermined
returns-in-Undetermined c =
    let s = c.args.self.now in
    let n = c.in-Some.n in
    let cells = s.cells.items in
    let constants = s.constants.items in
    let at : position (nat_eq c.args.value) s.values.keys ≡ Some n = grind (arith, common_steps) in
    let lt : n < length cells = grind (arith, common_steps, s.has_cells) in
    let none : slice_index_or cells n Varying ≡ Unknown = grind (arith, common_steps) in
    let count = count_taken cells n c.len.result none in
    let more = c.push_reserved.new.self.items in
    let items : more ≡ constants ++ c.args.attr ∷ [] = c.push_reserved.ensures.items in
    let len : c.len.result ≡ length constants = grind (arith, common_steps) in
    let new : LatticeCell = Known c.len.result in
    let kept : KeepsConstants constants more = subst (KeepsConstants constants) (sym items) (keeps_more constants c.args.attr) in
    let got : slice_get more c.len.result ≡ Some c.args.attr = ap (λ z. slice_get z c.len.result) items ∙ ap (slice_get (constants ++ c.args.attr ∷ [])) len ∙ last_constant constants c.args.attr in
    falls_then s c.push_value.new.self c.args.value n (Constant c.args.attr) (Constant c.args.attr) c.push_value.ensures at refl
    (written_here constants cells s.values.keys c.args.value n new at lt more ∙ ap constant_or got)
    (λ v e. ap (value_of_cell more) (written_there constants cells s.values.keys c.args.value n new at lt v e) ∙ said_kept constants more kept (cell_at cells (position (nat_eq v) s.values.keys)) (means_at constants cells s.known (position (nat_eq v) s.values.keys)))
    (λ v. refl) (λ b. refl) (λ b. refl) (λ b. refl) (record { visit_stamps = λ v. refl; lowered = λ v. refl }) kept
    (fall_first c.args.attr (lattice_value_in s c.args.value) (ap (λ o. value_of_cell constants (cell_at cells o)) at ∙ ap (value_of_cell constants) none))

pub index-requires-in-Constant : goal.index-requires-in-Constant
index-requires-in-Constant c =
    let s = c.args.self.now in
    let n = c.in-Some.n in
    let cells = s.cells.items in
    let constants = s.constants.items in
    let at : position (nat_eq c.args.value) s.values.keys ≡ Some n = grind (arith, common_steps) in
    let lt : n < length cells = grind (arith, common_steps, s.has_cells) in
    let k = c.in-Constant.k in
    let is : slice_index_or cells n Varying ≡ Known k = grind (arith, common_steps) in
    let below = s.known n k (read_known cells n k is) in
    grind (arith, common_steps, below)

pub invariant_of-self-then-not-is_same : goal.invariant_of-self-then-not-is_same
invariant_of-self-then-not-is_same c =
    let s = c.args.self.now in
    let n = c.in-Some.n in
    let cells = s.cells.items in
    let constants = s.constants.items in
    let at : position (nat_eq c.args.value) s.values.keys ≡ Some n = grind (arith, common_steps) in
    let lt : n < length cells = grind (arith, common_steps, s.has_cells) in
    let count = count_kept cells n Varying refl in
    record {
      marked = s.marked;
      has_cells = length-set cells n Varying ∙ s.has_cells;
      queued = s.queued;
      block_numbers = s.block_numbers;
      value_numbers = s.value_numbers;
      blocks_wait = s.blocks_wait;
      values_wait = s.values_wait;
      blocks_once = s.blocks_once;
      values_once = s.values_once;
      blocks_room = s.blocks_room;
      values_room = s.values_room;
      values_few = s.values_few;
      known = λ q k e. ⊎_elim (λ same. absurd (no_constant k same)) (λ before. s.known q k before) (known_set cells n Varying q k e);
      constants_room = omega (arith, count, s.constants_room);
      has_visit_stamps = s.has_visit_stamps;
      stamped = s.stamped;
      past = s.past;
    }

pub returns-then-not-is_same : goal.returns-then-not-is_same
returns-then-not-is_same c =
    let s = c.args.self.now in
    let n = c.in-Some.n in
    let cells = s.cells.items in
    let constants = s.constants.items in
    let at : position (nat_eq c.args.value) s.values.keys ≡ Some n = grind (arith, common_steps) in
    let lt : n < length cells = grind (arith, common_steps, s.has_cells) in
    let k = c.in-Constant.k in
    let is : slice_index_or cells n Varying ≡ Known k = grind (arith, common_steps) in
    let below = s.known n k (read_known cells n k is) in
    let d = c.index-in-Constant.result.now in
    let first = get_at constants k d below in
    let got : slice_get constants k ≡ Some d = grind (arith, common_steps, first) in
    let f : lattice_value_in s c.args.value ≡ Constant d = ap (λ o. value_of_cell constants (cell_at cells o)) at ∙ ap (value_of_cell constants) is ∙ ap constant_or got in
    falls_then s c.push_value-then-not-is_same.new.self c.args.value n (Constant c.args.attr) NotAConstant c.push_value-then-not-is_same.ensures at refl
    (written_here constants cells s.values.keys c.args.value n Varying at lt constants)
    (λ v e. ap (value_of_cell constants) (written_there constants cells s.values.keys c.args.value n Varying at lt v e))
    (λ v. refl) (λ b. refl) (λ b. refl) (λ b. refl) (record { visit_stamps = λ v. refl; lowered = λ v. refl }) (λ j a e. e)
    (fall_apart c.args.attr d (lattice_value_in s c.args.value) f (λ e. true≢false (sym (c.is_same.ensures.1 e) ∙ c.if-not-is_same.true)))

pub returns-in-Constant : goal.returns-in-Constant
returns-in-Constant c =
    let s = c.args.self.now in
    let n = c.in-Some.n in
    let cells = s.cells.items in
    let constants = s.constants.items in
    let at : position (nat_eq c.args.value) s.values.keys ≡ Some n = grind (arith, common_steps) in
    let lt : n < length cells = grind (arith, common_steps, s.has_cells) in
    let k = c.in-Constant.k in
    let is : slice_index_or cells n Varying ≡ Known k = grind (arith, common_steps) in
    let below = s.known n k (read_known cells n k is) in
    let d = c.index-in-Constant.result.now in
    let first = get_at constants k d below in
    let got : slice_get constants k ≡ Some d = grind (arith, common_steps, first) in
    let f : lattice_value_in s c.args.value ≡ Constant d = ap (λ o. value_of_cell constants (cell_at cells o)) at ∙ ap (value_of_cell constants) is ∙ ap constant_or got in
    stays_low c.args.value (Constant c.args.attr) s (inr (inr (f ∙ ap Constant (c.is_same.ensures.0 c.if-not-is_same.false))))

use Rattle.std.proofs.Common.{◌≡◌, ◌<◌, nat_eq, Some, length, refl, sym, ap, ◌∙◌, ⊎_elim, subst, arith, slice_index_or}
use Rattle.std.proofs.lemmas.Grind.{common_steps}
use Rattle.std.specs.List.{position}
use Rattle.std.proofs.lemmas.List.{length-set}
use Rattle.pliron_opt_sccp.specs.declared.lattice_tables.LatticeCell.TheVariants.{NotAConstant as Varying}
use Rattle.pliron_opt_sccp.specs.LatticeCells.{cell_at, value_of_cell, Means}
use Rattle.pliron_opt_sccp.specs.LatticeTables.{lattice_value_in, LowersTo}
use Rattle.pliron_opt_sccp.proofs.Worklists.{get_at}
use Rattle.pliron_opt_sccp.proofs.Written.{means_at, means_said, means_below, known_set, count_kept, stays_low, falls_then, fall_known, third, none_of, written_here, written_there}
use Rattle.pliron_opt_sccp.proofs.lattice_tables.Tables.lower.Goals as goal

pub lowered_value-requires-clause-old : goal.lowered_value-requires-clause-old
lowered_value-requires-clause-old c =
    let s = c.args.self.now in
    let n = c.in-Some.n in
    let cells = s.cells.items in
    let constants = s.constants.items in
    let at : position (nat_eq c.args.value) s.values.keys ≡ Some n = grind (arith, common_steps) in
    let lt : n < length cells = grind (arith, common_steps, s.has_cells) in
    let first = get_at cells n c.index.result.now lt in
    let other = get_at cells n Varying lt in
    let is : slice_index_or cells n Varying ≡ c.index.result.now = grind (arith, common_steps, first, other) in
    let f = lattice_value_in s c.args.value in
    let old : Means constants c.index.result.now f = subst (λ o. Means constants c.index.result.now (value_of_cell constants (cell_at cells o))) (sym at) (subst (λ z. Means constants z (value_of_cell constants (slice_index_or cells n Varying))) is (means_at constants cells s.known (Some n))) in
    (f, old)

pub returns-in_default-lowered_value : goal.returns-in_default-lowered_value
returns-in_default-lowered_value c = λ g m.
    let s = c.args.self.now in
    let n = c.in-Some.n in
    let cells = s.cells.items in
    let constants = s.constants.items in
    let at : position (nat_eq c.args.value) s.values.keys ≡ Some n = grind (arith, common_steps) in
    let lt : n < length cells = grind (arith, common_steps, s.has_cells) in
    let first = get_at cells n c.index.result.now lt in
    let other = get_at cells n Varying lt in
    let is : slice_index_or cells n Varying ≡ c.index.result.now = grind (arith, common_steps, first, other) in
    let f = lattice_value_in s c.args.value in
    let old : Means constants c.index.result.now f = subst (λ o. Means constants c.index.result.now (value_of_cell constants (cell_at cells o))) (sym at) (subst (λ z. Means constants z (value_of_cell constants (slice_index_or cells n Varying))) is (means_at constants cells s.known (Some n))) in
    stays_low c.args.value g s (none_of c.lowered_value.result c.in_default-lowered_value.is c.lowered_value.ensures.stays f g old m)

pub invariant_of-self : goal.invariant_of-self
invariant_of-self c =
    let s = c.args.self.now in
    let n = c.in-Some.n in
    let cells = s.cells.items in
    let constants = s.constants.items in
    let at : position (nat_eq c.args.value) s.values.keys ≡ Some n = grind (arith, common_steps) in
    let lt : n < length cells = grind (arith, common_steps, s.has_cells) in
    let first = get_at cells n c.index.result.now lt in
    let other = get_at cells n Varying lt in
    let is : slice_index_or cells n Varying ≡ c.index.result.now = grind (arith, common_steps, first, other) in
    let f = lattice_value_in s c.args.value in
    let old : Means constants c.index.result.now f = subst (λ o. Means constants c.index.result.now (value_of_cell constants (cell_at cells o))) (sym at) (subst (λ z. Means constants z (value_of_cell constants (slice_index_or cells n Varying))) is (means_at constants cells s.known (Some n))) in
    let new = c.in-Some-lowered_value.new in
    let g = c.requires.0 in
    let fall = c.in-Some-lowered_value.ensures.lowered f g old c.requires.1 in
    let means : Means constants new fall.0 = fall.1 in
    let down : LowersTo f g fall.0 = third {B = λ m. Means constants new m} {C = λ m. LowersTo f g m} fall in
    let count = count_kept cells n new (fall_known constants new f g fall.0 means down) in
    record {
      marked = s.marked;
      has_cells = length-set cells n new ∙ s.has_cells;
      queued = s.queued;
      block_numbers = s.block_numbers;
      value_numbers = s.value_numbers;
      blocks_wait = s.blocks_wait;
      values_wait = s.values_wait;
      blocks_once = s.blocks_once;
      values_once = s.values_once;
      blocks_room = s.blocks_room;
      values_room = s.values_room;
      values_few = s.values_few;
      known = λ q k e. ⊎_elim (λ same. means_below constants k fall.0 (subst (λ z. Means constants z fall.0) same means)) (λ before. s.known q k before) (known_set cells n new q k e);
      constants_room = omega (arith, count, s.constants_room);
      has_visit_stamps = s.has_visit_stamps;
      stamped = s.stamped;
      past = s.past;
    }

pub returns : goal.returns
returns c = λ g m.
    let s = c.args.self.now in
    let n = c.in-Some.n in
    let cells = s.cells.items in
    let constants = s.constants.items in
    let at : position (nat_eq c.args.value) s.values.keys ≡ Some n = grind (arith, common_steps) in
    let lt : n < length cells = grind (arith, common_steps, s.has_cells) in
    let first = get_at cells n c.index.result.now lt in
    let other = get_at cells n Varying lt in
    let is : slice_index_or cells n Varying ≡ c.index.result.now = grind (arith, common_steps, first, other) in
    let f = lattice_value_in s c.args.value in
    let old : Means constants c.index.result.now f = subst (λ o. Means constants c.index.result.now (value_of_cell constants (cell_at cells o))) (sym at) (subst (λ z. Means constants z (value_of_cell constants (slice_index_or cells n Varying))) is (means_at constants cells s.known (Some n))) in
    let new = c.in-Some-lowered_value.new in
    let fall = c.in-Some-lowered_value.ensures.lowered f g old m in
    let means : Means constants new fall.0 = fall.1 in
    let down : LowersTo f g fall.0 = third {B = λ m. Means constants new m} {C = λ m. LowersTo f g m} fall in
    falls_then s c.push_value.new.self c.args.value n g fall.0 c.push_value.ensures at refl
    (written_here constants cells s.values.keys c.args.value n new at lt constants ∙ means_said constants new fall.0 means)
    (λ v e. ap (value_of_cell constants) (written_there constants cells s.values.keys c.args.value n new at lt v e))
    (λ v. refl) (λ b. refl) (λ b. refl) (λ b. refl) (record { visit_stamps = λ v. refl; lowered = λ v. refl }) (λ k a e. e) down

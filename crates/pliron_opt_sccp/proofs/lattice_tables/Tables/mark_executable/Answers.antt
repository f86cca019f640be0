use Rattle.std.proofs.Common.{◌≡◌, ◌<◌, ◌≤◌, nat_eq, Some, length, refl, sym, ap, ◌∙◌, subst, arith, slice_index_or}
use Rattle.std.proofs.lemmas.Grind.{common_steps}
use Rattle.std.specs.List.{list_any, position}
use Rattle.std.proofs.lemmas.List.{length-set}
use Rattle.pliron_opt_sccp.specs.declared.lattice_tables.BlockState.TheVariants.{NotExecutable, Waiting}
use Rattle.pliron_opt_sccp.specs.LatticeCells.{AreOnce, is_waiting}
use Rattle.pliron_core.proofs.HoldingLemmas.{not_none, slice_in}
use Rattle.pliron_opt_sccp.proofs.Worklists.{any_in, within, room_left, pushed_waits, once_added}
use Rattle.pliron_opt_sccp.proofs.Marked.{reached_entered, waits_entered}
use Rattle.pliron_opt_sccp.proofs.lattice_tables.Tables.mark_executable.Goals as goal

pub unreachable-requires : goal.unreachable-requires
unreachable-requires c =
    let s = c.args.self.now in
    let p = slice_in s.blocks.keys c.args.block (any_in c.args.block s.blocks.keys c.requires) in
    not_none (sym c.in_default.is ∙ c.block_number.ensures.index ∙ s.block_numbers p.0 c.args.block p.1)

pub push_reserved-requires : goal.push_reserved-requires
push_reserved-requires c =
    let s = c.args.self.now in
    let n = c.in-Some.n in
    let none : slice_index_or s.marks.items n NotExecutable ≡ NotExecutable = grind (arith, common_steps) in
    let lt : n < length s.marks.items = grind (arith, common_steps, s.marked) in
    let left = room_left s.block_worklist.items (length s.marks.items) n s.blocks_once (λ q e. within is_waiting NotExecutable refl s.marks.items q (sym (s.blocks_wait q) ∙ e)) (s.blocks_wait n ∙ ap is_waiting none) lt in
    grind (arith, common_steps, left, s.marked, s.blocks_room)

pub invariant_of-self : goal.invariant_of-self
invariant_of-self c =
    let s = c.args.self.now in
    let n = c.in-Some.n in
    let none : slice_index_or s.marks.items n NotExecutable ≡ NotExecutable = grind (arith, common_steps) in
    let lt : n < length s.marks.items = grind (arith, common_steps, s.marked) in
    record {
      marked = length-set s.marks.items n Waiting ∙ s.marked;
      has_cells = s.has_cells;
      queued = s.queued;
      block_numbers = s.block_numbers;
      value_numbers = s.value_numbers;
      blocks_wait = λ q. ap (λ w. list_any (nat_eq q) w) c.push_reserved.ensures.items ∙ pushed_waits is_waiting NotExecutable Waiting s.marks.items s.block_worklist.items n lt refl s.blocks_wait q;
      values_wait = s.values_wait;
      blocks_once = subst AreOnce (sym c.push_reserved.ensures.items) (once_added s.block_worklist.items n s.blocks_once (s.blocks_wait n ∙ ap is_waiting none));
      values_once = s.values_once;
      blocks_room = subst (λ z. length s.blocks.keys ≤ z) (sym c.push_reserved.ensures.capacity) s.blocks_room;
      values_room = s.values_room;
      values_few = s.values_few;
      known = s.known;
      constants_room = s.constants_room;
      has_visit_stamps = s.has_visit_stamps;
      stamped = s.stamped;
      past = s.past;
    }

pub returns-in-NotExecutable : goal.returns-in-NotExecutable
returns-in-NotExecutable c =
    let s = c.args.self.now in
    let n = c.in-Some.n in
    let none : slice_index_or s.marks.items n NotExecutable ≡ NotExecutable = grind (arith, common_steps) in
    let lt : n < length s.marks.items = grind (arith, common_steps, s.marked) in
    let at : position (nat_eq c.args.block) s.blocks.keys ≡ Some n = grind (arith, common_steps) in
    record {
      reached = reached_entered s.marks.items s.blocks.keys c.args.block n at lt;
      blocks = waits_entered s.marks.items s.blocks.keys c.args.block n at lt none;
      numbers = λ b. refl;
      facts = λ v. refl;
      values = λ v. refl;
      stamps = record { visit_stamps = λ v. refl; lowered = λ v. refl };
      keeps = λ k a e. e;
    }

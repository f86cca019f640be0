use Rattle.std.proofs.Common.{◌≡◌, ◌<◌, ◌≤◌, nat_eq, length, refl, sym, ap, ◌∙◌, subst, true, false, arith, slice_index_or}
use Rattle.std.proofs.lemmas.Grind.{common_steps}
use Rattle.std.specs.List.{list_any}
use Rattle.std.proofs.lemmas.List.{length-set}
use Rattle.pliron_opt_sccp.specs.LatticeCells.{AreOnce}
use Rattle.pliron_opt_sccp.proofs.Worklists.{within, room_left, pushed_waits, once_added}
use Rattle.pliron_opt_sccp.proofs.lattice_tables.Tables.push_value.Goals as goal

pub push_reserved-requires : goal.push_reserved-requires
push_reserved-requires c =
    let s = c.args.self.now in
    let n = c.args.n in
    let none : slice_index_or s.values_on_worklist.items n false ≡ false = grind (arith, common_steps) in
    let lt : n < length s.values_on_worklist.items = grind (arith, common_steps, s.queued, c.requires) in
    let left = room_left s.value_worklist.items (length s.values_on_worklist.items) n s.values_once (λ q e. within (λ z. z) false refl s.values_on_worklist.items q (sym (s.values_wait q) ∙ e)) (s.values_wait n ∙ none) lt in
    grind (arith, common_steps, left, s.queued, s.values_room)

pub invariant_of-self : goal.invariant_of-self
invariant_of-self c =
    let s = c.args.self.now in
    let n = c.args.n in
    let none : slice_index_or s.values_on_worklist.items n false ≡ false = grind (arith, common_steps) in
    let lt : n < length s.values_on_worklist.items = grind (arith, common_steps, s.queued, c.requires) in
    record {
      marked = s.marked;
      has_cells = s.has_cells;
      queued = length-set s.values_on_worklist.items n true ∙ s.queued;
      block_numbers = s.block_numbers;
      value_numbers = s.value_numbers;
      blocks_wait = s.blocks_wait;
      values_wait = λ q. ap (λ w. list_any (nat_eq q) w) c.push_reserved.ensures.items ∙ pushed_waits (λ z. z) false true s.values_on_worklist.items s.value_worklist.items n lt refl s.values_wait q;
      blocks_once = s.blocks_once;
      values_once = subst AreOnce (sym c.push_reserved.ensures.items) (once_added s.value_worklist.items n s.values_once (s.values_wait n ∙ none));
      blocks_room = s.blocks_room;
      values_room = subst (λ z. length s.values.keys ≤ z) (sym c.push_reserved.ensures.capacity) s.values_room;
      values_few = s.values_few;
      known = s.known;
      constants_room = s.constants_room;
      has_visit_stamps = s.has_visit_stamps;
      stamped = length-set s.lowered_stamps.items n s.clock ∙ s.stamped;
      past = s.past;
    }

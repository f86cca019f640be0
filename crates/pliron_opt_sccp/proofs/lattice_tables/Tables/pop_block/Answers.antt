use Rattle.std.proofs.Common.{◌≡◌, ◌<◌, ◌≤◌, ◌∷◌, ◌++◌, [], nat_eq, Some, length, refl, sym, ap, ◌∙◌, subst, arith, slice_index_or, slice_get}
use Rattle.std.proofs.lemmas.Grind.{common_steps}
use Rattle.std.specs.List.{list_any, position}
use Rattle.std.proofs.lemmas.List.{length-set}
use Rattle.pliron_opt_sccp.specs.declared.lattice_tables.BlockState.TheVariants.{NotExecutable, Visited}
use Rattle.pliron_opt_sccp.specs.LatticeCells.{AreOnce, is_waiting, mark_at}
use Rattle.pliron_opt_sccp.proofs.Worklists.{within, last_in, get_at, popped_waits, once_popped}
use Rattle.pliron_opt_sccp.proofs.Marked.{waits_taken, reached_taken, waits_reached}
use Rattle.pliron_opt_sccp.proofs.lattice_tables.Tables.pop_block.Goals as goal

pub index_mut-requires : goal.index_mut-requires
index_mut-requires c =
    let s = c.args.self.now in
    let n = c.in_ok-n.n in
    let items : s.block_worklist.items ≡ c.pop.new.self.items ++ n ∷ [] = grind (arith, common_steps) in
    let l = within is_waiting NotExecutable refl s.marks.items n (sym (s.blocks_wait n) ∙ ap (list_any (nat_eq n)) items ∙ last_in n c.pop.new.self.items) in
    grind (arith, common_steps, l)

pub invariant_of-self-2 : goal.invariant_of-self-2
invariant_of-self-2 c =
    let s = c.args.self.now in
    let n = c.in_ok-n.n in
    let items : s.block_worklist.items ≡ c.pop.new.self.items ++ n ∷ [] = grind (arith, common_steps) in
    let lt = within is_waiting NotExecutable refl s.marks.items n (sym (s.blocks_wait n) ∙ ap (list_any (nat_eq n)) items ∙ last_in n c.pop.new.self.items) in
    let once = subst AreOnce items s.blocks_once in
    record {
      marked = length-set s.marks.items n Visited ∙ s.marked;
      has_cells = s.has_cells;
      queued = s.queued;
      block_numbers = s.block_numbers;
      value_numbers = s.value_numbers;
      blocks_wait = popped_waits is_waiting NotExecutable Visited s.marks.items c.pop.new.self.items n lt refl once (λ q. ap (list_any (nat_eq q)) (sym items) ∙ s.blocks_wait q);
      values_wait = s.values_wait;
      blocks_once = once_popped c.pop.new.self.items n once;
      values_once = s.values_once;
      blocks_room = subst (λ z. length s.blocks.keys ≤ z) (sym c.pop.ensures.capacity) s.blocks_room;
      values_room = s.values_room;
      values_few = s.values_few;
      known = s.known;
      constants_room = s.constants_room;
      has_visit_stamps = s.has_visit_stamps;
      stamped = s.stamped;
      past = s.past;
    }

pub returns-clause-taken : goal.returns-clause-taken
returns-clause-taken c =
    let s = c.args.self.now in
    let n = c.in_ok-n.n in
    let items : s.block_worklist.items ≡ c.pop.new.self.items ++ n ∷ [] = grind (arith, common_steps) in
    let waited = sym (s.blocks_wait n) ∙ ap (list_any (nat_eq n)) items ∙ last_in n c.pop.new.self.items in
    let lt = within is_waiting NotExecutable refl s.marks.items n waited in
    let block = c.index-as_slice-n.result in
    let inside : n < length s.blocks.keys = subst (λ z. n < z) s.marked lt in
    let first = get_at s.blocks.keys n block inside in
    let is = c.index-as_slice-n.is in
    let keys = c.as_slice.ensures.keys in
    let got : slice_get s.blocks.keys n ≡ Some block = grind (arith, first, is, keys) in
    let at : position (nat_eq block) s.blocks.keys ≡ Some n = s.block_numbers n block got in
    record {
      waited = ap (λ o. is_waiting (mark_at s.marks.items o)) at ∙ waited;
      blocks = waits_taken s.marks.items s.blocks.keys block n at lt;
      reached = reached_taken s.marks.items s.blocks.keys block n at lt (waits_reached (slice_index_or s.marks.items n NotExecutable) waited);
      facts = λ v. refl;
      values = λ v. refl;
      numbers = λ b. refl;
      stamps = record { visit_stamps = λ v. refl; lowered = λ v. refl };
    }

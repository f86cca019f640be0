use Rattle.std.proofs.Common.{◌≡◌, ◌<◌, ◌≤◌, ◌∷◌, ◌++◌, [], nat_eq, Some, length, refl, sym, ap, ◌∙◌, subst, false, arith, slice_get}
use Rattle.std.proofs.lemmas.Grind.{common_steps}
use Rattle.std.specs.List.{list_any, position}
use Rattle.std.proofs.lemmas.List.{length-set}
use Rattle.pliron_opt_sccp.specs.LatticeCells.{AreOnce, is_lowered_at}
use Rattle.pliron_opt_sccp.proofs.Worklists.{within, last_in, get_at, read_set, popped_waits, once_popped, few_once, length_one}
use Rattle.pliron_opt_sccp.proofs.lattice_tables.Tables.pop_value.Goals as goal

pub index_mut-requires : goal.index_mut-requires
index_mut-requires c =
    let s = c.args.self.now in
    let n = c.in_ok-n.n in
    let items : s.value_worklist.items ≡ c.pop.new.self.items ++ n ∷ [] = grind (arith, common_steps) in
    let l = within (λ z. z) false refl s.values_on_worklist.items n (sym (s.values_wait n) ∙ ap (list_any (nat_eq n)) items ∙ last_in n c.pop.new.self.items) in
    grind (arith, common_steps, l)

pub invariant_of-self-2 : goal.invariant_of-self-2
invariant_of-self-2 c =
    let s = c.args.self.now in
    let n = c.in_ok-n.n in
    let items : s.value_worklist.items ≡ c.pop.new.self.items ++ n ∷ [] = grind (arith, common_steps) in
    let lt = within (λ z. z) false refl s.values_on_worklist.items n (sym (s.values_wait n) ∙ ap (list_any (nat_eq n)) items ∙ last_in n c.pop.new.self.items) in
    let once = subst AreOnce items s.values_once in
    record {
      marked = s.marked;
      has_cells = s.has_cells;
      queued = length-set s.values_on_worklist.items n false ∙ s.queued;
      block_numbers = s.block_numbers;
      value_numbers = s.value_numbers;
      blocks_wait = s.blocks_wait;
      values_wait = popped_waits (λ z. z) false false s.values_on_worklist.items c.pop.new.self.items n lt refl once (λ q. ap (list_any (nat_eq q)) (sym items) ∙ s.values_wait q);
      blocks_once = s.blocks_once;
      values_once = once_popped c.pop.new.self.items n once;
      blocks_room = s.blocks_room;
      values_room = subst (λ z. length s.values.keys ≤ z) (sym c.pop.ensures.capacity) s.values_room;
      values_few = s.values_few;
      known = s.known;
      constants_room = s.constants_room;
      has_visit_stamps = s.has_visit_stamps;
      stamped = s.stamped;
      past = s.past;
    }

pub returns-clause-taken : goal.returns-clause-taken
returns-clause-taken c =
    let s = c.args.self.now in
    let n = c.in_ok-n.n in
    let items : s.value_worklist.items ≡ c.pop.new.self.items ++ n ∷ [] = grind (arith, common_steps) in
    let waited = sym (s.values_wait n) ∙ ap (list_any (nat_eq n)) items ∙ last_in n c.pop.new.self.items in
    let lt = within (λ z. z) false refl s.values_on_worklist.items n waited in
    let value = c.index-as_slice-n.result in
    let inside : n < length s.values.keys = subst (λ z. n < z) s.queued lt in
    let first = get_at s.values.keys n value inside in
    let is = c.index-as_slice-n.is in
    let keys = c.as_slice.ensures.keys in
    let got : slice_get s.values.keys n ≡ Some value = grind (arith, first, is, keys) in
    let at : position (nat_eq value) s.values.keys ≡ Some n = s.value_numbers n value got in
    let most = few_once s.value_worklist.items (length s.values_on_worklist.items) s.values_once (λ q e. within (λ z. z) false refl s.values_on_worklist.items q (sym (s.values_wait q) ∙ e)) in
    record {
      waited = ap (λ o. is_lowered_at s.values_on_worklist.items o) at ∙ waited;
      values = read_set false false s.values_on_worklist.items s.values.keys value n at lt;
      facts = λ v. refl;
      reached = λ b. refl;
      blocks = λ b. refl;
      numbers = λ b. refl;
      constants = refl;
      stamps = record { visit_stamps = λ v. refl; lowered = λ v. refl };
      fewer = ap length items ∙ length_one c.pop.new.self.items n;
      few = omega (arith, s.values_few, s.queued, most);
    }

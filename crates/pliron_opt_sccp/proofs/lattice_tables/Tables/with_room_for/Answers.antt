use Rattle.std.proofs.Common.{◌≡◌, [], nat_eq, length, refl, sym, ap, ◌∙◌, subst, false, arith}
use Rattle.std.proofs.lemmas.Grind.{common_steps}
use Rattle.std.specs.List.{list_any, position}
use Rattle.pliron_opt_sccp.specs.declared.lattice_tables.BlockState.TheVariants.{NotExecutable}
use Rattle.pliron_opt_sccp.specs.declared.lattice_tables.LatticeCell.TheVariants.{Undetermined as Unknown}
use Rattle.pliron_opt_sccp.specs.LatticeCells.{AreOnce, is_marked_executable, is_waiting}
use Rattle.pliron_opt_sccp.proofs.Worklists.{once_from}
use Rattle.pliron_opt_sccp.proofs.Fresh.{numbered_at, fresh_at, fresh_read, fresh_fact, count_most, none_known}
use Rattle.pliron_opt_sccp.proofs.lattice_tables.Tables.with_room_for.Goals as goal

pub invariant_of-result : goal.invariant_of-result
invariant_of-result c =
    let blocks = c.args.blocks.keys in
    let values = c.args.values.keys in
    let tables = c.in_ok-block_numbers.field-0 in
    let e = c.in_ok-block_numbers.ensures.ok in
    let distinct_blocks = c.in_ok-block_numbers.ensures.blocks in
    let of_values = c.in_ok-block_numbers.ensures.values in
    let marked : length tables.marks.items ≡ length blocks = grind (arith, common_steps) in
    let cells : length tables.lattice.cells.items ≡ length values = grind (arith, common_steps) in
    let flags : length tables.lattice.on_worklist.items ≡ length values = grind (arith, common_steps) in
    let visits : length tables.stamps.visits.items ≡ length values = grind (arith, common_steps) in
    let lowered : length tables.stamps.lowered.items ≡ length values = grind (arith, common_steps) in
    let none = ap length e.constants in
    let most = count_most tables.lattice.cells.items in
    record {
      marked = marked;
      has_cells = cells;
      queued = flags;
      block_numbers = λ n b at. numbered_at blocks distinct_blocks n b at;
      value_numbers = λ n v at. numbered_at values of_values.0 n v at;
      blocks_wait = λ n. ap (list_any (nat_eq n)) e.block_worklist ∙ sym (ap is_waiting (fresh_at NotExecutable (length blocks) tables.marks.items e.marks marked n));
      values_wait = λ n. ap (list_any (nat_eq n)) e.value_worklist ∙ sym (fresh_at false (length values) tables.lattice.on_worklist.items e.none_waits flags n);
      blocks_once = subst AreOnce (sym e.block_worklist) (once_from [] tt);
      values_once = subst AreOnce (sym e.value_worklist) (once_from [] tt);
      blocks_room = e.block_room;
      values_room = e.value_room;
      values_few = of_values.1;
      known = λ n k at. absurd (none_known tables.lattice.cells.items (λ i. fresh_at Unknown (length values) tables.lattice.cells.items e.cells cells i) n k at);
      constants_room = omega (arith, none, most, cells, e.constant_room);
      has_visit_stamps = visits;
      stamped = lowered;
      past = λ n. let z = fresh_at 0 (length values) tables.stamps.visits.items e.visits visits n in omega (arith, z);
    }

pub returns-clause-ok : goal.returns-clause-ok
returns-clause-ok c =
    let blocks = c.args.blocks.keys in
    let values = c.args.values.keys in
    let tables = c.in_ok-block_numbers.field-0 in
    let e = c.in_ok-block_numbers.ensures.ok in
    let marked : length tables.marks.items ≡ length blocks = grind (arith, common_steps) in
    let cells : length tables.lattice.cells.items ≡ length values = grind (arith, common_steps) in
    let flags : length tables.lattice.on_worklist.items ≡ length values = grind (arith, common_steps) in
    record {
      numbers = λ b. refl;
      reached = λ b. ap is_marked_executable (fresh_read NotExecutable (length blocks) tables.marks.items e.marks marked (position (nat_eq b) blocks));
      facts = fresh_fact tables.lattice.constants.items values tables.lattice.cells.items c.in_ok-block_numbers.ensures.values.0 (λ i. fresh_at Unknown (length values) tables.lattice.cells.items e.cells cells i) cells;
      blocks_wait = λ b. ap is_waiting (fresh_read NotExecutable (length blocks) tables.marks.items e.marks marked (position (nat_eq b) blocks));
      values_wait = λ v. fresh_read false (length values) tables.lattice.on_worklist.items e.none_waits flags (position (nat_eq v) values);
    }

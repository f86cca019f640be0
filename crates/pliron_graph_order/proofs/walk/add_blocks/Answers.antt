use Rattle.std.proofs.Common.{◌≡◌, ◌≢◌, ◌<◌, ◌≤◌, ◌∙◌, ◌+◌, ◌++◌, ◌∷◌, [], ℕ, length, length-append, get_or, sym, ap, subst, ⊎_elim, refl, arith}
use Rattle.std.proofs.lemmas.List.{get_or_default}
use Rattle.std.proofs.Math.Seq.{get_or-append_seam}
use Rattle.pliron_core.specs.Tree.{body_of}
use Rattle.pliron_graph_dominance.specs.ParentTables.{parent_by}
use Rattle.pliron_graph_dominance.proofs.TableLemmas.{decide}
use Rattle.pliron_graph_order.specs.Numbering.{tables_of, AreTaken, IsLeftAt, GivesBefore}
use Rattle.pliron_graph_order.specs.Behind.{IsBehind}
use Rattle.pliron_graph_order.specs.Seen.{IsOnPathIn}
use Rattle.pliron_graph_order.proofs.NumberLemmas.{get_front, grows_both, waiting_on, left_on, taken_on}
use Rattle.pliron_graph_order.proofs.TreeLemmas.{node_reached, node_low, node_tells}
use Rattle.pliron_graph_order.proofs.walk.add_blocks.Goals as goal

pub add_block-requires-clause-entered : goal.add_block-requires-clause-entered
add_block-requires-clause-entered c =
    let t = c.args.ctx.now.tree in
    let tree = c.args.tree.now in
    let is_waiting = c.requires.is_waiting in
    let h = c.well_formed-3.ensures in
    let k = c.loop-number.number in
    let n = tables_of c.loop-number.numbering in
    let waits = waiting_on t (tables_of c.args.numbering.now) n c.loop-number.invariant.grows c.requires.numbered.counted c.requires.numbered.parents is_waiting.0 c.args.above is_waiting.1 in
    let lt : k < length tree.nodes = omega (arith, c.loop-number-test.true, c.count-number-end.ensures, h.counted) in
    let node : get_or tree.nodes k 0 ≡ c.node_at.result = get_or_default tree.nodes k 0 c.node_at.result lt ∙ sym c.node_at.ensures in
    let early : k ≢ 0 → parent_by tree.parents k < k = λ ne. (h.parents (omega (arith, lt))).earlier k (omega (arith, lt, h.counted)) ne in
    let from : k ≢ 0 → c.number_before-from.result ≡ get_or c.loop-number.ends.items (parent_by tree.parents k) 0 = λ ne. c.number_before-from.ensures.up ne ∙ ap (λ z. get_or z (parent_by tree.parents k) 0) c.deref.ensures.value in
    let left : k ≢ 0 → IsLeftAt t n (get_or tree.nodes (parent_by tree.parents k) 0) (body_of t (get_or tree.nodes (parent_by tree.parents k) 0)) c.number_before-from.result =
    λ ne. subst (IsLeftAt t n (get_or tree.nodes (parent_by tree.parents k) 0) (body_of t (get_or tree.nodes (parent_by tree.parents k) 0))) (sym (from ne)) (c.loop-number.invariant.left (parent_by tree.parents k) (early ne)) in (
      is_waiting.0,
      record {
        visited = waits.visited;
        lawful = waits.lawful;
        dominance = is_waiting.2;
        reached = subst (λ z. IsOnPathIn t is_waiting.0 z) node (node_reached t is_waiting.0 waits.lawful tree h is_waiting.3 k lt);
        low = node_low t is_waiting.0 waits.lawful tree h is_waiting.3 n c.args.above waits k lt c.number_before-from.result c.number_before-from.ensures.top left;
        before = subst (λ z. GivesBefore t n c.number_before-from.result (IsBehind t is_waiting.0 z [])) node (node_tells t is_waiting.0 waits.lawful tree h is_waiting.3 n c.args.above waits k lt c.number_before-from.result c.number_before-from.ensures.top left);
      },
    )

pub loop-number-preserved : goal.loop-number-preserved
loop-number-preserved c =
    let t = c.args.ctx.now.tree in
    let tree = c.args.tree.now in
    let h = c.well_formed-3.ensures in
    let k = c.loop-number.number in
    let old = tables_of c.loop-number.numbering in
    let new = tables_of c.add_block.new.numbering in
    let inv = c.loop-number.invariant in
    let lt : k < length tree.nodes = omega (arith, c.loop-number-test.true, c.count-number-end.ensures, h.counted) in
    let node : c.node_at.result ≡ get_or tree.nodes k 0 = c.node_at.ensures ∙ get_or_default tree.nodes k c.node_at.result 0 lt in
    let last : get_or c.push.new.self.items k 0 ≡ c.in_ok-end.end = ap (λ z. get_or z k 0) c.in_ok-push.ensures.items ∙ ap (λ z. get_or (c.loop-number.ends.items ++ c.in_ok-end.end ∷ []) z 0) (sym inv.counted) ∙ get_or-append_seam c.loop-number.ends.items c.in_ok-end.end [] 0 in
    record {
      numbered = c.in_ok-end.ensures.numbered;
      grows = grows_both (tables_of c.args.numbering.now) old new inv.grows c.in_ok-end.ensures.grows;
      counted = omega (arith, ap length c.in_ok-push.ensures.items, length-append c.loop-number.ends.items (c.in_ok-end.end ∷ []), inv.counted);
      left = λ j lj. ⊎_elim
          (λ e.
          subst (λ z. IsLeftAt t new (get_or tree.nodes z 0) (body_of t (get_or tree.nodes z 0)) (get_or c.push.new.self.items z 0)) (sym e)
          (subst (IsLeftAt t new (get_or tree.nodes k 0) (body_of t (get_or tree.nodes k 0))) (sym last)
          (subst (λ z. IsLeftAt t new z (body_of t z) c.in_ok-end.end) node c.in_ok-end.ensures.left)))
          (λ ne.
          let l' : j < k = omega (arith, lj, ne) in
          subst (IsLeftAt t new (get_or tree.nodes j 0) (body_of t (get_or tree.nodes j 0))) (sym (get_front c.loop-number.ends.items (c.in_ok-end.end ∷ []) c.push.new.self.items j c.in_ok-push.ensures.items (omega (arith, l', inv.counted))))
          (left_on t old new c.in_ok-end.ensures.grows inv.numbered.counted inv.numbered.parents (get_or tree.nodes j 0) (body_of t (get_or tree.nodes j 0)) (get_or c.loop-number.ends.items j 0) (inv.left j l')))
          (decide j k);
      taken = λ j lj. ⊎_elim
          (λ e. subst (λ z. AreTaken t new (body_of t (get_or tree.nodes z 0))) (sym e) (subst (λ z. AreTaken t new (body_of t z)) node c.in_ok-end.ensures.taken))
          (λ ne. taken_on t old new (body_of t (get_or tree.nodes j 0)) c.in_ok-end.ensures.grows (inv.taken j (omega (arith, lj, ne))))
          (decide j k);
    }

pub returns-clause-taken : goal.returns-clause-taken
returns-clause-taken c = λ k lk. c.loop-number.invariant.taken k (omega (arith, lk, c.loop-number-test.false, c.count-number-end.ensures, c.well_formed-3.ensures.counted))

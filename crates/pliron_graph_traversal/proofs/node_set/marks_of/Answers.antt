use Rattle.std.proofs.Common.{◌≡◌, ◌+◌, ◌<◌, ◌≤◌, length, get_or, ap, sym, ◌∙◌, arith}
use Rattle.std.proofs.lemmas.List.{length-set}
use Rattle.pliron_graph_traversal.specs.Internal.Numbers.{number_hashed}
use Rattle.pliron_graph_traversal.proofs.NodeSetLemmas.{one_mark_more}
use Rattle.pliron_graph_traversal.proofs.node_set.marks_of.Goals as goal

pub loop-place-preserved : goal.loop-place-preserved
loop-place-preserved g c =
    let i = c.loop-place.invariant in
    let free : get_or c.loop-place.marks.items c.number_of-number.result 0 ≡ 0 =
    ap (λ d. get_or c.loop-place.marks.items c.number_of-number.result d) (sym c.if-index-ne0.false) ∙ sym c.index.ensures ∙ c.if-index-ne0.false in
    let within : c.number_of-number.result < length c.loop-place.marks.items = omega (arith, c.if-number-bound.false, i.counted) in
    record {
      counted = length-set c.loop-place.marks.items c.number_of-number.result (c.loop-place.place + 1) ∙ i.counted;
      gives = rw c.number_of-number.ensures (one_mark_more (λ v. number_hashed (g.N.Hash.hash_input v)) c.args.nodes.now c.loop-place.marks.items c.loop-place.place c.index-nodes-place.result c.loop-place-test.true c.index-nodes-place.is
          (rw c.number_of-number.ensures at within) (rw c.number_of-number.ensures at free) i.gives);
    }

pub returns-clause-gives : goal.returns-clause-gives
returns-clause-gives g c =
    let past : length c.args.nodes.now ≤ c.loop-place.place = omega (arith, c.loop-place-test.false) in
    λ k d l. c.loop-place.invariant.gives k d (omega (arith, l, past))

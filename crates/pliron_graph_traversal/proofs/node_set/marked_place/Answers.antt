use Rattle.std.proofs.Common.{rules, ◌≡◌, ◌+◌, ◌-◌, get_or, true, false, true≢false, ap, sym, ◌∙◌, arith}
use Rattle.std.proofs.lemmas.List.{get_or_default}
use Rattle.pliron_graph_traversal.specs.Internal.Numbers.{number_hashed}
use Rattle.pliron_graph_traversal.proofs.NodeSetLemmas.{place_marked, none_marked}
use Rattle.pliron_graph_traversal.proofs.node_set.marked_place.Goals as goal
use Rattle.pliron_graph_traversal.proofs.node_set.marked_place.Goals.{else-mark-gt0-via-then-mark-gt0+then-mark-nodes+else-eq, else-mark-gt0-via-then-mark-gt0+else-mark-nodes, else-mark-gt0-via-else-mark-gt0}

pub returns-then-eq : goal.returns-then-eq
returns-then-eq g c =
    let eq = g.N.PartialEq.eq in
    let mark : get_or c.args.marks.now (number_hashed (g.N.Hash.hash_input c.args.node.now)) 0 ≡ (c.mark_at-mark.result - 1) + 1 =
    ap (λ n. get_or c.args.marks.now n 0) (sym c.number_of-number.ensures) ∙ sym c.mark_at-mark.ensures ∙ omega (arith, c.if-mark-gt0.true) in
    let equal : eq c.args.node.now c.index-nodes-mark.result ≡ true = search rules in
    sym (place_marked eq (λ v. number_hashed (g.N.Hash.hash_input v)) (λ x y e. ap number_hashed (g.met.N.Hash.respects_eq x y e)) c.args.nodes.now c.args.marks.now c.requires c.args.node.now (c.mark_at-mark.result - 1) c.index-nodes-mark.result
    (omega (arith, c.if-mark-gt0.true, c.if-mark-nodes.true)) mark (sym (ap (λ w. eq c.args.node.now w) c.index-nodes-mark.is) ∙ equal))

pub returns : goal.returns
returns g c =
    let eq = g.N.PartialEq.eq in
    let mark : get_or c.args.marks.now (number_hashed (g.N.Hash.hash_input c.args.node.now)) 0 ≡ c.mark_at-mark.result =
    ap (λ n. get_or c.args.marks.now n 0) (sym c.number_of-number.ensures) ∙ sym c.mark_at-mark.ensures in
    sym (none_marked eq (λ v. number_hashed (g.N.Hash.hash_input v)) (λ x y e. ap number_hashed (g.met.N.Hash.respects_eq x y e)) c.args.nodes.now c.args.marks.now c.requires c.args.node.now (λ k l m e.
    let is : c.mark_at-mark.result ≡ k + 1 = sym mark ∙ m in
    elim c.else-mark-gt0.branch [
      | else-mark-gt0-via-then-mark-gt0+then-mark-nodes+else-eq w ↦
          let differs : eq c.args.node.now w.index-nodes-mark.result ≡ false = search rules in
          let there : c.mark_at-mark.result - 1 ≡ k = omega (arith, is) in
          let same : w.index-nodes-mark.result ≡ get_or c.args.nodes.now k c.args.node.now =
          w.index-nodes-mark.is ∙ ap (λ i. get_or c.args.nodes.now i w.index-nodes-mark.result) there ∙ get_or_default c.args.nodes.now k w.index-nodes-mark.result c.args.node.now l in
          true≢false (sym e ∙ sym (ap (λ x. eq c.args.node.now x) same) ∙ differs)
      | else-mark-gt0-via-then-mark-gt0+else-mark-nodes w ↦ omega (arith, w.if-mark-nodes.false, is, l)
      | else-mark-gt0-via-else-mark-gt0 w ↦ omega (arith, w.if-mark-gt0.false, is)
    ]))

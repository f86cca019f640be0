use Rattle.std.proofs.Common.{◌≤◌, sym, arith}
use Rattle.std.proofs.lemmas.List.Elements.{All-weaker}
use Rattle.std.proofs.Common.{take}
use Rattle.pliron_graph_traversal.specs.Search.{number_in}
use Rattle.pliron_graph_components.proofs.PreSentinelLemmas.{all_more, all_end}
use Rattle.pliron_graph_components.proofs.pre_sentinels.last_listed.Goals as goal

pub loop-node-preserved-then-place_of : goal.loop-node-preserved-then-place_of
loop-node-preserved-then-place_of g c =
    let eq = g.N.PartialEq.eq in
    let nodes = g.S.ListedSet.listed c.args.places.now in
    let low : number_in g.N.PartialEq.eq (g.S.ListedSet.listed c.args.places.now) c.node-item.result ≤ number_in g.N.PartialEq.eq (g.S.ListedSet.listed c.args.places.now) c.loop-node.last =
    omega (arith, c.if-place_of.true, c.place_of.ensures, c.place_of-in-loop-node.ensures) in
    record {
      among = c.loop-node.invariant.among;
      last = all_more (λ v. number_in eq nodes v ≤ number_in eq nodes c.loop-node.last) c.args.members.now c.loop-node.node-index c.node-item.result c.loop-node-test.true c.node-item.is c.loop-node.invariant.last low;
    }

pub loop-node-preserved : goal.loop-node-preserved
loop-node-preserved g c =
    let eq = g.N.PartialEq.eq in
    let nodes = g.S.ListedSet.listed c.args.places.now in
    let high : number_in g.N.PartialEq.eq (g.S.ListedSet.listed c.args.places.now) c.loop-node.last ≤ number_in g.N.PartialEq.eq (g.S.ListedSet.listed c.args.places.now) c.node-item.result =
    omega (arith, c.if-place_of.false, c.place_of.ensures, c.place_of-in-loop-node.ensures) in
    record {
      among = (c.loop-node.node-index, c.loop-node-test.true, sym c.node-item.is);
      last = all_more (λ v. number_in eq nodes v ≤ number_in eq nodes c.node-item.result) c.args.members.now c.loop-node.node-index c.node-item.result c.loop-node-test.true c.node-item.is
          (All-weaker (λ v. number_in eq nodes v ≤ number_in eq nodes c.loop-node.last) (λ v. number_in eq nodes v ≤ number_in eq nodes c.node-item.result) (λ v h. omega (arith, h, high)) (take c.loop-node.node-index c.args.members.now) c.loop-node.invariant.last)
          (omega arith);
    }

pub returns-clause-last : goal.returns-clause-last
returns-clause-last g c =
    let eq = g.N.PartialEq.eq in
    let nodes = g.S.ListedSet.listed c.args.places.now in
    all_end (λ v. number_in eq nodes v ≤ number_in eq nodes c.loop-node.last) c.args.members.now c.loop-node.node-index c.loop-node-test.false c.loop-node.invariant.last

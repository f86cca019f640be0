use Rattle.std.proofs.Common.{◌≤◌, length, sym, ◌∙◌, subst, arith}
use Rattle.std.proofs.lemmas.List.{length-set}
use Rattle.pliron_graph_traversal.specs.Search.{IsListed}
use Rattle.pliron_graph_traversal.proofs.PlaceLemmas.{listed_within}
use Rattle.pliron_graph_traversal.proofs.PlacesLeftLemmas.{one_more, all_told}
use Rattle.pliron_graph_traversal.proofs.traversal.places_left.Goals as goal

pub index_mut-requires : goal.index_mut-requires
index_mut-requires g c =
    let eq = g.N.PartialEq.eq in
    let pre = g.S.ListedSet.listed c.args.pre.now in
    let there : IsListed g.N.PartialEq.eq (g.S.ListedSet.listed c.args.pre.now) c.index-post-place.result =
    subst (IsListed g.N.PartialEq.eq (g.S.ListedSet.listed c.args.pre.now)) (sym c.index-post-place.is) (c.requires.listed c.loop-place.place c.index-post-place.result c.loop-place-test.true) in
    omega (arith, c.place_of.ensures, listed_within (eq c.index-post-place.result) pre there, c.loop-place.invariant.counted, c.loop-place.places.ok.0)

pub loop-place-preserved : goal.loop-place-preserved
loop-place-preserved g c =
    let eq = g.N.PartialEq.eq in
    let pre = g.S.ListedSet.listed c.args.pre.now in
    let post = c.args.post.now in
    let i = c.loop-place.invariant in
    record {
      counted = length-set c.loop-place.places.items c.place_of.result c.loop-place.place ∙ i.counted;
      gives = rw c.place_of.ensures (one_more eq g.met.N.Eq.laws c.requires.same pre post c.requires.distinct c.requires.listed c.loop-place.places.items c.loop-place.place c.index-post-place.result i.counted c.loop-place-test.true c.index-post-place.is i.gives);
    }

pub returns-clause-places : goal.returns-clause-places
returns-clause-places g c =
    let past : length c.args.post.now ≤ c.loop-place.place = omega (arith, c.loop-place-test.false) in
    all_told g.N.PartialEq.eq g.met.N.Eq.laws c.requires.same (g.S.ListedSet.listed c.args.pre.now) c.args.post.now c.requires.distinct c.loop-place.places.items (λ j d l. c.loop-place.invariant.gives j d (omega (arith, l, past)))

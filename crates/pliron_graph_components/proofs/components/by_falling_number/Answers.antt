use Rattle.std.proofs.Common.{rules, ◌≡◌, subst}
use Rattle.std.specs.List.Sorted.{IsPermutation}
use Rattle.std.proofs.lemmas.List.Sorted.{IsNonDecreasingBy-from_sort_by_key}
use Rattle.pliron_graph_traversal.specs.Search.{number_in}
use Rattle.pliron_graph_components.proofs.OrderLemmas.{reversed_same, reversed_falls}
use Rattle.pliron_graph_components.proofs.components.by_falling_number.Goals as goal

pub returns-clause-same_nodes : goal.returns-clause-same_nodes
returns-clause-same_nodes g c =
    let eq = g.N.PartialEq.eq in
    let order = g.S.ListedSet.listed c.args.order.now in
    let items : c.extend_from_slice.new.self.items ≡ c.args.nodes.now = search rules in
    let perm : IsPermutation c.args.nodes.now c.sort_unstable_by_key.new.self.items = subst (λ xs. IsPermutation xs c.sort_unstable_by_key.new.self.items) items c.sort_unstable_by_key.ensures.permutation in
    rw c.reverse.ensures.items (reversed_same eq g.met.N.Eq.laws c.requires.same order c.args.nodes.now c.sort_unstable_by_key.new.self.items perm)

pub returns-clause-descends : goal.returns-clause-descends
returns-clause-descends g c =
    let eq = g.N.PartialEq.eq in
    let order = g.S.ListedSet.listed c.args.order.now in
    let items : c.extend_from_slice.new.self.items ≡ c.args.nodes.now = search rules in
    let perm : IsPermutation c.args.nodes.now c.sort_unstable_by_key.new.self.items = subst (λ xs. IsPermutation xs c.sort_unstable_by_key.new.self.items) items c.sort_unstable_by_key.ensures.permutation in
    let rises = IsNonDecreasingBy-from_sort_by_key (number_in g.N.PartialEq.eq (g.S.ListedSet.listed c.args.order.now)) _ c.sort_unstable_by_key.ensures.sorted (λ a r q k. search rules) in
    rw c.reverse.ensures.items (reversed_falls eq g.met.N.Eq.laws c.requires.same order c.args.nodes.now c.sort_unstable_by_key.new.self.items perm c.requires.distinct c.requires.listed rises)

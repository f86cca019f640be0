use Rattle.std.proofs.Common.{◌↔◌, Contains, OnOk, sym, subst}
use Rattle.std.specs.List.{IsDistinct}
use Rattle.pliron_graph_components.proofs.PickLemmas.{rest_of, drop_distinct}
use Rattle.pliron_graph_components.proofs.components.last_by_falling_number.Goals as goal

pub by_falling_number-requires-clause-distinct : goal.by_falling_number-requires-clause-distinct
by_falling_number-requires-clause-distinct g c =
    let eq = g.N.PartialEq.eq in
    let held = g.S.ListedSet.listed c.args.held.now in
    subst (IsDistinct eq) (sym (rest_of c.as_slice.result.now held c.args.first c.as_slice.ensures.keys)) (drop_distinct eq c.args.first held c.requires.distinct)

pub returns-then-len-first-clause-same_nodes : goal.returns-then-len-first-clause-same_nodes
returns-then-len-first-clause-same_nodes g c =
    let held = g.S.ListedSet.listed c.args.held.now in
    subst (λ xs. OnOk c.by_falling_number.result ((v : g.row.N.Denot) → (Contains c.by_falling_number.new.sorted.items v ↔ Contains xs v)))
    (rest_of c.as_slice.result.now held c.args.first c.as_slice.ensures.keys) c.by_falling_number.ensures.same_nodes

use Rattle.std.proofs.Common.{◌∷◌, [], nat_eq, ◌&&◌, true, inl, inr, refl}
use Rattle.pliron_core.proofs.ListLemmas.{In-right}
use Rattle.pliron_graph_traversal.proofs.InsertLemmas.{was_new, was_there}
use Rattle.pliron_graph_order.proofs.NumberLemmas.{tested_in}
use Rattle.pliron_graph_order.proofs.numbering.Numbering.add_region.Goals as goal

pub returns-in_ok-push-clause-added : goal.returns-in_ok-push-clause-added
returns-in_ok-push-clause-added c =
    let new = was_new (λ a b. nat_eq a b && true) c.args.self.now.regions.keys c.insert.new.self.keys c.args.region _ c.in_ok-insert.ensures.added c.in_ok-insert.ensures.keys c.if-branch.true in
    rw (new.1, c.in_ok-push.ensures.items) (In-right c.args.region c.args.self.now.regions.keys (c.args.region ∷ []) (inl refl), inr refl)

pub returns-else-branch-clause-added : goal.returns-else-branch-clause-added
returns-else-branch-clause-added c =
    let old = was_there (λ a b. nat_eq a b && true) c.args.self.now.regions.keys c.insert.new.self.keys c.args.region _ c.in_ok-insert.ensures.added c.in_ok-insert.ensures.keys c.if-branch.false in
    rw old.1 (tested_in c.args.self.now.regions.keys c.args.region old.0, inl refl)

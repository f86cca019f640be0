use Rattle.std.proofs.Common.{◌≡◌, refl, arith, sym, ◌∙◌}
use Rattle.pliron_graph_traversal.specs.Search.{number_in}
use Rattle.pliron_graph_traversal.proofs.EdgeKindLemmas.{equal_is_back, earlier_is_forward, earlier_not_back, rest_is_cross, rest_not_back}
use Rattle.pliron_graph_traversal.proofs.traversal.DFSTraversal.edge_kind.Goals as goal

pub returns-then-from_pre-to_pre-clause-back : goal.returns-then-from_pre-to_pre-clause-back
returns-then-from_pre-to_pre-clause-back g c =
    let equal : number_in g.N.PartialEq.eq c.args.self.now.pre c.args.from.now ≡ number_in g.N.PartialEq.eq c.args.self.now.pre c.args.to.now =
    sym c.pre_order_number-from_pre.ensures.number ∙ c.if-from_pre-to_pre.true ∙ c.pre_order_number-to_pre.ensures.number in
    (λ _. equal_is_back g.N.PartialEq.eq g.met.N.Eq.laws c.args.self.now c.args.from.now c.args.to.now (omega arith) equal, λ _. refl)

pub returns-then-from_pre-to_pre-2-clause-forward : goal.returns-then-from_pre-to_pre-2-clause-forward
returns-then-from_pre-to_pre-2-clause-forward g c =
    (λ _. earlier_is_forward g.N.PartialEq.eq g.met.N.Eq.laws c.args.self.now c.args.from.now c.args.to.now (omega arith) (omega arith) c.requires.not_later, λ _. refl)

pub returns-then-from_pre-to_pre-2-clause-back : goal.returns-then-from_pre-to_pre-2-clause-back
returns-then-from_pre-to_pre-2-clause-back g c =
    (λ e. absurd (cc e), λ b. absurd (earlier_not_back g.N.PartialEq.eq g.met.N.Eq.laws c.args.self.now c.args.from.now c.args.to.now (omega arith) b))

pub returns-else-from_post-to_post-clause-back : goal.returns-else-from_post-to_post-clause-back
returns-else-from_post-to_post-clause-back g c =
    (λ e. absurd (cc e), λ b. absurd (rest_not_back g.N.PartialEq.eq g.met.N.Eq.laws c.args.self.now c.args.from.now c.args.to.now (omega arith) (omega arith) b))

pub returns-else-from_post-to_post-clause-cross : goal.returns-else-from_post-to_post-clause-cross
returns-else-from_post-to_post-clause-cross g c =
    (λ _. rest_is_cross g.N.PartialEq.eq g.met.N.Eq.laws c.args.self.now c.args.from.now c.args.to.now (omega arith) (omega arith) (omega arith), λ _. refl)

use Rattle.pliron_laws.specs.Answers.{HeadPasses}
use Rattle.pliron_graph_components.specs.Ancestors.{IsAncestor}
use Rattle.pliron_graph_components.proofs.AncestorLemmas.{above_smaller, climb_above, climb_on_above, climb_found, climb_none, head_passes, head_fails}
use Rattle.pliron_graph_components.proofs.ancestors.find_ancestor_of_op_type.Goals as goal

pub loop-at-init : goal.loop-at-init
loop-at-init g c =
    let t = c.args.ctx.now.tree in
    climb_above t c.well_formed-2.ensures.tree (HeadPasses (λ h. g.D.Dialect.is_of_kind h c.args.kind) t) c.args.op c.get_parent_op-at.result c.get_parent_op-at.ensures.holder

pub returns-then-is_kind-clause-nearest : goal.returns-then-is_kind-clause-nearest
returns-then-is_kind-clause-nearest g c =
    let t = c.args.ctx.now.tree in
    climb_found t c.well_formed-2.ensures.tree (HeadPasses (λ h. g.D.Dialect.is_of_kind h c.args.kind) t) (IsAncestor t c.args.op) c.loop-at.at c.in-Some.above c.in-Some.is (head_passes (λ h. g.D.Dialect.is_of_kind h c.args.kind) t c.in-Some.above c.is_kind.result c.is_kind.ensures c.if-is_kind.true) c.loop-at.invariant

pub loop-at-smaller : goal.loop-at-smaller
loop-at-smaller g c =
    above_smaller c.args.ctx.now.tree c.well_formed-2.ensures.tree c.loop-at.at c.in-Some.above c.get_parent_op-at-in-Some.result c.in-Some.is c.get_parent_op-at-in-Some.ensures.holder

pub loop-at-preserved : goal.loop-at-preserved
loop-at-preserved g c =
    let t = c.args.ctx.now.tree in
    climb_on_above t c.well_formed-2.ensures.tree (HeadPasses (λ h. g.D.Dialect.is_of_kind h c.args.kind) t) c.args.op c.loop-at.at c.in-Some.above c.get_parent_op-at-in-Some.result c.in-Some.is c.get_parent_op-at-in-Some.ensures.holder
    (head_fails (λ h. g.D.Dialect.is_of_kind h c.args.kind) t c.in-Some.above c.is_kind.result (c.loop-at.invariant.live c.in-Some.above c.in-Some.is) c.is_kind.ensures c.if-is_kind.false)
    c.loop-at.invariant

pub returns-clause-nearest : goal.returns-clause-nearest
returns-clause-nearest g c =
    let t = c.args.ctx.now.tree in
    climb_none t c.well_formed-2.ensures.tree (HeadPasses (λ h. g.D.Dialect.is_of_kind h c.args.kind) t) (IsAncestor t c.args.op) c.loop-at.at c.in_default.is c.loop-at.invariant

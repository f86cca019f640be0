use Rattle.std.proofs.Common.{arith, sym, ◌∙◌}
use Rattle.pliron_pass_fit.proofs.CheckLemmas.{unequal_edge}
use Rattle.pliron_pass_fit.proofs.violations.edge_violation.Goals as goal

pub successor_operands-requires-clause-branch : goal.successor_operands-requires-clause-branch
successor_operands-requires-clause-branch g c = λ h is. sym (c.is_branch.ensures h is) ∙ c.if-not-is_branch.false

pub returns-clause-violation : goal.returns-clause-violation
returns-clause-violation g c =
    let t = c.args.ctx.now.tree in
    (c.requires.inside, unequal_edge g.D.HasMeaning.meaning t c.args.op c.args.index c.get_successor.result c.in_ok-values.values.items c.requires.live (λ h is. sym (c.is_branch.ensures h is) ∙ c.if-not-is_branch.false) c.get_successor.ensures.successor c.in_ok-values.ensures.ok (λ e. omega (arith, e)))

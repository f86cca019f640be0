use Rattle.pliron_laws.proofs.AnswerLemmas.{refuted}
use Rattle.pliron_pass_fit.proofs.violations.use_violation.Goals as goal

pub is_dominated-requires-clause-ready : goal.is_dominated-requires-clause-ready
is_dominated-requires-clause-ready g c =
    (c.args.place.op, record { root = c.args.root; listed = c.requires.contents; edges = c.requires.edges; leads = c.requires.way; made = c.is_defined_inside.ensures.0 c.if-not-is_defined_inside.false })

pub returns-clause-violation : goal.returns-clause-violation
returns-clause-violation g c =
    let v = c.get_operand-value.result in
    let made = c.is_defined_inside.ensures.0 c.if-not-is_defined_inside.false in
    let law = c.in_ok-dominated.ensures.dominated c.args.place.op (record { root = c.args.root; listed = c.requires.contents; edges = c.requires.edges; leads = c.requires.way; made = made }) in
    (c.requires.inside, (v, c.get_operand-value.ensures.operand, (made, λ d. refuted c.in_ok-dominated.dominated c.if-dominated.false (law.1 d))))

use Rattle.std.proofs.Common.{sym, ◌∙◌, subst}
use Rattle.std.specs.Prelude.{IfSome}
use Rattle.pliron_dialect_edges.specs.LengthenedByRoles.{LongerByForm}
use Rattle.pliron_dialect_edges.proofs.LengthenLemmas.{lengthened_by}
use Rattle.pliron_dialect_edges.proofs.lengthen.ByRolesLengthensEdges.lengthen.Goals as goal

pub returns-clause-longer : goal.returns-clause-longer
returns-clause-longer g c = λ o at.
    lengthened_by g.K.Roles.tables c.args.ctx.now.tree c.args.op c.head-head.result.now c.head-head.ensures c.in-Some.kind (sym c.from_number.ensures ∙ c.in-Some.is)
    c.form-form.result c.num_operand-operands.result c.num_result-results.result c.num_successor-successors.result c.num_region-regions.result
    c.form-form.ensures c.num_operand-operands.ensures c.num_result-results.ensures c.num_successor-successors.ensures c.num_region-regions.ensures
    c.args.edge c.in-Some-2.longer.place c.in-Some-2.longer.head
    (subst (λ x. IfSome x (λ longer. LongerByForm c.form-form.result c.head-head.result.now c.num_operand-operands.result c.num_successor-successors.result c.args.edge longer.place longer.head)) c.in-Some-2.is c.in_ok-longer.ensures.ok)
    (sym c.admits_head.ensures ∙ c.if-not-admits_head.false)
    (sym c.admits_head-2.ensures ∙ c.if-not-admits_head-2.false)
    o at

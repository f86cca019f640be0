use Rattle.std.proofs.Common.{sym, ◌∙◌, subst, arith}
use Rattle.std.proofs.lemmas.Option.{slice_get_within}
use Rattle.pliron_core.specs.Tree.{operands_of}
use Rattle.pliron_core.proofs.HoldingLemmas.{some_is}
use Rattle.pliron_opt_sccp.specs.LatticeCells.{Means}
use Rattle.pliron_opt_sccp.specs.LatticeTables.{known_constants, lattice_values_of, lattice_value_in}
use Rattle.pliron_opt_sccp.specs.Constraints.{GetsForwarded}
use Rattle.pliron_opt_sccp.proofs.Constrained.{forward_asked, nothing_asked}
use Rattle.pliron_opt_sccp.proofs.constraints.constrain_operand.Goals as goal

pub returns-in_ok-push-clause-ok : goal.returns-in_ok-push-clause-ok
returns-in_ok-push-clause-ok c =
    let s = c.args.tables.now in
    let vs = operands_of c.args.ctx.now.tree c.args.op in
    forward_asked (known_constants s) (lattice_values_of s) vs c.args.place c.args.value c.get_operand.result c.cell-cell.result c.args.constraints.now.items c.push.new.self.items c.get_operand.ensures.operand
    (λ y at. subst (λ z. Means (known_constants s) c.cell-cell.result (lattice_value_in s z)) (some_is (sym c.get_operand.ensures.operand ∙ at)) c.cell-cell.ensures)
    c.in_ok-push.ensures.items

pub returns-else-place-num_operand-clause-ok : goal.returns-else-place-num_operand-clause-ok
returns-else-place-num_operand-clause-ok c =
    let s = c.args.tables.now in
    let vs = operands_of c.args.ctx.now.tree c.args.op in
    nothing_asked (known_constants s) (λ now. GetsForwarded (lattice_values_of s) vs now c.args.place c.args.value) c.args.constraints.now.items
    (λ now y at. let l = slice_get_within vs c.args.place y at in absurd (omega (arith, l, c.num_operand.ensures, c.if-place-num_operand.false)))

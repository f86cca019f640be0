use Rattle.std.proofs.Common.{◌≡◌, Some, map, sym, ap, ◌∙◌}
use Rattle.pliron_evaluator.specs.Evaluator.{datum_of_value}
use Rattle.pliron_core.specs.declared.attrs.Head.{Head}
use Rattle.pliron_role_runs.proofs.RoleMoves.{kind_moves, others_trap}
use Rattle.pliron_role_runs.proofs.role_moves.known_move.Goals as goal

pub returns-in_ok-counts-in-Some : goal.returns-in_ok-counts-in-Some
returns-in_ok-counts-in-Some g c =
    let tables = g.K.Roles.tables in
    let first : Head = c.head.result.now in
    let again : Head = c.head-in-Some.result.now in
    let both : Some first ≡ Some again = sym c.head.ensures ∙ c.head-in-Some.ensures in
    let same : first ≡ again = cc in
    kind_moves tables c.args.ctx.now.tree c.args.op again c.head-in-Some.ensures (datum_of_value c.args.memo.now) (map datum_of_value c.args.input.now) c.move_by.result c.in-Some.kind c.in_ok-counts-in-Some.counts (sym c.in-Some.is ∙ c.from_number.ensures ∙ ap (λ z. tables.kind_of z.kind) same) c.in_ok-counts-in-Some.ensures c.move_by.ensures

pub returns-in-None : goal.returns-in-None
returns-in-None g c =
    others_trap g.K.Roles.tables c.args.ctx.now.tree c.args.op c.head.result.now c.head.ensures (datum_of_value c.args.memo.now) (map datum_of_value c.args.input.now) (sym c.in-None.is ∙ c.from_number.ensures)

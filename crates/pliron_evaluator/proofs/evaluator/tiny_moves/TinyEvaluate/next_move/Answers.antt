use Rattle.std.proofs.Common.{Some, map, sym, ap, ◌∙◌}
use Rattle.pliron_laws.specs.Datum.{Goto}
use Rattle.pliron_evaluator.specs.Evaluator.{datum_of_value}
use Rattle.pliron_evaluator.proofs.TinyMoves.{const_moves, ask_moves, scope_moves, both_moves, twice_moves, br_moves, other_traps}
use Rattle.pliron_evaluator.proofs.evaluator.tiny_moves.TinyEvaluate.next_move.Goals as goal

pub returns-in_ok-one-in-Some-Const : goal.returns-in_ok-one-in-Some-Const
returns-in_ok-one-in-Some-Const c =
    let kind = sym c.of.ensures ∙ c.in-Some-Const.is ∙ ap Some c.in-Some-Const.field-0-is in
    let h = c.head.result.now in
    const_moves c.args.ctx.now.tree c.args.op h c.head.ensures (datum_of_value c.args.memo.now) (map datum_of_value c.args.input.now) c.in_ok-constant-in-Some-Const.field-0 c.in_ok-one-in-Some-Const.field-0.items kind (c.in_ok-constant-in-Some-Const.ensures h c.head.ensures) c.in_ok-one-in-Some-Const.ensures

pub returns-in-Some-Ask : goal.returns-in-Some-Ask
returns-in-Some-Ask c =
    let kind = sym c.of.ensures ∙ c.in-Some-Ask.is ∙ ap Some c.in-Some-Ask.field-0-is in
    ask_moves c.args.ctx.now.tree c.args.op c.head.result.now c.head.ensures (datum_of_value c.args.memo.now) (map datum_of_value c.args.input.now) c.ask_move.result kind c.ask_move.ensures

pub returns-in-Some-Scope : goal.returns-in-Some-Scope
returns-in-Some-Scope c =
    let kind = sym c.of.ensures ∙ c.in-Some-Scope.is ∙ ap Some c.in-Some-Scope.field-0-is in
    scope_moves c.args.ctx.now.tree c.args.op c.head.result.now c.head.ensures (datum_of_value c.args.memo.now) (map datum_of_value c.args.input.now) c.scope_move.result c.num_entry_argument.result kind c.num_entry_argument.ensures c.scope_move.ensures

pub returns-in_ok-all_copies-in-Some-Br : goal.returns-in_ok-all_copies-in-Some-Br
returns-in_ok-all_copies-in-Some-Br c = λ o at.
    let kind = sym c.of.ensures ∙ c.in-Some-Br.is ∙ ap Some c.in-Some-Br.field-0-is in
    ap (λ z. Goto 0 z) c.in_ok-all_copies-in-Some-Br.ensures ∙ br_moves c.args.ctx.now.tree c.args.op c.head.result.now c.head.ensures (datum_of_value c.args.memo.now) (map datum_of_value c.args.input.now) kind o at

pub returns-in-None : goal.returns-in-None
returns-in-None c = other_traps c.args.ctx.now.tree c.args.op c.head.result.now c.head.ensures (datum_of_value c.args.memo.now) (map datum_of_value c.args.input.now) (sym c.of.ensures ∙ c.in-None.is)

pub returns-in-Some-Both : goal.returns-in-Some-Both
returns-in-Some-Both c =
    let kind = sym c.of.ensures ∙ c.in-Some-Both.is ∙ ap Some c.in-Some-Both.field-0-is in
    both_moves c.args.ctx.now.tree c.args.op c.head.result.now c.head.ensures (datum_of_value c.args.memo.now) (map datum_of_value c.args.input.now) c.both_move.result kind c.both_move.ensures

pub returns-in-Some-Twice : goal.returns-in-Some-Twice
returns-in-Some-Twice c =
    let kind = sym c.of.ensures ∙ c.in-Some-Twice.is ∙ ap Some c.in-Some-Twice.field-0-is in
    twice_moves c.args.ctx.now.tree c.args.op c.head.result.now c.head.ensures (datum_of_value c.args.memo.now) (map datum_of_value c.args.input.now) c.twice_move.result kind c.twice_move.ensures

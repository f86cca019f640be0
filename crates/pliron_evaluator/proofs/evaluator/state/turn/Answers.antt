use Rattle.std.proofs.Common.{◌≡◌, drop, map, sym, ap, subst, ◌∙◌}
use Rattle.pliron_core.specs.Tree.{operands_of}
use Rattle.pliron_laws.specs.Tree.{shape_of}
use Rattle.pliron_laws.specs.Machine.{input_of}
use Rattle.pliron_evaluator.specs.Evaluator.{datum_of_value, move_of, answer_of_values, state_of}
use Rattle.pliron_laws.proofs.AnswerLemmas.{refuted}
use Rattle.pliron_evaluator.proofs.EvaluatorSteps.{turn_of_none, turn_without, turned}
use Rattle.pliron_evaluator.proofs.evaluator.state.turn.Goals as goal

pub returns-then-not-is_live : goal.returns-then-not-is_live
returns-then-not-is_live g c =
    c.trap.ensures ∙ sym (turn_of_none g.D.HasMeaning.meaning c.args.ctx.now.tree (state_of c.args.state) c.args.op (drop 1 c.args.state.rest.items) (λ live. refuted c.is_live.result c.if-not-is_live.true (c.is_live.ensures.1 live)))

pub returns-in_default : goal.returns-in_default
returns-in_default g c =
    let s = state_of c.args.state in
    let e = subst (λ o. answer_of_values o ≡ input_of s.environment (operands_of c.args.ctx.now.tree c.args.op) s.answer) c.in_default.is c.in_ok-input.ensures in
    c.trap-in_default.ensures ∙ sym (turn_without g.D.HasMeaning.meaning c.args.ctx.now.tree s c.args.op (drop 1 c.args.state.rest.items) (c.is_live.ensures.0 c.if-not-is_live.false) (sym e))

pub returns : goal.returns
returns g c =
    let t = c.args.ctx.now.tree in
    let s = state_of c.args.state in
    let e = subst (λ o. answer_of_values o ≡ input_of s.environment (operands_of t c.args.op) s.answer) c.in-Some.is c.in_ok-input.ensures in
    turned g.D.HasMeaning.meaning t s c.args.op (drop 1 c.args.state.rest.items) c.perform.result (move_of c.in_ok-next.next) (map datum_of_value c.in-Some.input.items) (c.is_live.ensures.0 c.if-not-is_live.false) (sym e) (λ o at. c.in_ok-next.ensures o at ∙ ap (λ z. g.D.HasMeaning.meaning.act (shape_of g.D.HasMeaning.meaning t o) s.memo (map datum_of_value z)) c.as_slice.ensures.value) c.perform.ensures

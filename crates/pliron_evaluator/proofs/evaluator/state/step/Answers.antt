use Rattle.std.proofs.Common.{◌≡◌, [], ◌∷◌, drop, map, ap, ◌∙◌}
use Rattle.std.proofs.lemmas.Option.{MatchOption-at_none, MatchOption-at_some}
use Rattle.pliron_laws.specs.Machine.{leave, turn, step}
use Rattle.pliron_laws.specs.Tree.{op_at}
use Rattle.pliron_evaluator.specs.Evaluator.{datum_of_value, state_of}
use Rattle.pliron_evaluator.proofs.EvaluatorSteps.{in_words, step_ends, step_turns}
use Rattle.pliron_evaluator.proofs.evaluator.state.step.Goals as goal

pub returns-in-None : goal.returns-in-None
returns-in-None g c =
    let s = state_of c.args.state in
    let empty = MatchOption-at_none (s.rest ≡ []) (λ op. s.rest ≡ op ∷ drop 1 s.rest) c.in-None.is c.first_operation.ensures in
    c.leave.ensures ∙ ap (λ z. leave s s.waiting (map datum_of_value z)) c.new.ensures.items ∙ step_ends g.D.HasMeaning.meaning c.args.ctx.now.tree s empty

pub returns-in-Some : goal.returns-in-Some
returns-in-Some g c =
    let m = g.D.HasMeaning.meaning in
    let t = c.args.ctx.now.tree in
    let s = state_of c.args.state in
    let op = c.in-Some.op in
    let first = MatchOption-at_some (s.rest ≡ []) (λ o. s.rest ≡ o ∷ drop 1 s.rest) op c.in-Some.is c.first_operation.ensures in
    in_words c.turn.result (turn m t s op (drop 1 s.rest) (op_at t op)) (step m t s) (step_turns m t s op (drop 1 s.rest) first) c.turn.ensures

use Rattle.std.proofs.Common.{drop, map, ap}
use Rattle.pliron_laws.specs.Machine.{bind, after_giving, perform}
use Rattle.pliron_core.specs.Tree.{results_of}
use Rattle.pliron_evaluator.specs.Evaluator.{datum_of_value, move_of, state_of}
use Rattle.pliron_evaluator.proofs.EvaluatorSteps.{by_move, first_drop, performs_give, performs_visit, performs_goto}
use Rattle.pliron_evaluator.proofs.evaluator.state.perform.Goals as goal

pub returns-in-Give : goal.returns-in-Give
returns-in-Give c =
    let t = c.args.ctx.now.tree in
    let s = state_of c.args.state in
    let rest = drop 1 c.args.state.rest.items in
    let ds = map datum_of_value c.in-Give.values.items in
    by_move t c.args.op c.give.result (after_giving s rest s.waiting ds (bind s.environment (results_of t c.args.op) ds)) (λ o. perform t s o c.args.op rest (move_of c.args.next)) (performs_give t s c.args.op rest (move_of c.args.next) ds (ap move_of c.in-Give.is)) c.give.ensures

pub returns-in-Visit : goal.returns-in-Visit
returns-in-Visit c =
    let t = c.args.ctx.now.tree in
    let s = state_of c.args.state in
    let rest = drop 1 c.args.state.rest.items in
    let ds = map datum_of_value c.in-Visit.values.items in
    let memo = datum_of_value c.in-Visit.memo in
    by_move t c.args.op c.visit.result _ (λ o. perform t s o c.args.op rest (move_of c.args.next)) (performs_visit t s c.args.op rest (move_of c.args.next) c.in-Visit.i ds memo (ap move_of c.in-Visit.is) (first_drop c.args.state.rest.items c.args.op c.requires.first)) (rw c.entry.ensures.block at c.visit.ensures)

pub returns-in-Goto : goal.returns-in-Goto
returns-in-Goto c =
    let t = c.args.ctx.now.tree in
    let s = state_of c.args.state in
    let rest = drop 1 c.args.state.rest.items in
    let ds = map datum_of_value c.in-Goto.values.items in
    by_move t c.args.op c.go_to.result _ (λ o. perform t s o c.args.op rest (move_of c.args.next)) (performs_goto t s c.args.op rest (move_of c.args.next) c.in-Goto.i ds (ap move_of c.in-Goto.is)) c.go_to.ensures

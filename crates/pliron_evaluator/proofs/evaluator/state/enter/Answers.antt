use Rattle.std.proofs.Common.{sym, ap, ◌∙◌}
use Rattle.pliron_core.specs.Tree.{arguments_of}
use Rattle.pliron_laws.specs.Machine.{Continues}
use Rattle.std.proofs.Common.{map}
use Rattle.pliron_evaluator.specs.Evaluator.{datum_of_value, environment_of, state_of}
use Rattle.pliron_evaluator.proofs.EvaluatorSteps.{not_bound, all_bound, enter_traps, enter_goes}
use Rattle.pliron_evaluator.proofs.evaluator.state.enter.Goals as goal

pub returns-then-not-branch : goal.returns-then-not-branch
returns-then-not-branch c =
    let t = c.args.ctx.now.tree in
    let env = environment_of c.args.state.environment in
    let after = environment_of c.bind.new.environment in
    let liveness = c.requires c.in-Some.block c.in-Some.is in
    let arguments = c.as_slice.ensures.value ∙ c.in_ok-arguments.ensures in
    let bound = not_bound env after c.as_slice.result.now (arguments_of t c.in-Some.block) c.as_slice-2.result.now c.args.values.items c.in_ok-bind.field-0 arguments c.as_slice-2.ensures.value c.if-not-branch.true c.in_ok-bind.ensures in
    c.trap-then-not-branch.ensures ∙ sym (enter_traps t (state_of c.args.state) (map datum_of_value c.args.values.items) c.args.block c.in-Some.block c.in-Some.is liveness bound)

pub returns : goal.returns
returns c =
    let t = c.args.ctx.now.tree in
    let env = environment_of c.args.state.environment in
    let after = environment_of c.bind.new.environment in
    let liveness = c.requires c.in-Some.block c.in-Some.is in
    let arguments = c.as_slice.ensures.value ∙ c.in_ok-arguments.ensures in
    let bound = all_bound env after c.as_slice.result.now (arguments_of t c.in-Some.block) c.as_slice-2.result.now c.args.values.items c.in_ok-bind.field-0 arguments c.as_slice-2.ensures.value c.if-not-branch.false c.in_ok-bind.ensures in
    ap Continues c.at_rest.ensures ∙ sym (enter_goes t (state_of c.args.state) (map datum_of_value c.args.values.items) c.args.block c.in-Some.block after c.from.result.items c.in-Some.is liveness bound (c.from.ensures.0 ∙ c.in_ok-all_operations.ensures))

use Rattle.std.proofs.Common.{◌≡◌, ◌-◌, map}
use Rattle.pliron_laws.specs.Machine.{run, run_from, step}
use Rattle.pliron_evaluator.specs.Evaluator.{datum_of_value, state_of}
use Rattle.pliron_evaluator.proofs.evaluator.evaluate_noting.Given as goal

abbrev pub invariant-loop : goal.invariant-loop
invariant-loop g l =
    run_from (step g.D.HasMeaning.meaning l.ctx.tree) (l.fn.given.fuel - l.counter) (state_of l.state) ≡ run g.D.HasMeaning.meaning l.ctx.tree l.fn.root (map datum_of_value l.fn.given.inputs.items) (map datum_of_value l.fn.given.world.items) l.fn.given.fuel

use Rattle.std.proofs.Common.{map, sym, ap, ◌∙◌}
use Rattle.std.proofs.lemmas.List.{drop-map, take_rest}
use Rattle.pliron_evaluator.specs.Evaluator.{datum_of_value}
use Rattle.pliron_role_runs.proofs.own_moves.from_place.Goals as goal

pub returns-then-place-input : goal.returns-then-place-input
returns-then-place-input c = ap (map datum_of_value) (take_rest c.args.input.now c.args.place) ∙ sym (drop-map datum_of_value c.args.place c.args.input.now)

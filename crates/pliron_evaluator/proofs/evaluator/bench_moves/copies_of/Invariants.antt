use Rattle.std.proofs.Common.{◌≡◌, replicate, map}
use Rattle.pliron_evaluator.specs.Evaluator.{datum_of_value}
use Rattle.pliron_evaluator.proofs.evaluator.bench_moves.copies_of.Given as goal

abbrev pub invariant-loop : goal.invariant-loop
invariant-loop l = map datum_of_value l.copies.items ≡ replicate l.counter (datum_of_value l.datum)

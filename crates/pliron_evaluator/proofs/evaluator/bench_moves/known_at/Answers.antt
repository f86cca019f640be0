use Rattle.std.proofs.Common.{Some, ap, ◌∙◌, rules, w64, FitsSigned}
use Rattle.std.proofs.lemmas.Int.{to_z-of_z}
use Rattle.pliron_evaluator.proofs.BenchActs.{number_there}
use Rattle.pliron_evaluator.proofs.evaluator.bench_moves.known_at.Goals as goal

pub returns-then-i-input : goal.returns-then-i-input
returns-then-i-input c =
    let fits : FitsSigned w64 c.narrow_number.result = search rules in
    ap Some (to_z-of_z w64 c.narrow_number.result fits) ∙ number_there c.args.input.now c.args.i c.index-input-i.result c.narrow_number.result c.if-i-input.true c.index-input-i.is c.narrow_number.ensures

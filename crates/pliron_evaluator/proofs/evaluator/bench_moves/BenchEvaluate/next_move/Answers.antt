use Rattle.std.proofs.Common.{map, subst}
use Rattle.pliron_laws.specs.Answers.{ReadsHead}
use Rattle.pliron_dialect_bench.specs.Bench.{kind_of}
use Rattle.pliron_evaluator.specs.Evaluator.{datum_of_value}
use Rattle.pliron_evaluator.proofs.BenchActs.{moves, others_trap}
use Rattle.pliron_evaluator.proofs.evaluator.bench_moves.BenchEvaluate.next_move.Goals as goal

pub returns-in-Some : goal.returns-in-Some
returns-in-Some c =
    let t = c.args.ctx.now.tree in
    let reads = subst (λ k. ReadsHead (λ h. kind_of h.kind) t c.args.op k) c.in-Some.is c.kind_at.ensures in
    moves t c.args.op c.in-Some.kind (datum_of_value c.args.memo.now) (map datum_of_value c.args.input.now) c.act.result reads c.act.ensures

pub returns-in-None : goal.returns-in-None
returns-in-None c =
    let t = c.args.ctx.now.tree in
    let reads = subst (λ k. ReadsHead (λ h. kind_of h.kind) t c.args.op k) c.in-None.is c.kind_at.ensures in
    others_trap t c.args.op (datum_of_value c.args.memo.now) (map datum_of_value c.args.input.now) reads

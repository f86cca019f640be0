use Rattle.pliron_dialect_bench.specs.BenchLaws.{bench_monotone}
use Rattle.pliron_dialect_bench.proofs.laws.folds_are_monotone.Goals as goal

pub returns : goal.returns
returns c = bench_monotone

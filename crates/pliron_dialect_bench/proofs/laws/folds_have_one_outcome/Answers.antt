use Rattle.pliron_dialect_bench.proofs.BenchSingle.{constants_single, branches_single}
use Rattle.pliron_dialect_bench.proofs.laws.folds_have_one_outcome.Goals as goal

pub returns-clause-constants : goal.returns-clause-constants
returns-clause-constants c = constants_single

pub returns-clause-branches : goal.returns-clause-branches
returns-clause-branches c = branches_single

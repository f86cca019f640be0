use Rattle.std.proofs.Common.{arith}
use Rattle.pliron_core.specs.Tree.{successors_of}
use Rattle.pliron_pass_fit.proofs.CheckLemmas.{not_empty}
use Rattle.pliron_pass_fit.proofs.violations.successors_violation.Goals as goal

pub returns : goal.returns
returns g c = not_empty (successors_of c.args.ctx.now.tree c.args.root) (λ e. omega (arith, e))

use Rattle.pliron_pass_fit.proofs.FitLemmas.{refutes}
use Rattle.pliron_pass_fit.proofs.violations.find_violations.Goals as goal

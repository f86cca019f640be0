use Rattle.pliron_bits.proofs.CongruenceLemmas.{sums_agree, differences_agree}
use Rattle.pliron_bits.proofs.laws.signed_results_agree.Goals as goal

pub returns-clause-sums : goal.returns-clause-sums
returns-clause-sums c = sums_agree

pub returns-clause-differences : goal.returns-clause-differences
returns-clause-differences c = differences_agree

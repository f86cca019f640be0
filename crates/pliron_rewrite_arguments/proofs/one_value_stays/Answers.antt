use Rattle.pliron_rewrite_arguments.proofs.ArgumentStays.{one_value_stays}
use Rattle.pliron_rewrite_arguments.proofs.one_value_stays.Goals as goal

pub returns : goal.returns
returns c = one_value_stays

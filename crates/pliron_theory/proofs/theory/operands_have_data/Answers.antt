use Rattle.pliron_theory.proofs.Reading.{read_data}
use Rattle.pliron_theory.proofs.theory.operands_have_data.Goals as goal

pub returns : goal.returns
returns c = read_data

use Rattle.pliron_bits.proofs.ReadingLemmas.{bits-signed, signed-bits}
use Rattle.pliron_bits.proofs.laws.readings_are_inverse.Goals as goal

pub returns-clause-bits : goal.returns-clause-bits
returns-clause-bits c = bits-signed

pub returns-clause-signed : goal.returns-clause-signed
returns-clause-signed c = signed-bits

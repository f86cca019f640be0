use Rattle.pliron_laws.proofs.PutLinks.{linked_first}
use Rattle.pliron_theory.proofs.theory.constants_first_keep_links.Goals as goal

pub returns : goal.returns
returns c = λ m attr head t block v root w liveness makes linked. linked_first t v block head w liveness m attr root makes linked

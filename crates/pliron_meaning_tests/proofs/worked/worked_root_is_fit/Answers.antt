use Rattle.pliron_meaning_tests.proofs.WorkedFit.{worked_fit}
use Rattle.pliron_meaning_tests.proofs.WorkedTree.{worked_tree}
use Rattle.pliron_meaning_tests.proofs.worked.worked_root_is_fit.Goals as goal

pub returns-clause-tree : goal.returns-clause-tree
returns-clause-tree c = worked_tree

pub returns-clause-fit : goal.returns-clause-fit
returns-clause-fit c = worked_fit

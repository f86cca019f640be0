use Rattle.pliron_theory.proofs.FoldedBranches.{branch_outcomes}
use Rattle.pliron_theory.proofs.theory.branch_folds_replace.Goals as goal

pub returns : goal.returns
returns g c =
    let d = g.met.D.Dialect in
    branch_outcomes _ _ _ _ _ _ d.forwards_operands d.answers_jumps _ _ _ _ _ d.folds_in_place

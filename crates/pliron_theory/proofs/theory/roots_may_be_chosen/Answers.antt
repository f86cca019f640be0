use Rattle.pliron_theory.proofs.ChosenRoots.{chosen_roots}
use Rattle.pliron_theory.proofs.theory.roots_may_be_chosen.Goals as goal

pub returns : goal.returns
returns g c =
    let d = g.met.D.Dialect in
    chosen_roots _ _ _ _ _ _ _ _ _ _ _ _ (λ h h' s. s.branch) d.keeps_counts d.forwards_operands d.acts_without_argument d.answers_true d.answers_jumps d.folds_in_place d.makes_constants

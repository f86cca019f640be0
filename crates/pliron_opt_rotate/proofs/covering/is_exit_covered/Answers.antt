use Rattle.pliron_opt_rotate.proofs.covering.is_exit_covered.Goals as goal

pub returns : goal.returns
returns c = λ e k i. c.are_leaders_covered.ensures e

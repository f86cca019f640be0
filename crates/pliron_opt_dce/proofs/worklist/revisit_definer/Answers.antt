use Rattle.std.proofs.Common.{subst}
use Rattle.pliron_opt_dce.specs.Dead.{Op}
use Rattle.pliron_opt_dce.specs.Readiness.{Among}
use Rattle.pliron_opt_dce.specs.Worklist.{items_of, pending_candidates}
use Rattle.pliron_opt_dce.proofs.WorkLemmas.{same_maker, other_maker}
use Rattle.pliron_opt_dce.proofs.worklist.revisit_definer.Goals as goal

pub returns-in_ok-add-in-Result-clause-makers : goal.returns-in_ok-add-in-Result-clause-makers
returns-in_ok-add-in-Result-clause-makers c = λ k i e. subst (λ z. Among (Op z) (items_of (pending_candidates c.add.new.self))) (same_maker c.in-Result.ensures.definition e) c.in_ok-add-in-Result.ensures.added

pub returns-in_ok-add-in-Result-clause-arguments : goal.returns-in_ok-add-in-Result-clause-arguments
returns-in_ok-add-in-Result-clause-arguments c = λ b i e. absurd (other_maker c.in-Result.ensures.definition e)

pub returns-in_ok-add-in-Argument-clause-makers : goal.returns-in_ok-add-in-Argument-clause-makers
returns-in_ok-add-in-Argument-clause-makers c = λ k i e. absurd (other_maker e c.in-Argument.ensures.definition)

pub returns-in_ok-add-in-Argument-clause-arguments : goal.returns-in_ok-add-in-Argument-clause-arguments
returns-in_ok-add-in-Argument-clause-arguments c = λ b i e. c.in_ok-add-in-Argument.ensures.added

use Rattle.std.proofs.Common.{sym, subst}
use Rattle.pliron_opt_dce.specs.declared.worklist.DeadCandidate.TheVariants.{Operation}
use Rattle.pliron_opt_dce.specs.Dead.{Op, Arg}
use Rattle.pliron_opt_dce.specs.Readiness.{Among}
use Rattle.pliron_opt_dce.specs.Worklist.{items_of}
use Rattle.pliron_opt_dce.proofs.WorkLemmas.{among_front, among_last}
use Rattle.pliron_opt_dce.proofs.candidates.push_operation.Goals as goal

pub returns-clause-kept : goal.returns-clause-kept
returns-clause-kept c = λ x i. subst (λ z. Among x (items_of z)) (sym c.in_ok-push.ensures.items) (among_front x _ _ (c.in_ok-push_contents_of.ensures.kept x i))

pub returns-clause-covered : goal.returns-clause-covered
returns-clause-covered c =
    let same = c.in_ok-push.ensures.items in
    record {
      operation = λ n. subst (λ z. Among (Op c.args.op) (items_of z)) (sym same) (among_last _ (Operation c.args.op));
      arguments = λ b v held i. subst (λ z. Among (Arg v) (items_of z)) (sym same) (among_front (Arg v) _ _ (c.in_ok-push_contents_of.ensures.added b v held i));
    }

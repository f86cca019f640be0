use Rattle.std.proofs.Common.{subst}
use Rattle.pliron_core.specs.Tree.{In}
use Rattle.pliron_opt_rotate.proofs.covering.covers_of.Goals as goal

pub returns-clause-covers : goal.returns-clause-covers
returns-clause-covers c = record {
  values_in = λ v i. subst (In v) c.as_slice-listed.ensures.value (c.in_ok-values.ensures.from v i);
  body_in = λ k i. subst (In k) c.as_slice-users.ensures.value (c.in_ok-body.ensures.from k i);
  exit_in = λ k i. subst (In k) c.as_slice-more.ensures.value (c.in_ok-exit.ensures.from k i);
}

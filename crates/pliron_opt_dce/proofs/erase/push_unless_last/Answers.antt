use Rattle.std.proofs.Common.{◌≡◌, ◌-◌, length, eqb-true, inl, inr, ⊎_elim, sym, subst}
use Rattle.pliron_core.specs.Tree.{In}
use Rattle.pliron_core.proofs.ListLemmas.{In-cases}
use Rattle.pliron_core.proofs.HoldingLemmas.{in_slice}
use Rattle.pliron_opt_dce.proofs.TakeLemmas.{in_more, in_last}
use Rattle.pliron_opt_dce.proofs.erase.push_unless_last.Goals as goal

pub returns-then-eq-clause-there : goal.returns-then-eq-clause-there
returns-then-eq-clause-there c =
    let same : c.in-Some.last.now ≡ c.args.value = eqb-true c.in-Some.last.now c.args.value (sym c.if-eq.ensures) in
    subst (λ v. In v c.args.values.now.items) same (subst (In c.in-Some.last.now) c.deref.ensures.value (in_slice c.deref.result.now (length c.deref.result.now - 1) c.in-Some.last.now (sym c.in-Some.ensures.value)))

pub returns-clause-kept : goal.returns-clause-kept
returns-clause-kept c = λ v i. subst (In v) (sym c.in_ok-push.ensures.items) (in_more v _ _ i)

pub returns-clause-there : goal.returns-clause-there
returns-clause-there c = subst (In c.args.value) (sym c.in_ok-push.ensures.items) (in_last c.args.value _)

pub returns-clause-only : goal.returns-clause-only
returns-clause-only c = λ v i. ⊎_elim (λ j. inl j) (λ j. ⊎_elim (λ e. inr e) (λ none. absurd none) j) (In-cases v c.args.values.now.items _ (subst (In v) c.in_ok-push.ensures.items i))

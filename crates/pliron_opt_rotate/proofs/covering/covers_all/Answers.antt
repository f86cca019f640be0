use Rattle.std.proofs.Common.{inl, inr, ⊎_elim, sym, subst}
use Rattle.pliron_core.specs.Tree.{In}
use Rattle.pliron_opt_rotate.proofs.covering.covers_all.Goals as goal

pub returns-clause-uses : goal.returns-clause-uses
returns-clause-uses c = λ e k v i home.
    let h = c.in_ok-covers.ensures.covers in
    let is = c.well_formed-2.ensures.tree.joined.operands k v i in
    let there = c.in_ok-made.ensures.defined v is home in
    ⊎_elim
    (λ p. inl p)
    (λ u. inr (h.values_in v u.0, ⊎_elim (λ b. inl (h.body_in k b)) (λ b. inr (h.exit_in k b)) u.1))
    (c.are_covered.ensures c.if-not-are_covered.false k v (subst (In v) (sym c.as_slice-values.ensures.value) there) i)

pub returns-clause-to_body : goal.returns-clause-to_body
returns-clause-to_body c = λ e k i.
    let h = c.in_ok-covers.ensures.covers in
    ⊎_elim (λ p. inl p) (λ u. inr (⊎_elim (λ b. inl (h.body_in k b)) (λ b. inr (h.body_in k b)) u)) (c.is_body_covered.ensures c.if-not-is_body_covered.false k i)

pub returns-clause-to_exit : goal.returns-clause-to_exit
returns-clause-to_exit c = λ e j u k i.
    let h = c.in_ok-covers.ensures.covers in
    ⊎_elim (λ p. inl p) (λ v. inr (⊎_elim (λ b. inl (h.body_in k b)) (λ b. inr (h.exit_in k b)) v)) (c.is_exit_covered.ensures e j u k i)

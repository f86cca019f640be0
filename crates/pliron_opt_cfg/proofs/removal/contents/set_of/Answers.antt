use Rattle.std.proofs.Common.{◌≤◌, length, inl, inr, ⊎_elim, subst, sym, arith}
use Rattle.std.proofs.lemmas.List.{take_all}
use Rattle.pliron_core.specs.Tree.{In}
use Rattle.pliron_opt_cfg.proofs.CheckLemmas.{taken_split, in_inserted}
use Rattle.pliron_opt_cfg.proofs.removal.contents.set_of.Goals as goal

pub loop-op-init : goal.loop-op-init
loop-op-init c k = (λ i. subst (In k) c.new-set.ensures.empty i, λ i. absurd i)

pub loop-op-preserved : goal.loop-op-preserved
loop-op-preserved c k =
    let x = c.op-item.result in
    let split = taken_split c.args.ops.now c.loop-op.op-index x k c.loop-op-test.true c.op-item.is in
    let set = in_inserted c.loop-op.set.keys x k in
    let keys = c.in_ok-insert.ensures.keys in (
      λ i. split.1 (⊎_elim (λ a. inl ((c.loop-op.invariant k).0 a)) (λ s. inr s) (set.0 (subst (In k) keys i))),
      λ i. subst (In k) (sym keys) (set.1 (⊎_elim (λ a. inl ((c.loop-op.invariant k).1 a)) (λ s. inr s) (split.0 i))),
    )

pub returns-clause-keys : goal.returns-clause-keys
returns-clause-keys c k =
    let all : length c.args.ops.now ≤ c.loop-op.op-index = omega (arith, c.loop-op-test.false) in
    let same = take_all c.loop-op.op-index c.args.ops.now all in
    (λ i. subst (In k) same ((c.loop-op.invariant k).0 i), λ i. (c.loop-op.invariant k).1 (subst (In k) (sym same) i))

use Rattle.std.proofs.Common.{◌≤◌, length, inl, inr, ⊎_elim, subst, sym, arith}
use Rattle.std.proofs.lemmas.List.{take_all}
use Rattle.pliron_core.specs.Tree.{In}
use Rattle.pliron_opt_cfg.proofs.CheckLemmas.{taken_split, in_inserted}
use Rattle.pliron_opt_cfg.proofs.removal.contents.set_of_blocks.Goals as goal

pub loop-block-init : goal.loop-block-init
loop-block-init c k = (λ i. subst (In k) c.new-set.ensures.empty i, λ i. absurd i)

pub loop-block-preserved : goal.loop-block-preserved
loop-block-preserved c k =
    let x = c.block-item.result in
    let split = taken_split c.args.blocks.now c.loop-block.block-index x k c.loop-block-test.true c.block-item.is in
    let set = in_inserted c.loop-block.set.keys x k in
    let keys = c.in_ok-insert.ensures.keys in (
      λ i. split.1 (⊎_elim (λ a. inl ((c.loop-block.invariant k).0 a)) (λ s. inr s) (set.0 (subst (In k) keys i))),
      λ i. subst (In k) (sym keys) (set.1 (⊎_elim (λ a. inl ((c.loop-block.invariant k).1 a)) (λ s. inr s) (split.0 i))),
    )

pub returns-clause-keys : goal.returns-clause-keys
returns-clause-keys c k =
    let all : length c.args.blocks.now ≤ c.loop-block.block-index = omega (arith, c.loop-block-test.false) in
    let same = take_all c.loop-block.block-index c.args.blocks.now all in
    (λ i. subst (In k) same ((c.loop-block.invariant k).0 i), λ i. (c.loop-block.invariant k).1 (subst (In k) (sym same) i))

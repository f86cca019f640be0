use Rattle.std.proofs.Common.{◌≤◌, length, ⊎_elim, sym, subst, arith}
use Rattle.std.proofs.lemmas.Result.{err_from_is_err_and}
use Rattle.pliron_opt_cfg.proofs.ListLemmas.{item_in}
use Rattle.pliron_opt_cfg.specs.Internal.Contents.{IsUsedWithin}
use Rattle.pliron_opt_cfg.proofs.CheckLemmas.{taken_split, taken_whole}
use Rattle.pliron_opt_cfg.proofs.removal.uses.check_values.Goals as goal

pub check_value-requires : goal.check_value-requires
check_value-requires c = c.requires c.value-item.result (item_in c.args.values.now c.loop-value.value-index c.value-item.result c.loop-value-test.true c.value-item.is)

pub returns-in_err-check_value-clause-err : goal.returns-in_err-check_value-clause-err
returns-in_err-check_value-clause-err c =
    let i = item_in c.args.values.now c.loop-value.value-index c.value-item.result c.loop-value-test.true c.value-item.is in
    let h = c.in_err-check_value.ensures.err in
    let p = err_from_is_err_and c.from_residual.result c.from_residual.ensures.1 in
    rw (p.1, p.2) (h.0, (c.value-item.result, i, h.1))

pub loop-value-preserved : goal.loop-value-preserved
loop-value-preserved c v i =
    ⊎_elim (λ a. c.loop-value.invariant v a)
    (λ s. subst (IsUsedWithin c.args.ctx.now.tree c.args.inside.now.keys) (sym s) c.in_ok-check_value.ensures.ok)
    ((taken_split c.args.values.now c.loop-value.value-index c.value-item.result v c.loop-value-test.true c.value-item.is).0 i)

pub returns-clause-ok : goal.returns-clause-ok
returns-clause-ok c v i =
    let all : length c.args.values.now ≤ c.loop-value.value-index = omega (arith, c.loop-value-test.false) in
    c.loop-value.invariant v (taken_whole c.args.values.now c.loop-value.value-index v all i)

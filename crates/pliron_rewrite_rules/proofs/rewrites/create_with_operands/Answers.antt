use Rattle.std.proofs.Common.{◌≡◌, Some, slice_get, take, refl, sym, ap, ◌∙◌, subst}
use Rattle.std.proofs.lemmas.Option.{slice_get_read}
use Rattle.pliron_core.specs.Erased.{IsSelfContained}
use Rattle.pliron_core.specs.Tree.{Tree, IsDefined}
use Rattle.pliron_core.proofs.HoldingLemmas.{in_slice}
use Rattle.pliron_rewrite_rules.specs.Insertions.{IsMadeOperation}
use Rattle.pliron_rewrite_rules.proofs.MadeOperations.{made_more, made_contained, made_erased, still_defined}
use Rattle.pliron_rewrite_rules.proofs.rewrites.create_with_operands.Goals as goal

pub push_operand-requires-clause-value : goal.push_operand-requires-clause-value
push_operand-requires-clause-value g c =
    let all = c.args.operands.now in
    let v = c.value-item.result in
    let at : slice_get all c.loop-value.value-index ≡ Some v = slice_get_read all _ c.loop-value.value-index v refl c.loop-value-test.true c.value-item.is in
    still_defined _ _ _ _ _ c.loop-value.invariant.made v (c.requires v (in_slice all c.loop-value.value-index v at))

pub erase_operation-requires-clause-contained : goal.erase_operation-requires-clause-contained
erase_operation-requires-clause-contained g c =
    let same = ap (λ z. z.tree) c.in-Err.ensures.err in
    made_contained _ _ _ _ _ (subst (λ z. IsMadeOperation c.args.ctx.now.tree z c.in_ok-op.op c.args.head (take c.loop-value.value-index c.args.operands.now)) (sym same) c.loop-value.invariant.made) c.well_formed-in-Err.ensures.tree

pub returns-in-Err-clause-err : goal.returns-in-Err-clause-err
returns-in-Err-clause-err g c =
    let same = ap (λ z. z.tree) c.in-Err.ensures.err in
    made_erased _ _ _ _ _ (subst (λ z. IsMadeOperation c.args.ctx.now.tree z c.in_ok-op.op c.args.head (take c.loop-value.value-index c.args.operands.now)) (sym same) c.loop-value.invariant.made) _ c.erase_operation.ensures.erased

pub loop-value-preserved : goal.loop-value-preserved
loop-value-preserved g c =
    let all = c.args.operands.now in
    let v = c.value-item.result in
    let at : slice_get all c.loop-value.value-index ≡ Some v = slice_get_read all _ c.loop-value.value-index v refl c.loop-value-test.true c.value-item.is in
    record {
      made = made_more _ _ _ _ _ all c.loop-value.value-index v at (c.requires v (in_slice all c.loop-value.value-index v at)) c.loop-value.invariant.made c.in_default.ensures.ok;
      point = c.loop-value.invariant.point;
    }

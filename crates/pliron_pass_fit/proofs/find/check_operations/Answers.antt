use Rattle.std.proofs.Common.{◌≤◌, length, arith, sym, subst, refl}
use Rattle.std.proofs.lemmas.Option.{slice_get_read}
use Rattle.pliron_core.specs.Tree.{In}
use Rattle.pliron_core.proofs.FlatLemmas.{In-slice_get}
use Rattle.pliron_core.proofs.WalkLemmas.{In-preorder, within_live}
use Rattle.pliron_pass_fit.specs.Checks.{IsSoundAt}
use Rattle.pliron_pass_fit.proofs.CheckLemmas.{at_each, one_more_at}
use Rattle.pliron_pass_fit.proofs.find.check_operations.Goals as goal

pub check_operation-requires-clause-within : goal.check_operation-requires-clause-within
check_operation-requires-clause-within g c =
    let t = c.args.ctx.now.tree in
    let xs = c.args.ops.now in
    let at = slice_get_read xs (length xs) c.loop-op.op-index c.op-item.result refl c.loop-op-test.true c.op-item.is in
    (In-preorder t c.well_formed-2.ensures.tree c.args.root c.op-item.result).0 (subst (In c.op-item.result) c.requires.ops (In-slice_get xs c.loop-op.op-index c.op-item.result at))

pub check_operation-requires-clause-live : goal.check_operation-requires-clause-live
check_operation-requires-clause-live g c =
    let t = c.args.ctx.now.tree in
    let w = c.well_formed-2.ensures.tree in
    let xs = c.args.ops.now in
    let at = slice_get_read xs (length xs) c.loop-op.op-index c.op-item.result refl c.loop-op-test.true c.op-item.is in
    within_live t w c.args.root c.op-item.result c.requires.live ((In-preorder t w c.args.root c.op-item.result).0 (subst (In c.op-item.result) c.requires.ops (In-slice_get xs c.loop-op.op-index c.op-item.result at)))

pub loop-op-preserved : goal.loop-op-preserved
loop-op-preserved g c =
    let t = c.args.ctx.now.tree in
    let xs = c.args.ops.now in
    let at = slice_get_read xs (length xs) c.loop-op.op-index c.op-item.result refl c.loop-op-test.true c.op-item.is in
    one_more_at (λ k. IsSoundAt g.D.HasMeaning.meaning t c.args.root k) xs c.loop-op.op-index c.op-item.result at c.in_ok-check_operation.ensures.ok c.loop-op.invariant

pub returns-clause-ok : goal.returns-clause-ok
returns-clause-ok g c =
    let t = c.args.ctx.now.tree in
    let xs = c.args.ops.now in
    let whole : length xs ≤ c.loop-op.op-index = omega (arith, c.loop-op-test.false) in
    λ k u. at_each (λ k. IsSoundAt g.D.HasMeaning.meaning t c.args.root k) xs c.loop-op.op-index whole c.loop-op.invariant k (subst (In k) (sym c.requires.ops) ((In-preorder t c.well_formed-2.ensures.tree c.args.root k).1 u))

use Rattle.std.proofs.Common.{length, subst, refl}
use Rattle.std.proofs.lemmas.Option.{slice_get_read}
use Rattle.pliron_core.specs.Tree.{In}
use Rattle.pliron_core.proofs.FlatLemmas.{In-slice_get}
use Rattle.pliron_core.proofs.WalkLemmas.{In-preorder, within_live}
use Rattle.pliron_pass_fit.proofs.violations.add_all_violations.Goals as goal

pub add_violations-requires-clause-within : goal.add_violations-requires-clause-within
add_violations-requires-clause-within g c =
    let t = c.args.ctx.now.tree in
    let xs = c.args.ops.now in
    let at = slice_get_read xs (length xs) c.loop-op.op-index c.op-item.result refl c.loop-op-test.true c.op-item.is in
    (In-preorder t c.well_formed-2.ensures.tree c.args.root c.op-item.result).0 (subst (In c.op-item.result) c.requires.ops (In-slice_get xs c.loop-op.op-index c.op-item.result at))

pub add_violations-requires-clause-live : goal.add_violations-requires-clause-live
add_violations-requires-clause-live g c =
    let t = c.args.ctx.now.tree in
    let w = c.well_formed-2.ensures.tree in
    let xs = c.args.ops.now in
    let at = slice_get_read xs (length xs) c.loop-op.op-index c.op-item.result refl c.loop-op-test.true c.op-item.is in
    within_live t w c.args.root c.op-item.result c.requires.live ((In-preorder t w c.args.root c.op-item.result).0 (subst (In c.op-item.result) c.requires.ops (In-slice_get xs c.loop-op.op-index c.op-item.result at)))

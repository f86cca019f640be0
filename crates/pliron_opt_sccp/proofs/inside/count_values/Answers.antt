use Rattle.std.proofs.Common.{◌≡◌, length, Some, slice_get, refl}
use Rattle.std.proofs.lemmas.Option.{slice_get_read}
use Rattle.pliron_core.proofs.HoldingLemmas.{in_slice}
use Rattle.pliron_opt_sccp.proofs.inside.count_values.Goals as goal

pub count_in_block-requires : goal.count_in_block-requires
count_in_block-requires c =
    let all = c.args.blocks.now in
    let at : slice_get all c.loop-i.i ≡ Some c.index-blocks-i.result = slice_get_read all (length all) c.loop-i.i c.index-blocks-i.result refl c.loop-i-test.true c.index-blocks-i.is in
    c.requires c.index-blocks-i.result (in_slice all c.loop-i.i c.index-blocks-i.result at)

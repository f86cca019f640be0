use Rattle.std.proofs.Common.{rules}
use Rattle.pliron_rewrite_calls.specs.CopySteps.{MayCopy}
use Rattle.pliron_rewrite_calls.proofs.copying.copy_blocks.Goals as goal

pub copy_within_room-requires : goal.copy_within_room-requires
copy_within_room-requires g c =
    let may : MayCopy (record { tree = c.args.ctx.now.tree; blocks = c.args.blocks.now; region = c.args.region }) = record { tree = c.well_formed-2.ensures.tree; live = c.requires.blocks; apart = c.requires.distinct; childless = c.requires.childless; into = c.requires.region } in
    search rules

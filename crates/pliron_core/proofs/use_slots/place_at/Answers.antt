use Rattle.std.proofs.Common.{arith}
use Rattle.pliron_core.proofs.CountLemmas.{held-most}
use Rattle.pliron_core.proofs.use_slots.place_at.Goals as goal

pub place-requires : goal.place-requires
place-requires c = omega (arith, held-most c.args.row.now, c.requires)

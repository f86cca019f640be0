use Rattle.std.proofs.Common.{ap, arith}
use Rattle.std.specs.List.{sum}
use Rattle.pliron_core.proofs.CountLemmas.{held-marks}
use Rattle.pliron_core.proofs.MarkLemmas.{mark-within, mark-target}
use Rattle.pliron_core.proofs.use_slots.target_counted.Goals as goal

pub select-requires : goal.select-requires
select-requires c = let r = c.requires in omega (arith, r.index, held-marks c.args.row.now, ap sum r.counts)

pub get-requires : goal.get-requires
get-requires c = mark-within _ _ _ 1 c.requires.counts c.select.ensures.taken

pub returns : goal.returns
returns c = mark-target _ _ _ _ _ c.requires.counts c.select.ensures.taken c.select.ensures.rank c.get.ensures

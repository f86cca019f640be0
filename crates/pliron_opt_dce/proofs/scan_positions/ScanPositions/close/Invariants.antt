use Rattle.std.proofs.Common.{length}
use Rattle.pliron_opt_dce.proofs.scan_positions.ScanPositions.close.Given as goal

abbrev pub decreases-loop-last : goal.decreases-loop-last
decreases-loop-last l = length l.open.items

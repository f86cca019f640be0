use Rattle.std.proofs.Common.{◌≡◌, ◌<◌, sum, take}
use Rattle.pliron_text_mlir_reader.proofs.heads.total.Given as goal

abbrev pub invariant-loop-count : goal.invariant-loop-count
invariant-loop-count l = (l.total ≡ sum (take l.count-index l.counts)) × (l.total < 18446744073709551616)

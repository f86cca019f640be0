use Rattle.std.proofs.Common.{◌≡◌, ℕ, ◌≤◌, List, length}
use Rattle.pliron_core.proofs.EdgeLemmas.{AreFound}
use Rattle.pliron_core.proofs.context.edge_reads.count_below.Given as goal

abbrev pub invariant-loop-i : goal.invariant-loop-i
invariant-loop-i l = record {
  few : l.count ≤ l.i;
  found : (found : List ℕ) × (length found ≡ l.count) × AreFound l.ctx l.block l.bound l.i found;
}

use Rattle.std.proofs.Common.{◌≡◌, suc}
use Rattle.pliron_dialect.specs.Counted.{edge_counts_in, start_of}
use Rattle.pliron_dialect_edges.proofs.lengthen.place_behind_each.Given as goal

abbrev pub invariant-loop-j : goal.invariant-loop-j
invariant-loop-j l = l.place ≡ suc (start_of (edge_counts_in l.edges l.attrs) l.j)

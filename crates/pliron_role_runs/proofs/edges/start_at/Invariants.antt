use Rattle.std.proofs.Common.{◌≡◌, min}
use Rattle.pliron_dialect.specs.Counted.{start_of, edge_counts_in}
use Rattle.pliron_role_runs.proofs.edges.start_at.Given as goal

abbrev pub invariant-loop-j : goal.invariant-loop-j
invariant-loop-j l = l.start ≡ min (start_of (edge_counts_in l.edges l.attrs) l.j) l.most

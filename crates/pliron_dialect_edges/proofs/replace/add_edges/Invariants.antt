use Rattle.std.proofs.Common.{◌≡◌, take}
use Rattle.pliron_laws.specs.Replacing.{with_edges}
use Rattle.pliron_dialect_edges.proofs.replace.add_edges.Given as goal

abbrev pub invariant-loop-j : goal.invariant-loop-j
invariant-loop-j l = l.ctx.tree ≡ with_edges l.fn.ctx.tree l.branch l.values (take l.j l.targets)

use Rattle.std.proofs.Common.{◌≡◌, map, Some}
use Rattle.std.specs.List.{range_with_len}
use Rattle.pliron_core.specs.Tree.{operands_of}
use Rattle.pliron_laws.specs.Acting.{pick}
use Rattle.pliron_dialect.proofs.ranges.operands_at.Given as goal

abbrev pub invariant-loop-j : goal.invariant-loop-j
invariant-loop-j l = map Some l.values.items ≡ pick (range_with_len l.places.first l.j) (operands_of l.ctx.tree l.op)

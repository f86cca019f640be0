use Rattle.std.proofs.Common.{◌≤◌, Some, slice_get, sym, ap, ◌∙◌, arith, tests}
use Rattle.pliron_core.specs.Tree.{operands_of}
use Rattle.pliron_core.proofs.GrownLemmas.{mapped_range_get}
use Rattle.pliron_dialect.proofs.RangeReads.{picked_past}
use Rattle.pliron_dialect.proofs.ranges.operand_among.Goals as goal

pub returns-then-j-places : goal.returns-then-j-places
returns-then-j-places c = sym (mapped_range_get (slice_get (operands_of c.args.ctx.now.tree c.args.op)) c.args.places.first c.args.places.count c.args.j (grind (arith, tests, c.if-j-places.true)) ∙ ap Some c.get_operand.ensures.operand)

pub returns-else-j-places : goal.returns-else-j-places
returns-else-j-places c =
    let le : c.args.places.count ≤ c.args.j = grind (arith, tests, c.if-j-places.false) in
    sym (picked_past (operands_of c.args.ctx.now.tree c.args.op) c.args.places.first c.args.places.count c.args.j le)

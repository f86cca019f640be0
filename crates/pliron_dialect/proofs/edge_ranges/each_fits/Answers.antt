use Rattle.std.proofs.Common.{◌<◌, ◌≤◌, arith, tests}
use Rattle.pliron_dialect.proofs.EdgeLemmas.{counts_are, counts_differ}
use Rattle.pliron_dialect.proofs.edge_ranges.each_fits.Goals as goal

pub returns-then-all-operands : goal.returns-then-all-operands
returns-then-all-operands c =
    let lt : c.start_at-all.result < c.args.operands = grind (arith, tests, c.if-all-operands.true) in
    counts_are c.args.edges c.start_at-all.result c.args.operands c.args.attrs.now c.start_at-all.ensures lt

pub returns-else-all-operands : goal.returns-else-all-operands
returns-else-all-operands c =
    let le : c.args.operands ≤ c.start_at-all.result = grind (arith, tests, c.if-all-operands.false) in
    counts_differ c.args.edges c.start_at-all.result c.args.operands c.args.attrs.now c.start_at-all.ensures le

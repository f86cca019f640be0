use Rattle.std.proofs.Common.{◌<◌, ◌≤◌, length, arith, tests}
use Rattle.pliron_dialect.proofs.EdgeLemmas.{count_there, none_behind, none_past}
use Rattle.pliron_dialect.proofs.edge_ranges.count_at.Goals as goal

pub returns-then-i-edges : goal.returns-then-i-edges
returns-then-i-edges c =
    let le : c.args.edges ≤ c.args.i = grind (arith, tests, c.if-i-edges.true) in none_behind c.args.edges c.args.i c.args.most c.args.attrs.now le

pub returns-then-i-len : goal.returns-then-i-len
returns-then-i-len c =
    let le : length c.args.attrs.now ≤ c.args.i = grind (arith, tests, c.if-i-len.true, c.len.ensures) in none_past c.args.edges c.args.i c.args.most c.args.attrs.now le

pub returns : goal.returns
returns c =
    let lt : c.args.i < c.args.edges = grind (arith, tests, c.if-i-edges.false) in count_there c.args.edges c.args.i c.count_up_to.result c.args.most c.args.attrs.now c.get.result.now lt c.get.ensures c.count_up_to.ensures

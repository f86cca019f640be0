use Rattle.std.proofs.Common.{◌≡◌, ◌<◌, ◌≤◌, suc, false, nat_eq, length, sym, ◌∙◌, arith, tests}
use Rattle.pliron_dialect.specs.Counts.{counted_by}
use Rattle.pliron_dialect_mlir.proofs.AttributeLemmas.{case_here, case_next, case_none}
use Rattle.pliron_dialect_mlir.proofs.tables.edge_of_case.Goals as goal

pub returns-then-attribute_count-bits : goal.returns-then-attribute_count-bits
returns-then-attribute_count-bits c =
    let same : c.attribute_count.result ≡ c.args.bits = grind (arith, tests, c.if-attribute_count-bits.true) in
    let more : suc c.loop-i.i < length c.args.attrs.now = omega arith in
    case_here c.args.attrs.now c.args.first c.loop-i.i c.args.bits c.get.result.now c.loop-i.invariant c.get.ensures more (sym c.attribute_count.ensures ∙ same)

pub loop-i-preserved : goal.loop-i-preserved
loop-i-preserved c =
    let attribute_count = c.attribute_count.ensures in
    let other : nat_eq (counted_by c.get.result.now) c.args.bits ≡ false = grind (arith, tests, c.if-attribute_count-bits.false, c.attribute_count.ensures) in
    case_next c.args.attrs.now c.args.first c.loop-i.i c.args.bits c.get.result.now c.loop-i.invariant c.get.ensures other

pub returns : goal.returns
returns c =
    let behind : length c.args.attrs.now ≤ suc c.loop-i.i = omega (arith, c.loop-i-test.false) in
    case_none c.args.attrs.now c.args.first c.loop-i.i c.args.bits c.loop-i.invariant behind

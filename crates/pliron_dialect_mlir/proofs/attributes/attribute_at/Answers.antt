use Rattle.std.proofs.Common.{◌≤◌, length, sym, ◌∙◌, arith, tests}
use Rattle.pliron_dialect_mlir.proofs.AttributeLemmas.{attribute_there, attribute_past}
use Rattle.pliron_dialect_mlir.proofs.attributes.attribute_at.Goals as goal

pub returns-then-i-len : goal.returns-then-i-len
returns-then-i-len c = c.attribute_count.ensures ∙ sym (attribute_there c.args.attrs.now c.args.i c.get.result.now c.get.ensures)

pub returns-else-i-len : goal.returns-else-i-len
returns-else-i-len c =
    let le : length c.args.attrs.now ≤ c.args.i = grind (arith, tests, c.if-i-len.false) in sym (attribute_past c.args.attrs.now c.args.i le)

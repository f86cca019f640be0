use Rattle.std.proofs.Common.{◌<◌, ◌≡◌, Some, None, ap, sym, ◌∙◌, arith, tests, rules, FitsSigned}
use Rattle.std.specs.Int.{w128}
use Rattle.std.proofs.lemmas.Int.{to_z-of_z}
use Rattle.pliron_dialect_mlir.specs.Data.{bits_at}
use Rattle.pliron_dialect_mlir.proofs.AttributeLemmas.{switch_wide, switch_told}
use Rattle.pliron_dialect_mlir.proofs.tables.switch_edge.Goals as goal

pub returns-then-width-gt65 : goal.returns-then-width-gt65
returns-then-width-gt65 c =
    let lt : 65 < c.attribute_count-width.result = grind (arith, tests, c.if-width-gt65.true) in
    switch_wide c.args.attrs.now c.args.edges c.attribute_count-width.result c.get.result.now c.args.datum c.get.ensures c.attribute_count-width.ensures lt

pub returns-in-Some : goal.returns-in-Some
returns-in-Some c =
    let fits : FitsSigned w128 c.args.datum = search rules in
    ap Some c.edge_of_case.ensures ∙ switch_told c.args.attrs.now c.args.edges c.attribute_count-width.result c.get.result.now c.args.datum (Some c.in-Some.bits) c.get.ensures c.attribute_count-width.ensures (c.in-Some.ensures.same ∙ ap (bits_at c.attribute_count-width.result) (to_z-of_z w128 c.args.datum fits))

pub returns-in-None : goal.returns-in-None
returns-in-None c =
    let fits : FitsSigned w128 c.args.datum = search rules in
    switch_told c.args.attrs.now c.args.edges c.attribute_count-width.result c.get.result.now c.args.datum None c.get.ensures c.attribute_count-width.ensures (c.in-None.ensures.same ∙ ap (bits_at c.attribute_count-width.result) (to_z-of_z w128 c.args.datum fits))

use Rattle.std.proofs.Common.{◌≡◌, true, false, sym, ◌∙◌}
use Rattle.pliron_evaluator.specs.Evaluator.{datum_of_value}
use Rattle.pliron_dialect_mlir.specs.OtherData.{is_of_width}
use Rattle.pliron_dialect_mlir.proofs.PassingLemmas.{other_more, other_here, other_none}
use Rattle.pliron_dialect_mlir.proofs.passing.first_other.Goals as goal

pub loop-datum-preserved : goal.loop-datum-preserved
loop-datum-preserved c =
    let is : is_of_width c.args.width (datum_of_value c.datum-item.result) ≡ true = cc in
    c.loop-datum.invariant ∙ other_more c.args.width c.args.input.now c.loop-datum.datum-index c.datum-item.result c.loop-datum-test.true c.datum-item.is is

pub returns : goal.returns
returns c = sym (c.loop-datum.invariant ∙ other_none c.args.width c.args.input.now c.loop-datum.datum-index c.loop-datum-test.false)

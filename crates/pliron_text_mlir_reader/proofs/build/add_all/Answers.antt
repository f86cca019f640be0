use Rattle.pliron_text_mlir_reader.proofs.AdditionLemmas.{adds_more}
use Rattle.pliron_text_mlir_reader.proofs.build.add_all.Goals as goal

-- src/build.rt:95:9
pub returns-in_err-add_next : goal.returns-in_err-add_next
returns-in_err-add_next c = adds_more c.args.ctx.now.tree c.loop-number.ctx.tree c.add_next.new.ctx.tree c.loop-number.invariant c.add_next.ensures

-- src/build.rt:94:5
pub loop-number-preserved : goal.loop-number-preserved
loop-number-preserved c = adds_more c.args.ctx.now.tree c.loop-number.ctx.tree c.add_next.new.ctx.tree c.loop-number.invariant c.add_next.ensures

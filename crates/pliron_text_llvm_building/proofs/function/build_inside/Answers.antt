use Rattle.pliron_text_llvm_building.proofs.AdditionLemmas.{adds_more, adds_before_none, adds_behind_none}
use Rattle.pliron_text_llvm_building.proofs.function.build_inside.Goals as goal

pub returns-in_err-add_operations-clause-added : goal.returns-in_err-add_operations-clause-added
returns-in_err-add_operations-clause-added c =
    adds_more c.args.ctx.now.tree c.add_constants.new.ctx.tree c.add_operations.new.ctx.tree
    (adds_behind_none c.args.ctx.now.tree c.add_blocks.new.ctx.tree c.add_constants.new.ctx.tree c.add_blocks.ensures.operations c.add_constants.ensures.added) c.add_operations.ensures.added

pub returns-clause-added : goal.returns-clause-added
returns-clause-added c =
    adds_before_none c.args.ctx.now.tree c.add_operations.new.ctx.tree c.connect_all.new.ctx.tree
    (adds_more c.args.ctx.now.tree c.add_constants.new.ctx.tree c.add_operations.new.ctx.tree
    (adds_behind_none c.args.ctx.now.tree c.add_blocks.new.ctx.tree c.add_constants.new.ctx.tree c.add_blocks.ensures.operations c.add_constants.ensures.added) c.add_operations.ensures.added) c.connect_all.ensures

use Rattle.std.proofs.Common.{ap}
use Rattle.pliron_rewrite_calls.proofs.InliningCalls.{jump_stands, jump_contained, call_stands, call_contained, new_stands, block_stands, new_outside, call_is_replaced}
use Rattle.pliron_rewrite_calls.proofs.inlining.replace_call.Goals as goal

pub erase_operation-requires-clause-live : goal.erase_operation-requires-clause-live
erase_operation-requires-clause-live g c = jump_stands c.args.ctx.now.tree c.args.block c.args.call c.args.jump c.args.new c.well_formed-2.ensures.tree c.requires.holds c.requires.behind c.requires.last c.requires.free c.requires.new c.requires.plain c.requires.bare c.requires.used_there c.requires.childless

pub erase_operation-requires-clause-contained : goal.erase_operation-requires-clause-contained
erase_operation-requires-clause-contained g c = jump_contained c.args.ctx.now.tree c.args.block c.args.call c.args.jump c.args.new c.well_formed-2.ensures.tree c.requires.holds c.requires.behind c.requires.last c.requires.free c.requires.new c.requires.plain c.requires.bare c.requires.used_there c.requires.childless

pub erase_operation-requires-2-clause-live : goal.erase_operation-requires-2-clause-live
erase_operation-requires-2-clause-live g c = call_stands c.args.ctx.now.tree c.args.block c.args.call c.args.jump c.args.new c.well_formed-2.ensures.tree c.requires.holds c.requires.behind c.requires.last c.requires.free c.requires.new c.requires.plain c.requires.bare c.requires.used_there c.requires.childless c.erase_operation.new.ctx.tree c.well_formed-3.ensures.tree c.erase_operation.ensures.erased

pub erase_operation-requires-2-clause-contained : goal.erase_operation-requires-2-clause-contained
erase_operation-requires-2-clause-contained g c = call_contained c.args.ctx.now.tree c.args.block c.args.call c.args.jump c.args.new c.well_formed-2.ensures.tree c.requires.holds c.requires.behind c.requires.last c.requires.free c.requires.new c.requires.plain c.requires.bare c.requires.used_there c.requires.childless c.erase_operation.new.ctx.tree c.well_formed-3.ensures.tree c.erase_operation.ensures.erased

pub move_operation_to_end-requires-clause-live : goal.move_operation_to_end-requires-clause-live
move_operation_to_end-requires-clause-live g c = new_stands c.args.ctx.now.tree c.args.block c.args.call c.args.jump c.args.new c.well_formed-2.ensures.tree c.requires.holds c.requires.behind c.requires.last c.requires.free c.requires.new c.requires.plain c.requires.bare c.requires.used_there c.requires.childless c.erase_operation.new.ctx.tree c.well_formed-3.ensures.tree c.erase_operation.ensures.erased c.erase_operation-2.new.ctx.tree c.well_formed-4.ensures.tree c.erase_operation-2.ensures.erased

pub move_operation_to_end-requires-clause-block : goal.move_operation_to_end-requires-clause-block
move_operation_to_end-requires-clause-block g c = block_stands c.args.ctx.now.tree c.args.block c.args.call c.args.jump c.args.new c.well_formed-2.ensures.tree c.requires.holds c.requires.behind c.requires.last c.requires.free c.requires.new c.requires.plain c.requires.bare c.requires.used_there c.requires.childless c.erase_operation.new.ctx.tree c.well_formed-3.ensures.tree c.erase_operation.ensures.erased c.erase_operation-2.new.ctx.tree c.well_formed-4.ensures.tree c.erase_operation-2.ensures.erased

pub move_operation_to_end-requires-clause-outside : goal.move_operation_to_end-requires-clause-outside
move_operation_to_end-requires-clause-outside g c = new_outside c.args.ctx.now.tree c.args.block c.args.call c.args.jump c.args.new c.well_formed-2.ensures.tree c.requires.holds c.requires.behind c.requires.last c.requires.free c.requires.new c.requires.plain c.requires.bare c.requires.used_there c.requires.childless c.erase_operation.new.ctx.tree c.well_formed-3.ensures.tree c.erase_operation.ensures.erased c.erase_operation-2.new.ctx.tree c.well_formed-4.ensures.tree c.erase_operation-2.ensures.erased

pub returns-clause-replaced : goal.returns-clause-replaced
returns-clause-replaced g c = call_is_replaced c.args.ctx.now.tree c.args.block c.args.call c.args.jump c.args.new c.well_formed-2.ensures.tree c.requires.holds c.requires.behind c.requires.last c.requires.free c.requires.new c.requires.plain c.requires.bare c.requires.used_there c.requires.childless c.erase_operation.new.ctx.tree c.well_formed-3.ensures.tree c.erase_operation.ensures.erased c.erase_operation-2.new.ctx.tree c.well_formed-4.ensures.tree c.erase_operation-2.ensures.erased c.move_operation_to_end.new.ctx.tree (ap (λ z. z.tree) c.move_operation_to_end.ensures.moved)

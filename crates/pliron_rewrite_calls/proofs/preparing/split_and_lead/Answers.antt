use Rattle.std.proofs.Common.{rules, ◌≡◌, None, length, sym, ap, ◌∙◌, subst, arith}
use Rattle.pliron_core.specs.Invariant.{IsTree}
use Rattle.pliron_core.specs.Tree.{Tree, IsRegion, last_of, layout_of}
use Rattle.pliron_rewrite_calls.specs.CopySteps.{IsGrownIn}
use Rattle.pliron_rewrite_calls.specs.Preparing.{IsLedOn}
use Rattle.pliron_rewrite_calls.proofs.CallSteps.{made_long, made_unused, undone_grown, led_ready, block_stands, jump_outside, all_led}
use Rattle.pliron_rewrite_calls.proofs.preparing.split_and_lead.Goals as goal

pub lead_to-requires-clause-long : goal.lead_to-requires-clause-long
lead_to-requires-clause-long g c = made_long c.args.ctx.now.tree c.create.new.ctx.tree c.well_formed-2.ensures.tree c.args.call c.in-Some.block c.in-Some-get_parent_region.region c.in_ok-new.new c.num_result-count.result (sym c.in-Some.ensures.block) (sym c.in-Some-get_parent_region.ensures.region) c.num_result-count.ensures c.in_ok-new.ensures.ok c.in_ok-new.ensures.key

pub lead_to-requires-clause-unused : goal.lead_to-requires-clause-unused
lead_to-requires-clause-unused g c = made_unused c.args.ctx.now.tree c.create.new.ctx.tree c.well_formed-2.ensures.tree c.args.call c.in-Some.block c.in-Some-get_parent_region.region c.in_ok-new.new c.num_result-count.result (sym c.in-Some.ensures.block) (sym c.in-Some-get_parent_region.ensures.region) c.num_result-count.ensures c.in_ok-new.ensures.ok c.in_ok-new.ensures.key

pub move_behind-requires-clause-holds : goal.move_behind-requires-clause-holds
move_behind-requires-clause-holds g c = (led_ready c.args.ctx.now.tree c.create.new.ctx.tree c.well_formed-2.ensures.tree c.args.call c.in-Some.block c.in-Some-get_parent_region.region c.in_ok-new.new c.num_result-count.result (sym c.in-Some.ensures.block) (sym c.in-Some-get_parent_region.ensures.region) c.num_result-count.ensures c.in_ok-new.ensures.ok c.in_ok-new.ensures.key c.lead_to.new.ctx.tree c.well_formed-in-Ok.ensures.tree c.in-Ok.jump c.in_ok-head.head c.in-Ok.ensures.made).holds

pub move_behind-requires-clause-empty : goal.move_behind-requires-clause-empty
move_behind-requires-clause-empty g c = (led_ready c.args.ctx.now.tree c.create.new.ctx.tree c.well_formed-2.ensures.tree c.args.call c.in-Some.block c.in-Some-get_parent_region.region c.in_ok-new.new c.num_result-count.result (sym c.in-Some.ensures.block) (sym c.in-Some-get_parent_region.ensures.region) c.num_result-count.ensures c.in_ok-new.ensures.ok c.in_ok-new.ensures.key c.lead_to.new.ctx.tree c.well_formed-in-Ok.ensures.tree c.in-Ok.jump c.in_ok-head.head c.in-Ok.ensures.made).empty

pub move_behind-requires-clause-beside : goal.move_behind-requires-clause-beside
move_behind-requires-clause-beside g c = (led_ready c.args.ctx.now.tree c.create.new.ctx.tree c.well_formed-2.ensures.tree c.args.call c.in-Some.block c.in-Some-get_parent_region.region c.in_ok-new.new c.num_result-count.result (sym c.in-Some.ensures.block) (sym c.in-Some-get_parent_region.ensures.region) c.num_result-count.ensures c.in_ok-new.ensures.ok c.in_ok-new.ensures.key c.lead_to.new.ctx.tree c.well_formed-in-Ok.ensures.tree c.in-Ok.jump c.in_ok-head.head c.in-Ok.ensures.made).beside

pub move_operation_to_end-requires-clause-block : goal.move_operation_to_end-requires-clause-block
move_operation_to_end-requires-clause-block g c = block_stands c.args.ctx.now.tree c.create.new.ctx.tree c.well_formed-2.ensures.tree c.args.call c.in-Some.block c.in-Some-get_parent_region.region c.in_ok-new.new c.num_result-count.result (sym c.in-Some.ensures.block) (sym c.in-Some-get_parent_region.ensures.region) c.num_result-count.ensures c.in_ok-new.ensures.ok c.in_ok-new.ensures.key c.lead_to.new.ctx.tree c.well_formed-in-Ok.ensures.tree c.in-Ok.jump c.in_ok-head.head c.in-Ok.ensures.made c.move_behind.new.ctx.tree c.well_formed-in-Ok-2.ensures.tree c.move_behind.ensures.moved

pub move_operation_to_end-requires-clause-outside : goal.move_operation_to_end-requires-clause-outside
move_operation_to_end-requires-clause-outside g c = jump_outside c.args.ctx.now.tree c.create.new.ctx.tree c.well_formed-2.ensures.tree c.args.call c.in-Some.block c.in-Some-get_parent_region.region c.in_ok-new.new c.num_result-count.result (sym c.in-Some.ensures.block) (sym c.in-Some-get_parent_region.ensures.region) c.num_result-count.ensures c.in_ok-new.ensures.ok c.in_ok-new.ensures.key c.lead_to.new.ctx.tree c.well_formed-in-Ok.ensures.tree c.in-Ok.jump c.in_ok-head.head c.in-Ok.ensures.made c.move_behind.new.ctx.tree c.well_formed-in-Ok-2.ensures.tree c.move_behind.ensures.moved

pub erase_new_blocks-requires : goal.erase_new_blocks-requires
erase_new_blocks-requires g c =
    let w = c.well_formed-2.ensures.tree in
    let region = c.in-Some-get_parent_region.region in
    let same : g.t ≡ c.args.ctx.now.tree = c.requires.1.1.0 in
    let stands = w.joined.placed c.in-Some.block region (sym c.in-Some-get_parent_region.ensures.region) in
    let tree : IsTree g.t = subst IsTree (sym same) w in
    let into : IsRegion g.t region = subst (λ (y : Tree). IsRegion y region) (sym same) stands in
    let grown : IsGrownIn g.t c.lead_to.new.ctx.tree region = subst (λ (y : Tree). IsGrownIn y c.lead_to.new.ctx.tree region) (sym same) (undone_grown c.args.ctx.now.tree c.create.new.ctx.tree c.well_formed-2.ensures.tree c.args.call c.in-Some.block c.in-Some-get_parent_region.region c.in_ok-new.new c.num_result-count.result (sym c.in-Some.ensures.block) (sym c.in-Some-get_parent_region.ensures.region) c.num_result-count.ensures c.in_ok-new.ensures.ok c.in_ok-new.ensures.key c.lead_to.new.ctx.tree stands c.in-Err.ensures.refused) in
    let last : c.get_tail-last.result ≡ last_of None (layout_of g.t region) = c.get_tail-last.ensures.last ∙ ap (λ (y : Tree). last_of None (layout_of y region)) (sym same) in
    search rules

pub returns-in-Ok-clause-led : goal.returns-in-Ok-clause-led
returns-in-Ok-clause-led g c = all_led c.args.ctx.now.tree c.create.new.ctx.tree c.well_formed-2.ensures.tree c.args.call c.in-Some.block c.in-Some-get_parent_region.region c.in_ok-new.new c.num_result-count.result (sym c.in-Some.ensures.block) (sym c.in-Some-get_parent_region.ensures.region) c.num_result-count.ensures c.in_ok-new.ensures.ok c.in_ok-new.ensures.key c.lead_to.new.ctx.tree c.well_formed-in-Ok.ensures.tree c.in-Ok.jump c.in_ok-head.head c.in-Ok.ensures.made c.move_behind.new.ctx.tree c.well_formed-in-Ok-2.ensures.tree c.move_behind.ensures.moved g.D.HasMeaning.meaning c.move_operation_to_end.new.ctx.tree c.in_ok-head.ensures.jump (ap (λ y. y.tree) c.move_operation_to_end.ensures.moved)

pub returns-in-Ok-clause-longer : goal.returns-in-Ok-clause-longer
returns-in-Ok-clause-longer g c =
    let l : IsLedOn g.D.HasMeaning.meaning c.args.ctx.now.tree c.move_operation_to_end.new.ctx.tree c.args.call = all_led c.args.ctx.now.tree c.create.new.ctx.tree c.well_formed-2.ensures.tree c.args.call c.in-Some.block c.in-Some-get_parent_region.region c.in_ok-new.new c.num_result-count.result (sym c.in-Some.ensures.block) (sym c.in-Some-get_parent_region.ensures.region) c.num_result-count.ensures c.in_ok-new.ensures.ok c.in_ok-new.ensures.key c.lead_to.new.ctx.tree c.well_formed-in-Ok.ensures.tree c.in-Ok.jump c.in_ok-head.head c.in-Ok.ensures.made c.move_behind.new.ctx.tree c.well_formed-in-Ok-2.ensures.tree c.move_behind.ensures.moved g.D.HasMeaning.meaning c.move_operation_to_end.new.ctx.tree c.in_ok-head.ensures.jump (ap (λ y. y.tree) c.move_operation_to_end.ensures.moved) in
    let n = l.operation_count in
    omega (arith, n)

use Rattle.std.proofs.Common.{◌<◌, ℕ, List, length, refl, sym, subst, ap, ◌∙◌}
use Rattle.pliron_core.specs.Tree.{Tree, IsBlock, body_of}
use Rattle.pliron_core.specs.WalkSteps.{rest_after}
use Rattle.pliron_rewrite_calls.specs.Splitting.{AreMoving}
use Rattle.pliron_rewrite_calls.proofs.MovedBehind.{IsMovedOne, none_moved, moved_one, all_moved, still_live}
use Rattle.pliron_rewrite_calls.proofs.splitting.move_behind.Given.{Over}
use Rattle.pliron_rewrite_calls.proofs.splitting.move_behind.Goals as goal
use Rattle.pliron_rewrite_calls.proofs.splitting.move_behind.Goals.{After-move_operation_to_end}

next : (g : Over) (c : After-move_operation_to_end g) → IsMovedOne c.args.ctx.now.tree c.loop-behind.ctx.tree c.args.op c.args.block c.args.new c.in-Some.behind
next g c = moved_one c.args.ctx.now.tree c.loop-behind.ctx.tree c.well_formed-2.ensures.tree c.well_formed-in-Some.ensures.tree c.args.op c.args.block c.args.new c.in-Some.behind c.requires.apart c.requires.holds c.requires.new c.requires.beside c.loop-behind.invariant.moving c.in-Some.ensures.next

pub loop-behind-init : goal.loop-behind-init
loop-behind-init g c = record {
  moving = (rest_after c.args.op (body_of c.args.ctx.now.tree c.args.block), none_moved c.args.ctx.now.tree c.well_formed-2.ensures.tree c.args.op c.args.block c.args.new c.requires.holds c.requires.empty);
  point = refl;
}

pub get_next-requires : goal.get_next-requires
get_next-requires g c = still_live c.args.ctx.now.tree c.loop-behind.ctx.tree c.well_formed-2.ensures.tree c.args.op c.args.block c.args.new c.requires.holds c.loop-behind.invariant.moving

pub move_operation_to_end-requires-clause-block : goal.move_operation_to_end-requires-clause-block
move_operation_to_end-requires-clause-block g c = subst (λ (z : Tree). IsBlock z c.args.new) (sym c.loop-behind.invariant.moving.1.same) c.requires.new

pub move_operation_to_end-requires-clause-outside : goal.move_operation_to_end-requires-clause-outside
move_operation_to_end-requires-clause-outside g c = (moved_one c.args.ctx.now.tree c.loop-behind.ctx.tree c.well_formed-2.ensures.tree c.well_formed-in-Some.ensures.tree c.args.op c.args.block c.args.new c.in-Some.behind c.requires.apart c.requires.holds c.requires.new c.requires.beside c.loop-behind.invariant.moving c.in-Some.ensures.next).outside

pub loop-behind-smaller : goal.loop-behind-smaller
loop-behind-smaller g c =
    subst (λ (z : Tree). length (body_of z c.args.block) < length (body_of c.loop-behind.ctx.tree c.args.block)) (sym (ap (λ z. z.tree) c.move_operation_to_end.ensures.moved)) (next g c).fewer

pub loop-behind-preserved : goal.loop-behind-preserved
loop-behind-preserved g c = record {
  moving = subst (λ (z : Tree). (rest : List ℕ) × AreMoving c.args.ctx.now.tree z c.args.op c.args.block c.args.new rest) (sym (ap (λ z. z.tree) c.move_operation_to_end.ensures.moved)) (next g c).moving;
  point = c.move_operation_to_end.ensures.point ∙ c.loop-behind.invariant.point;
}

pub returns-clause-moved : goal.returns-clause-moved
returns-clause-moved g c = all_moved c.args.ctx.now.tree c.loop-behind.ctx.tree c.well_formed-3.ensures.tree c.args.op c.args.block c.args.new c.loop-behind.invariant.moving (sym c.in_default.is ∙ c.get_next.ensures.next)

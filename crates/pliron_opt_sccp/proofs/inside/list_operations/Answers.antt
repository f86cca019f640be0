use Rattle.std.proofs.Common.{ap, ◌∙◌}
use Rattle.pliron_core.specs.Tree.{body_of, up_from}
use Rattle.pliron_core.specs.Lists.{next_in}
use Rattle.pliron_opt_sccp.specs.declared.inside.Part.TheVariants.{Operation}
use Rattle.pliron_opt_sccp.proofs.Going.{walk_start, walk_next, walk_smaller, walk_end}
use Rattle.pliron_opt_sccp.proofs.Preorder.{AddsParts, parts_none, parts_step}
use Rattle.pliron_opt_sccp.proofs.inside.list_operations.Goals as goal

pub loop-at-init : goal.loop-at-init
loop-at-init c = walk_start (AddsParts (λ k. Operation k)) (body_of c.args.ctx.now.tree c.args.block) c.get_head-at.result c.args.parts.now.items c.get_head-at.ensures.first

pub get_next-at-requires : goal.get_next-at-requires
get_next-at-requires c =
    let w = c.well_formed-2.ensures.tree in
    (w.joined.all_in_place c.in-Some.op c.args.block (w.bodies.owned c.in-Some.op c.args.block (c.loop-at.invariant.within c.in-Some.op c.in-Some.is))).0

pub loop-at-preserved : goal.loop-at-preserved
loop-at-preserved c =
    let w = c.well_formed-2.ensures.tree in
    let owned = w.bodies.owned c.in-Some.op c.args.block (c.loop-at.invariant.within c.in-Some.op c.in-Some.is) in
    let next = c.get_next-at.ensures.next ∙ ap (λ o. up_from o (λ b. next_in c.in-Some.op (body_of c.args.ctx.now.tree b))) owned in
    walk_next (AddsParts (λ k. Operation k)) (body_of c.args.ctx.now.tree c.args.block) c.loop-at.at c.get_next-at.result c.in-Some.op c.args.parts.now.items c.loop-at.parts.items c.push.new.self.items (w.bodies.distinct c.args.block) c.loop-at.invariant c.in-Some.is next (parts_step (λ k. Operation k) c.in-Some.op c.loop-at.parts.items c.push.new.self.items c.in_ok-push.ensures.items)

pub loop-at-smaller : goal.loop-at-smaller
loop-at-smaller c =
    let w = c.well_formed-2.ensures.tree in
    let owned = w.bodies.owned c.in-Some.op c.args.block (c.loop-at.invariant.within c.in-Some.op c.in-Some.is) in
    let next = c.get_next-at.ensures.next ∙ ap (λ o. up_from o (λ b. next_in c.in-Some.op (body_of c.args.ctx.now.tree b))) owned in
    walk_smaller (AddsParts (λ k. Operation k)) (body_of c.args.ctx.now.tree c.args.block) c.loop-at.at c.get_next-at.result c.in-Some.op c.args.parts.now.items c.loop-at.parts.items (w.bodies.distinct c.args.block) c.loop-at.invariant c.in-Some.is next

pub returns-clause-ok : goal.returns-clause-ok
returns-clause-ok c =
    walk_end (AddsParts (λ k. Operation k)) (body_of c.args.ctx.now.tree c.args.block) c.loop-at.at c.args.parts.now.items c.loop-at.parts.items c.in_default.is (parts_none (λ k. Operation k) c.loop-at.parts.items) c.loop-at.invariant

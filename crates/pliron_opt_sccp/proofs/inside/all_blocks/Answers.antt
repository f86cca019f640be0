use Rattle.std.proofs.Common.{◌≡◌, [], ◌++◌, reverse, ap, ◌∙◌, subst, sym, arith}
use Rattle.pliron_opt_sccp.specs.Inside.{blocks_directly_in}
use Rattle.pliron_opt_sccp.proofs.Listing.{AreOwing, owing_start, owing_inside, owing_step, owing_smaller, owing_end}
use Rattle.pliron_opt_sccp.proofs.inside.all_blocks.Goals as goal

pub loop-block-init : goal.loop-block-init
loop-block-init c =
    let t = c.args.ctx.now.tree in
    let first = c.in_ok-stack_regions.ensures.ok ∙ ap (λ xs. xs ++ reverse (blocks_directly_in t c.args.root)) c.new-stack.ensures.items in
    subst (λ xs. AreOwing t c.args.root xs c.stack_regions.new.stack.items) (sym c.new-found.ensures.items) (owing_start t c.well_formed-2.ensures.tree c.args.root c.stack_regions.new.stack.items c.requires first)

pub stack_body-requires : goal.stack_body-requires
stack_body-requires c =
    owing_inside c.args.ctx.now.tree c.well_formed-2.ensures.tree c.args.root c.in-Some.block c.loop-block.found.items c.loop-block.stack.items c.pop.new.self.items c.in-Some.ensures.items c.loop-block.invariant

pub loop-block-preserved : goal.loop-block-preserved
loop-block-preserved c =
    owing_step c.args.ctx.now.tree c.well_formed-2.ensures.tree c.args.root c.in-Some.block c.loop-block.found.items c.push.new.self.items c.loop-block.stack.items c.pop.new.self.items c.stack_body.new.stack.items c.in-Some.ensures.items c.loop-block.invariant c.in_ok-push.ensures.items c.in_ok-stack_body.ensures.ok

pub loop-block-smaller : goal.loop-block-smaller
loop-block-smaller c =
    owing_smaller c.args.ctx.now.tree c.well_formed-2.ensures.tree c.args.root c.in-Some.block c.loop-block.found.items c.push.new.self.items c.loop-block.stack.items c.pop.new.self.items c.in-Some.ensures.items c.loop-block.invariant c.in_ok-push.ensures.items

pub returns-clause-ok : goal.returns-clause-ok
returns-clause-ok c =
    let none : c.loop-block.stack.items ≡ [] = grind (arith) in
    owing_end c.args.ctx.now.tree c.well_formed-2.ensures.tree c.args.root c.loop-block.found.items c.loop-block.stack.items c.loop-block.invariant none

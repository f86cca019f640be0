use Rattle.std.proofs.Common.{◌≡◌, ◌≤◌, length, ap, ◌∙◌, arith, ◌++◌}
use Rattle.std.specs.List.{flat_map}
use Rattle.pliron_core.specs.Tree.{body_of}
use Rattle.pliron_core.specs.Walks.{preorder}
use Rattle.pliron_laws.proofs.MappedLists.{mapped_more, mapped_all}
use Rattle.pliron_opt_cfg.proofs.BodyWalks.{listed-live}
use Rattle.pliron_opt_cfg.proofs.removal.contents.push_block_contents.Goals as goal

pub push_contents-requires : goal.push_contents-requires
push_contents-requires c =
    let same : c.deref-op-items.result.now ≡ body_of c.args.ctx.now.tree c.args.block = c.deref-op-items.ensures.value ∙ c.in_ok-direct.ensures in
    listed-live c.args.ctx.now.tree c.well_formed-2.ensures.tree c.args.block c.deref-op-items.result.now c.loop-op.op-index c.op-item.result same c.loop-op-test.true c.op-item.is

pub loop-op-preserved : goal.loop-op-preserved
loop-op-preserved c =
    mapped_more (λ k. preorder c.args.ctx.now.tree k) c.deref-op-items.result.now c.loop-op.op-index c.op-item.result c.args.ops.now.items c.loop-op.ops.items c.push_contents.new.ops.items c.loop-op-test.true c.op-item.is c.loop-op.invariant c.in_ok-push_contents.ensures.items

pub returns-clause-items : goal.returns-clause-items
returns-clause-items c =
    let all : length c.deref-op-items.result.now ≤ c.loop-op.op-index = omega (arith, c.loop-op-test.false) in
    let same : c.deref-op-items.result.now ≡ body_of c.args.ctx.now.tree c.args.block = c.deref-op-items.ensures.value ∙ c.in_ok-direct.ensures in
    mapped_all (λ k. preorder c.args.ctx.now.tree k) c.deref-op-items.result.now c.loop-op.op-index c.args.ops.now.items c.loop-op.ops.items all c.loop-op.invariant ∙ ap (λ z. c.args.ops.now.items ++ flat_map (λ k. preorder c.args.ctx.now.tree k) z) same

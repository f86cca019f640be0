use Rattle.std.proofs.Common.{◌≡◌, ◌≤◌, length, ap, ◌∙◌, arith, ◌++◌}
use Rattle.std.specs.List.{flat_map}
use Rattle.pliron_core.specs.Tree.{regions_of, body_of}
use Rattle.pliron_laws.proofs.MappedLists.{mapped_all}
use Rattle.pliron_opt_cfg.proofs.BodyWalks.{listed-live}
use Rattle.pliron_opt_cfg.proofs.visits.push_nested.Goals as goal

pub push_regions-requires : goal.push_regions-requires
push_regions-requires c =
    let same : c.deref-op-items.result.now ≡ body_of c.args.ctx.now.tree c.args.block = c.deref-op-items.ensures.value ∙ c.in_ok-ops.ensures in
    listed-live c.args.ctx.now.tree c.well_formed-2.ensures.tree c.args.block c.deref-op-items.result.now c.loop-op.op-index c.op-item.result same c.loop-op-test.true c.op-item.is

pub returns-clause-items : goal.returns-clause-items
returns-clause-items c =
    let all : length c.deref-op-items.result.now ≤ c.loop-op.op-index = omega (arith, c.loop-op-test.false) in
    let same : c.deref-op-items.result.now ≡ body_of c.args.ctx.now.tree c.args.block = c.deref-op-items.ensures.value ∙ c.in_ok-ops.ensures in
    mapped_all (λ k. regions_of c.args.ctx.now.tree k) c.deref-op-items.result.now c.loop-op.op-index c.args.regions.now.items c.loop-op.regions.items all c.loop-op.invariant ∙ ap (λ z. c.args.regions.now.items ++ flat_map (λ k. regions_of c.args.ctx.now.tree k) z) same

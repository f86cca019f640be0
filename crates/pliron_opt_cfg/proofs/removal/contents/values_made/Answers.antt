use Rattle.std.proofs.Common.{◌≤◌, [], length, sym, ◌∙◌, arith, append-nil}
use Rattle.std.specs.List.{flat_map}
use Rattle.pliron_core.specs.Tree.{results_of, arguments_of}
use Rattle.pliron_opt_cfg.proofs.ListLemmas.{item_in}
use Rattle.pliron_laws.proofs.MappedLists.{mapped_more, mapped_all}
use Rattle.pliron_opt_cfg.proofs.removal.contents.values_made.Goals as goal

pub push_results-requires : goal.push_results-requires
push_results-requires c = c.requires.ops c.op-item.result (item_in c.args.ops.now c.loop-op.op-index c.op-item.result c.loop-op-test.true c.op-item.is)

pub loop-op-preserved : goal.loop-op-preserved
loop-op-preserved c =
    mapped_more (λ k. results_of c.args.ctx.now.tree k) c.args.ops.now c.loop-op.op-index c.op-item.result [] c.loop-op.values.items c.push_results.new.values.items c.loop-op-test.true c.op-item.is c.loop-op.invariant c.in_ok-push_results.ensures.items

pub loop-block-init : goal.loop-block-init
loop-block-init c =
    let all : length c.args.ops.now ≤ c.loop-op.op-index = omega (arith, c.loop-op-test.false) in
    mapped_all (λ k. results_of c.args.ctx.now.tree k) c.args.ops.now c.loop-op.op-index [] c.loop-op.values.items all c.loop-op.invariant ∙ sym (append-nil (flat_map (λ k. results_of c.args.ctx.now.tree k) c.args.ops.now))

pub push_arguments-requires : goal.push_arguments-requires
push_arguments-requires c = c.requires.blocks c.block-item.result (item_in c.args.blocks.now c.loop-block.block-index c.block-item.result c.loop-block-test.true c.block-item.is)

pub loop-block-preserved : goal.loop-block-preserved
loop-block-preserved c =
    mapped_more (λ b. arguments_of c.args.ctx.now.tree b) c.args.blocks.now c.loop-block.block-index c.block-item.result (flat_map (λ k. results_of c.args.ctx.now.tree k) c.args.ops.now) c.loop-block.values.items c.push_arguments.new.values.items c.loop-block-test.true c.block-item.is c.loop-block.invariant c.in_ok-push_arguments.ensures.items

pub returns-clause-items : goal.returns-clause-items
returns-clause-items c =
    let all : length c.args.blocks.now ≤ c.loop-block.block-index = omega (arith, c.loop-block-test.false) in
    mapped_all (λ b. arguments_of c.args.ctx.now.tree b) c.args.blocks.now c.loop-block.block-index (flat_map (λ k. results_of c.args.ctx.now.tree k) c.args.ops.now) c.loop-block.values.items all c.loop-block.invariant

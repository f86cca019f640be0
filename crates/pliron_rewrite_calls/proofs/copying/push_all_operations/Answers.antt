use Rattle.std.proofs.Common.{◌<◌, ◌≤◌, length, arith}
use Rattle.pliron_core.specs.Tree.{body_of}
use Rattle.pliron_laws.proofs.MappedLists.{mapped_more, mapped_all}
use Rattle.pliron_rewrite_calls.proofs.CopyLists.{there}
use Rattle.pliron_rewrite_calls.proofs.copying.push_all_operations.Goals as goal

pub push_operations-requires : goal.push_operations-requires
push_operations-requires c =
    let lt : c.loop-i.i < length c.args.blocks.now = omega arith in
    c.requires c.index-blocks-i.result (there c.args.blocks.now c.loop-i.i c.index-blocks-i.result lt c.index-blocks-i.is)

pub loop-i-preserved : goal.loop-i-preserved
loop-i-preserved c =
    let lt : c.loop-i.i < length c.args.blocks.now = omega arith in
    mapped_more (λ b. body_of c.args.ctx.now.tree b) c.args.blocks.now c.loop-i.i c.index-blocks-i.result c.args.operations.now.items c.loop-i.operations.items c.push_operations.new.operations.items lt c.index-blocks-i.is c.loop-i.invariant c.in_ok-push_operations.ensures.pushed

pub returns-clause-pushed : goal.returns-clause-pushed
returns-clause-pushed c =
    let all : length c.args.blocks.now ≤ c.loop-i.i = omega arith in
    mapped_all (λ b. body_of c.args.ctx.now.tree b) c.args.blocks.now c.loop-i.i c.args.operations.now.items c.loop-i.operations.items all c.loop-i.invariant

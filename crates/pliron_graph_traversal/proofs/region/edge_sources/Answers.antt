use Rattle.std.proofs.Common.{◌≤◌, length, arith}
use Rattle.pliron_core.specs.Tree.{uses_of}
use Rattle.pliron_graph_traversal.proofs.RegionLemmas.{found_same, found_more, found_all}
use Rattle.pliron_graph_traversal.proofs.region.edge_sources.Goals as goal
use Rattle.pliron_graph_traversal.proofs.region.edge_sources.Goals.{in-Some+in_ok-push, in_default}

pub loop-i-preserved : goal.loop-i-preserved
loop-i-preserved c =
    let v = c.args.ctx.now in
    elim c.match-get_parent_block.branch [
      | in-Some+in_ok-push w ↦
          rw (w.sources-is, w.in_ok-push.ensures.items) (found_more v c.args.block c.loop-i.i c.get_use-user.result.0 c.get_use-user.result.1 c.loop-i.sources.items c.well_formed-2.ensures.uses c.loop-i.invariant c.get_use-user.ensures.listed w.in-Some.source w.in-Some.ensures.block)
      | in_default w ↦
          rw w.sources-is (found_same v c.args.block c.loop-i.i c.get_use-user.result.0 c.get_use-user.result.1 c.loop-i.sources.items c.well_formed-2.ensures.uses c.loop-i.invariant c.get_use-user.ensures.listed c.get_parent_block.result w.in_default.is c.get_parent_block.ensures.block)
    ]

pub returns-clause-sources : goal.returns-clause-sources
returns-clause-sources c =
    let whole : length (uses_of c.args.ctx.now.block_uses c.args.block) ≤ c.loop-i.i = omega arith in
    found_all c.args.ctx.now c.args.block c.loop-i.i c.loop-i.sources.items c.well_formed-2.ensures.uses c.loop-i.invariant whole

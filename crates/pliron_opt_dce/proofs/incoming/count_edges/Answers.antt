use Rattle.std.proofs.Common.{◌≡◌, ◌<◌, ◌^◌, length, sym, subst, ap, ◌∙◌, arith}
use Rattle.std.proofs.lemmas.List.{take_all}
use Rattle.std.proofs.lemmas.Option.{slice_get_within}
use Rattle.pliron_core.specs.Tree.{successors_of, uses_of}
use Rattle.pliron_core.proofs.HoldingLemmas.{in_slice}
use Rattle.pliron_opt_dce.specs.declared.incoming.IncomingEdge.{IncomingEdge}
use Rattle.pliron_opt_dce.specs.Incoming.{edge_of_incoming, edges_of, width, AreCounted}
use Rattle.pliron_opt_dce.proofs.IncomingLists.{edges_more, counted_more, width_counted}
use Rattle.pliron_opt_dce.proofs.incoming.count_edges.Goals as goal

pub successor_operands-requires-clause-branch : goal.successor_operands-requires-clause-branch
successor_operands-requires-clause-branch g c = c.requires.branches c.get_use-branch.result.0 (in_slice (successors_of c.args.ctx.now.tree c.get_use-branch.result.0) c.get_use-branch.result.1 c.args.block (c.well_formed-2.ensures.uses.block_uses.listed c.args.block c.loop-i.i (record { user = c.get_use-branch.result.0; place = c.get_use-branch.result.1 }) c.get_use-branch.ensures.listed))

pub successor_operands-requires-clause-edge : goal.successor_operands-requires-clause-edge
successor_operands-requires-clause-edge g c = slice_get_within (successors_of c.args.ctx.now.tree c.get_use-branch.result.0) c.get_use-branch.result.1 c.args.block (c.well_formed-2.ensures.uses.block_uses.listed c.args.block c.loop-i.i (record { user = c.get_use-branch.result.0; place = c.get_use-branch.result.1 }) c.get_use-branch.ensures.listed)

pub loop-i-preserved : goal.loop-i-preserved
loop-i-preserved g c =
    let t = c.args.ctx.now.tree in
    let m = g.D.HasMeaning.meaning in
    let x : IncomingEdge = record { branch = c.get_use-branch.result.0; place = c.get_use-branch.result.1; count = c.len-count.result } in
    let same = c.in_ok-push.ensures.items in
    let long : length c.in_ok-successor_operands.field-0.items ≡ c.len-count.result = (let n = c.len-count.ensures in omega (arith, n)) in
    let many : width m t (edge_of_incoming x) ≡ c.len-count.result = width_counted m t (edge_of_incoming x) c.in_ok-successor_operands.field-0.items c.get_use-branch.ensures.liveness c.in_ok-successor_operands.ensures.ok ∙ long in
    let small : c.len-count.result < 2 ^ 64 = omega arith in
    record {
      edges = ap edges_of same ∙ edges_more c.loop-i.edges.items x (uses_of c.args.ctx.now.block_uses c.args.block) c.loop-i.i c.loop-i.invariant.edges c.get_use-branch.ensures.listed;
      counted = subst (AreCounted m t) (sym same) (counted_more m t c.loop-i.edges.items x c.loop-i.invariant.counted many small);
    }

pub returns-clause-edges : goal.returns-clause-edges
returns-clause-edges g c = c.loop-i.invariant.edges ∙ take_all c.loop-i.i (uses_of c.args.ctx.now.block_uses c.args.block) (let e2 = c.num_use-i-end.ensures in let e3 = c.loop-i-test.false in omega (arith, e2, e3))

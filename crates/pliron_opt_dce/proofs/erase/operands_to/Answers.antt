use Rattle.std.proofs.Common.{◌+◌, Some, None, sym, ap, ◌∙◌, subst, arith}
use Rattle.std.proofs.lemmas.List.{length-map}
use Rattle.std.proofs.lemmas.Option.{slice_get_within, slice_get-get_or}
use Rattle.pliron_core.specs.Tree.{successors_of}
use Rattle.pliron_core.proofs.HoldingLemmas.{in_slice}
use Rattle.pliron_laws.specs.Answers.{IsForwardedAt}
use Rattle.pliron_opt_dce.specs.Incoming.{edge_of_incoming, edges_of}
use Rattle.pliron_opt_dce.proofs.IncomingLists.{at_edge}
use Rattle.pliron_opt_dce.proofs.TakeLemmas.{AreForwardedSoFar, forwarded_more, forwarded_all, forwarded_here, leads_live}
use Rattle.pliron_opt_dce.proofs.erase.operands_to.Goals as goal

pub successor_operand-requires-clause-live : goal.successor_operand-requires-clause-live
successor_operand-requires-clause-live g c =
    let x = c.edge-item.result in
    let at = at_edge c.args.edges.now c.loop-edge.edge-index x (slice_get-get_or c.args.edges.now c.loop-edge.edge-index _ c.loop-edge-test.true ∙ ap Some (sym c.edge-item.is)) in
    leads_live c.args.ctx.now.tree c.well_formed-2.ensures.tree x.branch x.place c.args.block (c.requires.edges.complete.listed c.loop-edge.edge-index (edge_of_incoming x) at)

pub successor_operand-requires-clause-branch : goal.successor_operand-requires-clause-branch
successor_operand-requires-clause-branch g c =
    let x = c.edge-item.result in
    let at = at_edge c.args.edges.now c.loop-edge.edge-index x (slice_get-get_or c.args.edges.now c.loop-edge.edge-index _ c.loop-edge-test.true ∙ ap Some (sym c.edge-item.is)) in
    c.requires.edges.branches x.branch (in_slice (successors_of c.args.ctx.now.tree x.branch) x.place c.args.block (c.requires.edges.complete.listed c.loop-edge.edge-index (edge_of_incoming x) at))

pub successor_operand-requires-clause-edge : goal.successor_operand-requires-clause-edge
successor_operand-requires-clause-edge g c =
    let x = c.edge-item.result in
    let at = at_edge c.args.edges.now c.loop-edge.edge-index x (slice_get-get_or c.args.edges.now c.loop-edge.edge-index _ c.loop-edge-test.true ∙ ap Some (sym c.edge-item.is)) in
    slice_get_within (successors_of c.args.ctx.now.tree x.branch) x.place c.args.block (c.requires.edges.complete.listed c.loop-edge.edge-index (edge_of_incoming x) at)

pub returns-in-None-clause-used : goal.returns-in-None-clause-used
returns-in-None-clause-used g c =
    let t = c.args.ctx.now.tree in
    let m = g.D.HasMeaning.meaning in
    let x = c.edge-item.result in
    let at = at_edge c.args.edges.now c.loop-edge.edge-index x (slice_get-get_or c.args.edges.now c.loop-edge.edge-index _ c.loop-edge-test.true ∙ ap Some (sym c.edge-item.is)) in
    let none : IsForwardedAt m t x.branch x.place c.args.index None = subst (IsForwardedAt m t x.branch x.place c.args.index) c.in-None.is c.in_ok-value.ensures.ok in
    forwarded_here m t c.args.block c.args.index (edges_of c.args.edges.now) c.loop-edge.edge-index c.loop-edge.used.items (edge_of_incoming x) c.requires.edges c.loop-edge.invariant at none
    (leads_live t c.well_formed-2.ensures.tree x.branch x.place c.args.block (c.requires.edges.complete.listed c.loop-edge.edge-index (edge_of_incoming x) at))

pub loop-edge-preserved : goal.loop-edge-preserved
loop-edge-preserved g c =
    let t = c.args.ctx.now.tree in
    let m = g.D.HasMeaning.meaning in
    let x = c.edge-item.result in
    let at = at_edge c.args.edges.now c.loop-edge.edge-index x (slice_get-get_or c.args.edges.now c.loop-edge.edge-index _ c.loop-edge-test.true ∙ ap Some (sym c.edge-item.is)) in
    let some : IsForwardedAt m t x.branch x.place c.args.index (Some c.in-Some.value) = subst (IsForwardedAt m t x.branch x.place c.args.index) c.in-Some.is c.in_ok-value.ensures.ok in
    subst (λ z. AreForwardedSoFar m t c.args.index (edges_of c.args.edges.now) (c.loop-edge.edge-index + 1) z) (sym c.in_ok-push-in-Some.ensures.items)
    (forwarded_more m t c.args.index (edges_of c.args.edges.now) c.loop-edge.edge-index c.loop-edge.used.items (edge_of_incoming x) c.in-Some.value c.loop-edge.invariant at some)

pub returns-clause-used : goal.returns-clause-used
returns-clause-used g c =
    let long = length-map c.args.edges.now (λ e. edge_of_incoming e) in
    forwarded_all g.D.HasMeaning.meaning c.args.ctx.now.tree c.args.index (edges_of c.args.edges.now) c.loop-edge.edge-index c.loop-edge.used.items c.loop-edge.invariant
    (let a = c.loop-edge-test.false in omega (arith, a, long)) (let b = c.loop-edge.auto.edge-index-end in omega (arith, b, long))

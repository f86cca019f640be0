use Rattle.std.proofs.Common.{Some, sym, ap, ◌∙◌, subst, arith, take}
use Rattle.std.proofs.lemmas.List.{length-map}
use Rattle.std.proofs.lemmas.Option.{slice_get-get_or}
use Rattle.pliron_theory.specs.Dropping.{EdgesLose, Loses}
use Rattle.pliron_theory.proofs.EdgesLost.{turn_edge, turn_next, turn_branch}
use Rattle.pliron_opt_dce.specs.Incoming.{edge_of_incoming, edges_of}
use Rattle.pliron_opt_dce.proofs.IncomingLists.{at_edge}
use Rattle.pliron_opt_dce.proofs.TakeLemmas.{place_there, all_lose, lost_live}
use Rattle.pliron_opt_dce.proofs.erase.lose_operands.Goals as goal

pub returns : goal.returns
returns g c = record {
  lost = all_lose _ _ _ _ g.met.D.Dialect.forwards_operands (λ h h' s. s.branch) c.args.ctx.now.tree c.well_formed-2.ensures.tree c.args.block c.args.index (edges_of c.args.edges.now) c.requires.edges c.requires.branches c.args.count c.requires.places c.loop-i.ctx.tree
      (let long = length-map c.args.edges.now (λ e. edge_of_incoming e) in let l = c.requires.count in omega (arith, l, long))
      (subst (λ z. EdgesLose g.D.HasMeaning.meaning g.D.Dialect.shortened c.args.index (take z (edges_of c.args.edges.now)) c.args.ctx.now.tree c.loop-i.ctx.tree) (let a = c.loop-i-test.false in let b = c.loop-i.auto.i-end in omega (arith, a, b)) c.loop-i.invariant);
}

pub remove_successor_operand-requires-clause-live : goal.remove_successor_operand-requires-clause-live
remove_successor_operand-requires-clause-live g c =
    let x = c.index-edges-i.result in
    let at = at_edge c.args.edges.now c.loop-i.i x (slice_get-get_or c.args.edges.now c.loop-i.i x (let a = c.loop-i-test.true in let b = c.requires.count in omega (arith, a, b)) ∙ ap Some (sym c.index-edges-i.is)) in
    lost_live _ _ _ _ g.met.D.Dialect.forwards_operands (λ h h' s. s.branch) c.args.ctx.now.tree c.well_formed-2.ensures.tree c.args.block c.args.index (edges_of c.args.edges.now) c.requires.edges c.requires.branches c.args.count c.requires.places c.loop-i.ctx.tree c.loop-i.i c.loop-i.invariant (edge_of_incoming x) at

pub remove_successor_operand-requires-clause-branch : goal.remove_successor_operand-requires-clause-branch
remove_successor_operand-requires-clause-branch g c =
    let x = c.index-edges-i.result in
    let at = at_edge c.args.edges.now c.loop-i.i x (slice_get-get_or c.args.edges.now c.loop-i.i x (let a = c.loop-i-test.true in let b = c.requires.count in omega (arith, a, b)) ∙ ap Some (sym c.index-edges-i.is)) in
    turn_branch _ _ _ _ g.met.D.Dialect.forwards_operands (λ h h' s. s.branch) c.args.ctx.now.tree c.well_formed-2.ensures.tree c.args.block c.args.index (edges_of c.args.edges.now) c.requires.edges c.loop-i.ctx.tree c.loop-i.i c.loop-i.invariant (edge_of_incoming x) at c.requires.branches

pub remove_successor_operand-requires-clause-edge : goal.remove_successor_operand-requires-clause-edge
remove_successor_operand-requires-clause-edge g c =
    let x = c.index-edges-i.result in
    let at = at_edge c.args.edges.now c.loop-i.i x (slice_get-get_or c.args.edges.now c.loop-i.i x (let a = c.loop-i-test.true in let b = c.requires.count in omega (arith, a, b)) ∙ ap Some (sym c.index-edges-i.is)) in
    turn_edge _ _ _ _ g.met.D.Dialect.forwards_operands (λ h h' s. s.branch) c.args.ctx.now.tree c.well_formed-2.ensures.tree c.args.block c.args.index (edges_of c.args.edges.now) c.requires.edges c.loop-i.ctx.tree c.loop-i.i c.loop-i.invariant (edge_of_incoming x) at

pub remove_successor_operand-requires-clause-place : goal.remove_successor_operand-requires-clause-place
remove_successor_operand-requires-clause-place g c =
    let x = c.index-edges-i.result in
    let at = at_edge c.args.edges.now c.loop-i.i x (slice_get-get_or c.args.edges.now c.loop-i.i x (let a = c.loop-i-test.true in let b = c.requires.count in omega (arith, a, b)) ∙ ap Some (sym c.index-edges-i.is)) in
    place_there _ _ _ _ g.met.D.Dialect.forwards_operands (λ h h' s. s.branch) c.args.ctx.now.tree c.well_formed-2.ensures.tree c.args.block c.args.index (edges_of c.args.edges.now) c.requires.edges c.requires.branches c.args.count c.requires.places c.loop-i.ctx.tree c.loop-i.i c.loop-i.invariant (edge_of_incoming x) at c.loop-i-test.true

pub loop-i-preserved : goal.loop-i-preserved
loop-i-preserved g c =
    let x = c.index-edges-i.result in
    let at = at_edge c.args.edges.now c.loop-i.i x (slice_get-get_or c.args.edges.now c.loop-i.i x (let a = c.loop-i-test.true in let b = c.requires.count in omega (arith, a, b)) ∙ ap Some (sym c.index-edges-i.is)) in
    turn_next _ _ _ _ g.met.D.Dialect.forwards_operands (λ h h' s. s.branch) c.args.ctx.now.tree c.well_formed-2.ensures.tree c.args.block c.args.index (edges_of c.args.edges.now) c.requires.edges c.loop-i.ctx.tree c.loop-i.i c.loop-i.invariant (edge_of_incoming x) at c.remove_successor_operand.new.ctx.tree (Loses c.remove_successor_operand.result (place_there _ _ _ _ g.met.D.Dialect.forwards_operands (λ h h' s. s.branch) c.args.ctx.now.tree c.well_formed-2.ensures.tree c.args.block c.args.index (edges_of c.args.edges.now) c.requires.edges c.requires.branches c.args.count c.requires.places c.loop-i.ctx.tree c.loop-i.i c.loop-i.invariant (edge_of_incoming x) at c.loop-i-test.true) c.remove_successor_operand.ensures.lost)

use Rattle.std.proofs.Common.{Some, sym, ap, ◌∙◌, subst}
use Rattle.std.proofs.lemmas.Option.{slice_get-get_or}
use Rattle.pliron_core.specs.Tree.{IsLive}
use Rattle.pliron_opt_dce.specs.Incoming.{edge_of_incoming}
use Rattle.pliron_opt_dce.proofs.IncomingLists.{at_edge}
use Rattle.pliron_opt_dce.proofs.TakeLemmas.{leads_live}
use Rattle.pliron_opt_dce.proofs.operand_indexing.index_rows.Goals as goal

pub index_operands-requires : goal.index_operands-requires
index_operands-requires c =
    let x = c.edge-item.result in
    let at = at_edge c.args.edges.now c.loop-edge.edge-index x (slice_get-get_or c.args.edges.now c.loop-edge.edge-index _ c.loop-edge-test.true ∙ ap Some (sym c.edge-item.is)) in
    subst (λ z. IsLive z.tree x.branch) (sym c.loop-edge.invariant)
    (leads_live c.args.ctx.now.tree c.well_formed-2.ensures.tree x.branch x.place c.args.block (c.requires.edges.listed c.loop-edge.edge-index (edge_of_incoming x) at))

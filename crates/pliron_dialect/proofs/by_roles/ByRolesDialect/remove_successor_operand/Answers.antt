use Rattle.std.proofs.Common.{true, arith}
use Rattle.pliron_dialect.proofs.BranchReads.{place_below, edge_loses}
use Rattle.pliron_dialect.proofs.by_roles.ByRolesDialect.remove_successor_operand.Goals as goal

pub overflow_add-places : goal.overflow_add-places
overflow_add-places g c =
    let places = c.places_at-places in
    let lt = place_below _ _ _ 0 true c.args.ctx.now.tree c.args.op c.args.i c.args.j places.result.first places.result.count c.requires.live places.ensures.places c.requires.place in
    omega (arith, lt, places.ensures.fits)

pub remove_operand-value-requires-clause-index : goal.remove_operand-value-requires-clause-index
remove_operand-value-requires-clause-index g c =
    let places = c.places_at-places in
    places.ensures.within c.args.j (place_below _ _ _ 0 true c.args.ctx.now.tree c.args.op c.args.i c.args.j places.result.first places.result.count c.requires.live places.ensures.places c.requires.place)

pub returns-clause-lost : goal.returns-clause-lost
returns-clause-lost g c =
    let places = c.places_at-places in
    edge_loses _ _ _ 0 true c.args.ctx.now.tree c.remove_operand-value.new.ctx.tree c.shorten.new.ctx.tree c.args.op c.args.i c.args.j places.result.first places.result.count c.remove_operand-value.result places.ensures.places c.remove_operand-value.ensures.operand c.remove_operand-value.ensures.tree c.shorten.ensures.head

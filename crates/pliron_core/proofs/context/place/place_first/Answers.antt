use Rattle.std.proofs.Common.{ap}
use Rattle.pliron_core.specs.UseTables.{view_of}
use Rattle.pliron_core.proofs.WellLemmas.{well_put}
use Rattle.pliron_core.proofs.context.place.place_first.Goals as goal

pub invariant_of-ctx : goal.invariant_of-ctx
invariant_of-ctx c =
    let r = rw (← c.ctx.view_is, ← c.index.ensures, ← c.index-2.ensures) at c.requires in
    well_put (view_of c.ctx.inside) c.index-2.result c.index.result _ _ _ c.ctx.invariant r.live r.block r.free r.outside (ap (λ z. z.lists) c.push_front.ensures) (ap (λ z. z.owners) c.push_front.ensures)

use Rattle.std.proofs.Common.{ap}
use Rattle.pliron_core.specs.UseTables.{view_of}
use Rattle.pliron_core.proofs.WellLemmas.{well_put}
use Rattle.pliron_core.proofs.context.place.place_before.Goals as goal

pub invariant_of-ctx : goal.invariant_of-ctx
invariant_of-ctx c =
    let r = rw (← c.ctx.view_is, ← c.index.ensures, ← c.index-2.ensures, ← c.index-3.ensures) at c.requires in
    well_put (view_of c.ctx.inside) c.index-3.result c.index.result _ _ _ c.ctx.invariant r.live (c.ctx.invariant.joined.all_in_place _ _ r.at).1 r.free r.outside (ap (λ z. z.lists) c.insert_before.ensures) (ap (λ z. z.owners) c.insert_before.ensures)

use Rattle.std.proofs.Common.{rules, ◌≡◌, ap, Some}
use Rattle.pliron_core.specs.UseTables.{view_of}
use Rattle.pliron_core.specs.Tree.{parent_of}
use Rattle.pliron_core.proofs.WellLemmas.{well_taken}
use Rattle.pliron_core.proofs.context.place.take_out.Goals as goal

pub invariant_of-ctx : goal.invariant_of-ctx
invariant_of-ctx c =
    let at : parent_of (view_of c.ctx.inside).tree c.index-in-Some.result ≡ Some c.in-Some.block = search rules in
    well_taken (view_of c.ctx.inside) c.index-in-Some.result c.in-Some.block _ _ c.ctx.invariant at (ap (λ z. z.lists) c.remove.ensures) (ap (λ z. z.owners) c.remove.ensures)

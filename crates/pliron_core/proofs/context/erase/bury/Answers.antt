use Rattle.std.proofs.Common.{rules, ◌≡◌, subst, None}
use Rattle.std.specs.Vec.{with_item}
use Rattle.pliron_core.specs.UseTables.{view_of}
use Rattle.pliron_core.specs.Invariant.{IsWellFormed}
use Rattle.pliron_core.specs.Dismantling.{after_dismantling}
use Rattle.pliron_core.proofs.DismantleLemmas.{well_buried}
use Rattle.pliron_core.proofs.context.erase.bury.Goals as goal

pub invariant_of-ctx : goal.invariant_of-ctx
invariant_of-ctx c =
    let r = rw (← c.ctx.view_is, ← c.index.ensures) at c.requires in
    let e : record (view_of c.ctx.inside) { tree = after_dismantling (view_of c.ctx.inside).tree c.index.result } ≡ view_of (record c.ctx.inside { operations = with_item c.ctx.inside.operations c.index.result (record { head = None; results = c.new.result; regions = c.new-2.result }) }) = search rules in
    subst IsWellFormed e (well_buried (view_of c.ctx.inside) c.index.result c.ctx.invariant r.live r.free r.operands r.successors r.regions r.unnamed)

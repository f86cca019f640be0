use Rattle.std.proofs.Common.{◌≡◌, ◌-◌, length, take, ap, ◌∙◌, subst}
use Rattle.std.specs.Vec.{with_item}
use Rattle.pliron_core.specs.declared.context.OperationEntry.{OperationEntry}
use Rattle.pliron_core.specs.Tree.{row_of, regions_of}
use Rattle.pliron_core.specs.UseTables.{view_of}
use Rattle.pliron_core.specs.Invariant.{IsWellFormed}
use Rattle.pliron_core.proofs.InnerLemmas.{row_read}
use Rattle.pliron_core.proofs.DismantleLemmas.{well_popped}
use Rattle.pliron_core.proofs.context.erase.pop_region.Goals as goal

pub invariant_of-ctx : goal.invariant_of-ctx
invariant_of-ctx c =
    let r = rw (← c.ctx.view_is, ← c.index.ensures) at c.requires in
    let row : c.index_mut.result.now ≡ row_of (view_of c.ctx.inside).tree c.index.result = row_read (view_of c.ctx.inside).tree c.index.result c.index_mut.result.now r.live c.index_mut.ensures.value in
    let short : c.pop.new.self ≡ take (length (regions_of (view_of c.ctx.inside).tree c.index.result) - 1) (regions_of (view_of c.ctx.inside).tree c.index.result) = c.pop.ensures ∙ ap (λ (z : OperationEntry). take (length z.regions - 1) z.regions) row in
    let heads = ap (λ z. z.head) row in
    let results = ap (λ z. z.results) row in
    let e : record (row_of (view_of c.ctx.inside).tree c.index.result) { regions = take (length (regions_of (view_of c.ctx.inside).tree c.index.result) - 1) (regions_of (view_of c.ctx.inside).tree c.index.result) } ≡ record { head = c.index_mut.result.now.head; results = c.index_mut.result.now.results; regions = c.pop.new.self } = cc in
    subst (λ z. IsWellFormed (view_of (record c.ctx.inside { operations = with_item c.ctx.inside.operations c.index.result z }))) e (well_popped (view_of c.ctx.inside) c.index.result r.empty.0 c.ctx.invariant c.agree-2.ensures c.agree.ensures r.live r.empty.1 r.empty.2)

use Rattle.std.proofs.Common.{◌≡◌, IsSome, refl, sym, ap, ◌∙◌, subst}
use Rattle.std.proofs.lemmas.List.{get_or_default}
use Rattle.pliron_core.specs.UseTables.{view_of}
use Rattle.pliron_core.specs.Tree.{row_of, no_entry}
use Rattle.pliron_core.proofs.TreeLemmas.{live-within}
use Rattle.pliron_core.proofs.WellLemmas.{well_entry}
use Rattle.pliron_core.proofs.keys.Operation.replace_head.Goals as goal

pub invariant_of-ctx : goal.invariant_of-ctx
invariant_of-ctx c =
    let r = rw (← c.ctx.view_is, ← c.index.ensures) at c.requires in
    let row : c.index_mut.result.now ≡ row_of (view_of c.ctx.inside).tree c.index.result = c.index_mut.ensures.value ∙ get_or_default _ _ _ no_entry (live-within (view_of c.ctx.inside).tree c.index.result r) in
    let headed : IsSome c.put_head.new.place = subst IsSome (sym c.put_head.ensures.now) refl in
    well_entry (view_of c.ctx.inside) c.index.result (record { head = c.put_head.new.place; results = c.index_mut.result.now.results; regions = c.index_mut.result.now.regions }) c.ctx.invariant r headed (ap (λ z. z.results) row) (ap (λ z. z.regions) row)

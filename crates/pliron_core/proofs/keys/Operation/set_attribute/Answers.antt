use Rattle.std.proofs.Common.{◌≡◌, IsSome, sym, ap, ◌∙◌, subst}
use Rattle.std.proofs.lemmas.List.{get_or_default}
use Rattle.pliron_core.specs.UseTables.{view_of}
use Rattle.pliron_core.specs.Tree.{row_of, no_entry}
use Rattle.pliron_core.proofs.TreeLemmas.{live-within}
use Rattle.pliron_core.proofs.ArgumentLemmas.{headed_attribute}
use Rattle.pliron_core.proofs.WellLemmas.{well_entry}
use Rattle.pliron_core.proofs.keys.Operation.set_attribute.Goals as goal

pub invariant_of-ctx : goal.invariant_of-ctx
invariant_of-ctx c =
    let r = rw (← c.ctx.view_is, ← c.index.ensures) at c.requires.live in
    let row : c.index_mut.result.now ≡ row_of (view_of c.ctx.inside).tree c.index.result = c.index_mut.ensures.value ∙ get_or_default _ _ _ no_entry (live-within (view_of c.ctx.inside).tree c.index.result r) in
    let headed : IsSome c.set_head_attribute.new.head = subst IsSome (sym c.set_head_attribute.ensures) (headed_attribute _ c.args.i c.args.attr (subst (λ z. IsSome z.head) (sym row) r)) in
    well_entry (view_of c.ctx.inside) c.index.result (record { head = c.set_head_attribute.new.head; results = c.index_mut.result.now.results; regions = c.index_mut.result.now.regions }) c.ctx.invariant r headed (ap (λ z. z.results) row) (ap (λ z. z.regions) row)

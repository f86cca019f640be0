use Rattle.std.proofs.Common.{◌++◌, ◌∷◌, [], ◌∙◌, ap, sym, arith}
use Rattle.pliron_core.specs.declared.uses.Use.{Use}
use Rattle.pliron_core.specs.UseSlots.{uses_by}
use Rattle.pliron_core.proofs.GrownLemmas.{added_more}
use Rattle.pliron_core.proofs.UserLemmas.{uses_more}
use Rattle.pliron_core.proofs.uses.add_used.Goals as goal

pub loop-place-preserved : goal.loop-place-preserved
loop-place-preserved c =
    let i = c.loop-place.invariant in
    let u : Use = record { user = c.args.user; place = c.loop-place.place } in
    let row = c.in_default.ensures.ok ∙ ap (λ r. r ++ u ∷ []) c.new-row.ensures in
    record {
      items = c.push_reserved.ensures.items ∙ added_more _ _ (uses_by c.args.user c.loop-place.place) _ _ i.items (uses_more c.args.user c.loop-place.place ∙ ap (λ r. uses_by c.args.user c.loop-place.place ++ r ∷ []) (sym row));
      len = omega (arith, c.push_reserved.ensures.len, i.len);
      capacity = c.push_reserved.ensures.capacity ∙ i.capacity;
    }

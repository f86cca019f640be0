use Rattle.std.proofs.Common.{◌≡◌, ◌≢◌, [], length, get_or, ap, sym, ◌∙◌, arith}
use Rattle.std.proofs.lemmas.List.{get_or_default}
use Rattle.std.proofs.lemmas.Option.{slice_get_within}
use Rattle.pliron_core.specs.UseSlots.{at, no_target}
use Rattle.pliron_core.proofs.TableLemmas.{at-within, some-at}
use Rattle.pliron_core.proofs.GapLemmas.{same}
use Rattle.pliron_core.proofs.RelocateLemmas.{kept_first, linked-relocated}
use Rattle.pliron_core.proofs.use_slots.relocate.Goals as goal

pub place-place-requires : goal.place-place-requires
place-place-requires c =
    let r = c.requires in
    let row_is : c.index.result.now ≡ get_or c.args.places.now.items c.args.user [] = c.index.ensures ∙ get_or_default c.args.places.now.items c.args.user c.index.result.now [] (at-within _ _ _ _ r.to.1) in
    omega (arith, slice_get_within (get_or c.args.places.now.items c.args.user []) c.args.to r.to.0 r.to.1, ap length row_is)

pub set_entry-requires-3 : goal.set_entry-requires-3
set_entry-requires-3 c =
    let r = c.requires in
    let taken : c.entry-target.result.target ≢ no_target = λ f. r.from.2 (ap (λ z. z.target) (same (sym r.from.1 ∙ c.entry-target.ensures)) ∙ f) in
    some-at _ _ (ap (λ v. at v c.args.user c.args.from) c.set_entry-2.ensures.items ∙ kept_first _ _ _ _ _ _ _ r.linked c.entry-target.ensures taken r.to.1 r.to.2)

pub returns-clause-linked : goal.returns-clause-linked
returns-clause-linked c =
    let r = c.requires in
    let taken : c.entry-target.result.target ≢ no_target = λ f. r.from.2 (ap (λ z. z.target) (same (sym r.from.1 ∙ c.entry-target.ensures)) ∙ f) in
    rw (c.set_entry-3.ensures.items, c.set_entry-2.ensures.items, c.set_entry.ensures.items, c.place-place.ensures) (linked-relocated _ _ _ _ _ _ _ r.linked c.entry-target.ensures taken r.to.1 r.to.2)

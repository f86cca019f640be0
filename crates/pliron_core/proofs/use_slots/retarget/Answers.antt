use Rattle.std.proofs.Common.{◌≡◌, length, refl, rules, arith, ap, ◌∙◌, get_or, []}
use Rattle.std.proofs.lemmas.List.{length-set, get_or_default}
use Rattle.pliron_core.proofs.MoveLemmas.{all_kept, all_in_place, one_written}
use Rattle.pliron_core.proofs.use_slots.retarget.Goals as goal

pub loop-k-init : goal.loop-k-init
loop-k-init c = record { each = λ u p. all_kept _ _ _ _; len = refl; capacity = refl }

pub index_mut-row-requires : goal.index_mut-row-requires
index_mut-row-requires c =
    let s = all_in_place c.args.old c.args.new c.args.first c.loop-k.k c.args.places.now.items c.loop-k.places.items c.get-user.result.user c.get-user.result.place (c.loop-k.invariant.each _ _) (c.requires.listed _ _ c.get-user.ensures) in
    search (rules, s.0)

pub set-requires : goal.set-requires
set-requires c =
    let s = all_in_place c.args.old c.args.new c.args.first c.loop-k.k c.args.places.now.items c.loop-k.places.items c.get-user.result.user c.get-user.result.place (c.loop-k.invariant.each _ _) (c.requires.listed _ _ c.get-user.ensures) in
    let row_is : c.index_mut-row.result.now ≡ get_or c.loop-k.places.items c.get-user.result.user [] = c.index_mut-row.ensures.value ∙ get_or_default _ _ _ _ s.0 in
    omega (arith, s.1, ap length row_is)

pub loop-k-preserved : goal.loop-k-preserved
loop-k-preserved c = record {
  each = one_written _ _ _ _ _ _ _ _ _ _ c.loop-k.invariant.each c.get-user.ensures (c.requires.listed _ _ c.get-user.ensures) (c.requires.placed _) c.index_mut-row.ensures.value c.set.ensures;
  len = length-set _ _ _ ∙ c.loop-k.invariant.len;
  capacity = c.loop-k.invariant.capacity;
}

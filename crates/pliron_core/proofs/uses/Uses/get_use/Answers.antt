use Rattle.std.proofs.Common.{◌≡◌, ◌<◌, [], length, map, get_or, Some, refl, ap, ◌∙◌, rules, arith}
use Rattle.std.specs.List.{slice_get}
use Rattle.std.proofs.lemmas.List.{length-map, get_or_default}
use Rattle.pliron_core.specs.UseSlots.{at, rank, ranked_use}
use Rattle.pliron_core.proofs.TableLemmas.{at-within}
use Rattle.pliron_core.proofs.HoleLemmas.{hole-read}
use Rattle.pliron_core.proofs.PlaceLemmas.{use-there, use-seen, target-real}
use Rattle.pliron_core.proofs.uses.Uses.get_use.Goals as goal

pub index-requires-3 : goal.index-requires-3
index-requires-3 c =
    let r = rw (← c.self.view_is) at c.requires in
    let ht : c.args.target < length c.self.inside.uses.items = omega (arith, r.target, length-map c.self.inside.uses.items (map (ranked_use c.self.inside.places.items))) in
    let e : at c.self.inside.uses.items c.args.target c.args.i ≡ Some c.get-user.result = use-there _ _ _ _ _ ht c.index.ensures c.get-user.ensures in
    let p : at c.self.inside.places.items c.get-user.result.user c.get-user.result.place ≡ Some (record { target = c.args.target; at = c.args.i }) = c.self.invariant.linked.placed _ _ _ _ e in
    let h : c.get-user.result.user < length c.self.inside.places.items = at-within _ _ _ _ p in
    omega (arith, h, c.self.invariant.holes.count)

pub index-requires-2 : goal.index-requires-2
index-requires-2 c =
    let r = rw (← c.self.view_is) at c.requires in
    let ht : c.args.target < length c.self.inside.uses.items = omega (arith, r.target, length-map c.self.inside.uses.items (map (ranked_use c.self.inside.places.items))) in
    let e : at c.self.inside.uses.items c.args.target c.args.i ≡ Some c.get-user.result = use-there _ _ _ _ _ ht c.index.ensures c.get-user.ensures in
    let p : at c.self.inside.places.items c.get-user.result.user c.get-user.result.place ≡ Some (record { target = c.args.target; at = c.args.i }) = c.self.invariant.linked.placed _ _ _ _ e in
    let h : c.get-user.result.user < length c.self.inside.places.items = at-within _ _ _ _ p in
    search (rules, h)

pub rank_at-place-requires-clause-hole : goal.rank_at-place-requires-clause-hole
rank_at-place-requires-clause-hole c =
    let r = rw (← c.self.view_is) at c.requires in
    let ht : c.args.target < length c.self.inside.uses.items = omega (arith, r.target, length-map c.self.inside.uses.items (map (ranked_use c.self.inside.places.items))) in
    let e : at c.self.inside.uses.items c.args.target c.args.i ≡ Some c.get-user.result = use-there _ _ _ _ _ ht c.index.ensures c.get-user.ensures in
    let p : at c.self.inside.places.items c.get-user.result.user c.get-user.result.place ≡ Some (record { target = c.args.target; at = c.args.i }) = c.self.invariant.linked.placed _ _ _ _ e in
    let h : c.get-user.result.user < length c.self.inside.places.items = at-within _ _ _ _ p in
    let row : c.index-2.result.now ≡ get_or c.self.inside.places.items c.get-user.result.user [] = c.index-2.ensures ∙ get_or_default _ _ _ _ h in
    let hu : c.get-user.result.user < length c.self.inside.holes.items = omega (arith, h, c.self.invariant.holes.count) in
    rw row (hole-read c.self.inside.places.items c.self.inside.holes.items c.get-user.result.user _ _ c.index-3.ensures refl hu c.self.invariant.holes)

pub rank_at-place-requires-clause-taken : goal.rank_at-place-requires-clause-taken
rank_at-place-requires-clause-taken c =
    let r = rw (← c.self.view_is) at c.requires in
    let ht : c.args.target < length c.self.inside.uses.items = omega (arith, r.target, length-map c.self.inside.uses.items (map (ranked_use c.self.inside.places.items))) in
    let e : at c.self.inside.uses.items c.args.target c.args.i ≡ Some c.get-user.result = use-there _ _ _ _ _ ht c.index.ensures c.get-user.ensures in
    let p : at c.self.inside.places.items c.get-user.result.user c.get-user.result.place ≡ Some (record { target = c.args.target; at = c.args.i }) = c.self.invariant.linked.placed _ _ _ _ e in
    let h : c.get-user.result.user < length c.self.inside.places.items = at-within _ _ _ _ p in
    let row : c.index-2.result.now ≡ get_or c.self.inside.places.items c.get-user.result.user [] = c.index-2.ensures ∙ get_or_default _ _ _ _ h in
    (record { target = c.args.target; at = c.args.i }, ap (λ l. slice_get l c.get-user.result.place) row ∙ p, target-real _ _ c.self.invariant.linked _ _ _ e)

pub returns : goal.returns
returns c =
    let r = rw (← c.self.view_is) at c.requires in
    let ht : c.args.target < length c.self.inside.uses.items = omega (arith, r.target, length-map c.self.inside.uses.items (map (ranked_use c.self.inside.places.items))) in
    let e : at c.self.inside.uses.items c.args.target c.args.i ≡ Some c.get-user.result = use-there _ _ _ _ _ ht c.index.ensures c.get-user.ensures in
    let p : at c.self.inside.places.items c.get-user.result.user c.get-user.result.place ≡ Some (record { target = c.args.target; at = c.args.i }) = c.self.invariant.linked.placed _ _ _ _ e in
    let h : c.get-user.result.user < length c.self.inside.places.items = at-within _ _ _ _ p in
    let row : c.index-2.result.now ≡ get_or c.self.inside.places.items c.get-user.result.user [] = c.index-2.ensures ∙ get_or_default _ _ _ _ h in
    rw (← c.self.view_is) (use-seen c.self.inside.places.items c.self.inside.uses.items c.args.target c.args.i _ _ e (c.rank_at-place.ensures ∙ ap (λ l. rank l c.get-user.result.place) row))

use Rattle.std.proofs.Common.{ℕ, length, refl, subst, arith}
use Rattle.std.specs.List.{Contains, slice_index_or}
use Rattle.std.proofs.lemmas.Option.{slice_get_read, slice_get-get_or}
use Rattle.pliron_graph_components.proofs.PreSentinelLemmas.{item_contained}
use Rattle.pliron_opt_inline.proofs.facts.component_numbers.Goals as goal

pub index_mut-requires : goal.index_mut-requires
index_mut-requires c =
    let items = c.deref-place-items.result.now in
    let i = c.loop-place.place-index in
    let n = slice_index_or items i 0 in
    let all = c.args.components.now in
    let component = c.index-components-number.result in
    let here = item_contained all c.loop-number.number component (slice_get_read all (length all) c.loop-number.number component refl c.loop-number-test.true c.index-components-number.is) in
    let there = item_contained items i n (slice_get-get_or items i 0 c.loop-place-test.true) in
    let lt = c.requires component n here (subst (λ (xs : _). Contains xs n) c.deref-place-items.ensures.value there) in
    let long = c.loop-place.invariant in
    omega (arith, lt, long)

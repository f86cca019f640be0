use Rattle.std.proofs.Common.{rules}
use Rattle.std.specs.List.{slice_index_or}
use Rattle.std.proofs.lemmas.Option.{slice_get-get_or}
use Rattle.pliron_graph_components.proofs.PreSentinelLemmas.{item_contained}
use Rattle.pliron_opt_inline.proofs.inlining.inline_in_all.Goals as goal

pub inline_in-requires : goal.inline_in-requires
inline_in-requires g c =
    let xs = c.args.places.now in
    let i = c.loop-place.place-index in
    let n = slice_index_or xs i 0 in
    let planned = c.requires.1.1.1.1.0 in
    let way = c.loop-place.invariant.under_way in
    let sizes = c.loop-place.invariant.sizes in
    let within = c.requires.1.1.1.1.1.1.1 n (item_contained xs i n (slice_get-get_or xs i 0 c.loop-place-test.true)) in
    search rules

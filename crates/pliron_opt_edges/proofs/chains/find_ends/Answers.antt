use Rattle.std.proofs.Common.{◌≡◌, ◌<◌, ◌≤◌, length, Some, slice_get, refl, arith}
use Rattle.std.proofs.lemmas.Option.{slice_get_read, slice_get_within}
use Rattle.pliron_core.proofs.FlatLemmas.{In-slice_get, slice_get-In}
use Rattle.pliron_opt_edges.proofs.WalkLemmas.{none_known, listed_more}
use Rattle.pliron_opt_edges.proofs.chains.find_ends.Goals as goal

pub loop-i-init : goal.loop-i-init
loop-i-init g c = (none_known g.D.HasMeaning.meaning.is_branch c.args.ctx.now.tree c.new-ends.result c.new-ends.ensures, λ n k b lt e i. absurd (omega (arith, lt)))

pub find_ends_of-requires-clause-live : goal.find_ends_of-requires-clause-live
find_ends_of-requires-clause-live g c =
    let lt : c.loop-i.i < length c.args.ops.now = omega arith in
    c.requires c.index-ops-i.result (In-slice_get c.args.ops.now c.loop-i.i c.index-ops-i.result (slice_get_read c.args.ops.now (length c.args.ops.now) c.loop-i.i c.index-ops-i.result refl lt c.index-ops-i.is))

pub find_ends_of-requires-clause-known : goal.find_ends_of-requires-clause-known
find_ends_of-requires-clause-known g c = c.loop-i.invariant.0

pub loop-i-preserved : goal.loop-i-preserved
loop-i-preserved g c =
    let lt : c.loop-i.i < length c.args.ops.now = omega arith in
    let at : slice_get c.args.ops.now c.loop-i.i ≡ Some c.index-ops-i.result = slice_get_read c.args.ops.now (length c.args.ops.now) c.loop-i.i c.index-ops-i.result refl lt c.index-ops-i.is in
    (c.in_ok-find_ends_of.ensures.known, listed_more c.args.ctx.now.tree c.loop-i.ends c.find_ends_of.new.ends c.args.ops.now c.loop-i.i c.index-ops-i.result c.loop-i.invariant.1 at c.in_ok-find_ends_of.ensures.there c.in_ok-find_ends_of.ensures.more)

pub returns-clause-known : goal.returns-clause-known
returns-clause-known g c = c.loop-i.invariant.0

pub returns-clause-there : goal.returns-clause-there
returns-clause-there g c =
    let whole : length c.args.ops.now ≤ c.loop-i.i = omega arith in
    λ k b i j. let at = slice_get-In k c.args.ops.now i in c.loop-i.invariant.1 at.0 k b (omega (arith, whole, slice_get_within c.args.ops.now at.0 k at.1)) at.1 j

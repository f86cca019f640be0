use Rattle.std.proofs.Common.{◌≤◌, length, arith}
use Rattle.std.proofs.lemmas.Option.{slice_get_within}
use Rattle.pliron_core.specs.Tree.{regions_of}
use Rattle.pliron_core.proofs.FlatLemmas.{In-slice_get, slice_get-In}
use Rattle.pliron_laws.specs.EdgeChecks.{OpHasOwnUsers}
use Rattle.pliron_laws.proofs.AnswerLemmas.{yes, no, refuted}
use Rattle.pliron_laws.proofs.edges.op_has_own_users.Goals as goal

pub returns-then-not-region_has_own_users : goal.returns-then-not-region_has_own_users
returns-then-not-region_has_own_users c =
    let t = c.args.ctx.now.tree in
    let at = In-slice_get (regions_of t c.args.op) c.loop-i.i c.get_region.result c.get_region.ensures.region in
    no (OpHasOwnUsers t c.args.op) (λ own. refuted c.region_has_own_users.result c.if-not-region_has_own_users.true (c.region_has_own_users.ensures.1 (own c.get_region.result at)))

pub returns : goal.returns
returns c =
    let t = c.args.ctx.now.tree in
    let whole : length (regions_of t c.args.op) ≤ c.loop-i.i = omega arith in
    yes (OpHasOwnUsers t c.args.op) (λ r i.
    let at = slice_get-In r (regions_of t c.args.op) i in
    c.loop-i.invariant at.0 r (omega (arith, whole, slice_get_within (regions_of t c.args.op) at.0 r at.1)) at.1)

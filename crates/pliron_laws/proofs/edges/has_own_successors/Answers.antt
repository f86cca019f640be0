use Rattle.std.proofs.Common.{◌≤◌, length, sym, ◌∙◌, arith}
use Rattle.std.proofs.lemmas.Option.{same_Some, slice_get_within}
use Rattle.pliron_core.specs.Tree.{successors_of}
use Rattle.pliron_core.proofs.FlatLemmas.{In-slice_get, slice_get-In}
use Rattle.pliron_core.proofs.NextLemmas.{keys_unequal}
use Rattle.pliron_laws.specs.EdgeChecks.{HasOwnSuccessors}
use Rattle.pliron_laws.proofs.AnswerLemmas.{yes, no}
use Rattle.pliron_laws.proofs.edges.has_own_successors.Goals as goal

pub returns-then-ne : goal.returns-then-ne
returns-then-ne c =
    let t = c.args.ctx.now.tree in
    let at = In-slice_get (successors_of t c.args.op) c.loop-i.i c.get_successor.result c.get_successor.ensures.successor in
    let differ = keys_unequal c.region_of.result c.region_of-region.result c.if-ne.ensures in
    no (HasOwnSuccessors t c.args.op c.args.block) (λ own. differ (same_Some c.region_of.result c.region_of-region.result (sym c.region_of.ensures ∙ own c.get_successor.result at ∙ c.region_of-region.ensures)))

pub returns : goal.returns
returns c =
    let t = c.args.ctx.now.tree in
    let whole : length (successors_of t c.args.op) ≤ c.loop-i.i = omega arith in
    yes (HasOwnSuccessors t c.args.op c.args.block) (λ s i.
    let at = slice_get-In s (successors_of t c.args.op) i in
    c.loop-i.invariant at.0 s (omega (arith, whole, slice_get_within (successors_of t c.args.op) at.0 s at.1)) at.1 ∙ sym c.region_of-region.ensures)

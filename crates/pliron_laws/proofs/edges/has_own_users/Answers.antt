use Rattle.std.proofs.Common.{◌≤◌, length, sym, ◌∙◌, arith}
use Rattle.std.proofs.lemmas.Option.{slice_get_within}
use Rattle.pliron_core.specs.Tree.{uses_of, successors_of}
use Rattle.pliron_core.proofs.FlatLemmas.{In-slice_get, slice_get-In}
use Rattle.pliron_laws.specs.EdgeChecks.{HasOwnUsers}
use Rattle.pliron_laws.proofs.AnswerLemmas.{yes, no, refuted}
use Rattle.pliron_laws.proofs.edges.has_own_users.Goals as goal

pub returns-then-not-is_directly_in : goal.returns-then-not-is_directly_in
returns-then-not-is_directly_in c =
    let t = c.args.ctx.now.tree in
    let used = c.well_formed-2.ensures.uses.block_uses.listed c.args.block c.loop-i.i _ c.get_use-user.ensures.listed in
    let named = In-slice_get (successors_of t c.get_use-user.result.0) c.get_use-user.result.1 c.args.block used in
    no (HasOwnUsers t c.args.block) (λ own. refuted c.is_directly_in.result c.if-not-is_directly_in.true (c.is_directly_in.ensures.1 (own c.get_use-user.result.0 named ∙ c.region_of-region.ensures)))

pub returns : goal.returns
returns c =
    let t = c.args.ctx.now.tree in
    let whole : length (uses_of c.args.ctx.now.block_uses c.args.block) ≤ c.loop-i.i = omega arith in
    yes (HasOwnUsers t c.args.block) (λ k i.
    let at = slice_get-In c.args.block (successors_of t k) i in
    let u = c.well_formed-2.ensures.uses.block_uses.complete k at.0 c.args.block at.1 in
    c.loop-i.invariant u.0 _ (omega (arith, whole, slice_get_within (uses_of c.args.ctx.now.block_uses c.args.block) u.0 _ u.1)) u.1 ∙ sym c.region_of-region.ensures)

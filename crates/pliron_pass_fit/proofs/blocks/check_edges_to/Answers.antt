use Rattle.std.proofs.Common.{◌≤◌, length, sym, ◌∙◌, arith, inr}
use Rattle.std.proofs.lemmas.Option.{slice_get_within}
use Rattle.pliron_core.specs.Tree.{uses_of, successors_of}
use Rattle.pliron_core.proofs.FlatLemmas.{In-slice_get, slice_get-In}
use Rattle.pliron_laws.proofs.AnswerLemmas.{refuted}
use Rattle.pliron_pass_fit.proofs.CheckLemmas.{edge_from_elsewhere}
use Rattle.pliron_pass_fit.proofs.blocks.check_edges_to.Goals as goal

pub returns-then-not-is_directly_in-clause-err : goal.returns-then-not-is_directly_in-clause-err
returns-then-not-is_directly_in-clause-err g c =
    let t = c.args.ctx.now.tree in
    let user = c.get_use-user.result.0 in
    let used = c.well_formed-2.ensures.uses.block_uses.listed c.args.block c.loop-i.i _ c.get_use-user.ensures.listed in
    let named = In-slice_get (successors_of t user) c.get_use-user.result.1 c.args.block used in
    (c.args.block, named, inr c.requires.held, edge_from_elsewhere t user c.args.block c.region_of-region.result named c.region_of-region.ensures (λ e. refuted c.is_directly_in.result c.if-not-is_directly_in.true (c.is_directly_in.ensures.1 e)))

pub returns-clause-ok : goal.returns-clause-ok
returns-clause-ok g c =
    let t = c.args.ctx.now.tree in
    let whole : length (uses_of c.args.ctx.now.block_uses c.args.block) ≤ c.loop-i.i = omega arith in
    λ k i.
    let at = slice_get-In c.args.block (successors_of t k) i in
    let u = c.well_formed-2.ensures.uses.block_uses.complete k at.0 c.args.block at.1 in
    c.loop-i.invariant u.0 _ (omega (arith, whole, slice_get_within (uses_of c.args.ctx.now.block_uses c.args.block) u.0 _ u.1)) u.1 ∙ sym c.region_of-region.ensures

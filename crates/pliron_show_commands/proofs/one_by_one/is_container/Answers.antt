use Rattle.std.proofs.Common.{◌≤◌, length, arith, refl, sym, ◌∙◌, IsTrue}
use Rattle.pliron_core.specs.Tree.{regions_of}
use Rattle.pliron_core.specs.Reads.{has_ssa}
use Rattle.pliron_core.proofs.FlatLemmas.{In-slice_get}
use Rattle.pliron_laws.proofs.AnswerLemmas.{refuted}
use Rattle.pliron_pass_fit.proofs.CheckLemmas.{at_each, one_more_at}
use Rattle.pliron_show_commands.proofs.one_by_one.is_container.Goals as goal

pub returns-then-not-has_ssa_dominance : goal.returns-then-not-has_ssa_dominance
returns-then-not-has_ssa_dominance c =
    let at = In-slice_get (regions_of c.args.ctx.now.tree c.args.op) c.loop-i.i c.get_region.result c.get_region.ensures.region in
    (λ yes. (c.get_region.result, at, λ ssa. refuted c.has_ssa_dominance.result c.if-not-has_ssa_dominance.true (c.has_ssa_dominance.ensures ∙ ssa)), λ it. refl)

pub loop-i-preserved : goal.loop-i-preserved
loop-i-preserved c = one_more_at (λ r. IsTrue (has_ssa c.args.ctx.now.tree r)) (regions_of c.args.ctx.now.tree c.args.op) c.loop-i.i c.get_region.result c.get_region.ensures.region (sym c.has_ssa_dominance.ensures ∙ c.if-not-has_ssa_dominance.false) c.loop-i.invariant

pub returns : goal.returns
returns c =
    let t = c.args.ctx.now.tree in
    let whole : length (regions_of t c.args.op) ≤ c.loop-i.i = omega arith in
    (λ yes. absurd (refuted _ refl yes), λ it. absurd (it.2 (at_each (λ r. IsTrue (has_ssa t r)) (regions_of t c.args.op) c.loop-i.i whole c.loop-i.invariant it.0 it.1)))

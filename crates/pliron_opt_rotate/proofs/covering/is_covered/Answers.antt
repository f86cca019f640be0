use Rattle.std.proofs.Common.{◌≤◌, inl, inr, ⊎_elim, length, sym, ◌∙◌, arith}
use Rattle.pliron_core.specs.Tree.{uses_of}
use Rattle.pliron_core.proofs.ContainedLemmas.{passed-more}
use Rattle.pliron_opt_rotate.specs.Tested.{IsUseCovered}
use Rattle.pliron_opt_rotate.proofs.Loops.{none_passed, users_all, value_in}
use Rattle.pliron_opt_rotate.proofs.covering.is_covered.Goals as goal

pub loop-i-init : goal.loop-i-init
loop-i-init c = none_passed _ _

pub loop-i-preserved : goal.loop-i-preserved
loop-i-preserved c = passed-more _ _ c.loop-i.i _ c.loop-i.invariant c.get_use-op.ensures.listed
    (⊎_elim (λ p. inl p) (λ u. inr (value_in c.args.covers.now.values.keys c.args.value (sym c.contains-passed.ensures ∙ u.0), u.1)) (c.is_use_covered.ensures c.if-not-is_use_covered.false))

pub returns : goal.returns
returns c = λ e k i.
    let whole : length (uses_of c.args.ctx.now.value_uses c.args.value) ≤ c.loop-i.i = omega arith in
    users_all _ _ c.well_formed-2.ensures.uses.value_uses (λ k. IsUseCovered c.args.ctx.now.tree c.args.header c.args.covers.now.values.keys c.args.covers.now.body.keys c.args.covers.now.exit.keys c.args.value k) c.args.value c.loop-i.i c.loop-i.invariant whole k i

use Rattle.std.proofs.Common.{is_some, ap, sym, subst}
use Rattle.pliron_core.specs.Tree.{In}
use Rattle.pliron_opt_rotate.proofs.Rotatable.{rotatable}
use Rattle.pliron_opt_rotate.proofs.testing.may_rotate_in.Goals as goal

pub is_led_from-requires : goal.is_led_from-requires
is_led_from-requires g c = ap is_some c.requires.home

pub covers_all-requires : goal.covers_all-requires
covers_all-requires g c = ap is_some c.requires.home

pub returns-clause-may : goal.returns-clause-may
returns-clause-may g c = λ e.
    let x = c.args.rotation.now in
    let copyable = c.in_ok-may.ensures.copyable.0 e in
    rotatable g.D.HasMeaning.meaning c.args.ctx.now.tree c.well_formed-2.ensures.tree x c.args.region c.requires.home
    (λ v i. c.are_values_of.ensures c.if-not-are_values_of.false v (subst (In v) (sym c.as_slice-values.ensures.value) i))
    (c.in_ok-gates.ensures.body c.if-not-gates.false)
    (c.in_ok-gates.ensures.exit c.if-not-gates.false)
    (c.in_ok-covered.ensures.uses c.if-not-covered.false)
    (c.in_ok-covered.ensures.to_body c.if-not-covered.false)
    (c.in_ok-covered.ensures.to_exit c.if-not-covered.false)
    (c.is_led_from.ensures.none c.if-is_led_from.false)
    (λ k i. c.may_all_enter.ensures c.if-not-may_all_enter.false k (subst (In k) (sym c.as_slice-entering.ensures.value) i))
    copyable.childless

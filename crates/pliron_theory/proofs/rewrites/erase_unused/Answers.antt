use Rattle.std.proofs.Common.{rules, ◌≡◌, refl, false, Some, arith}
use Rattle.pliron_theory.proofs.RewriteLemmas.{may_have_effects, erasing_keeps}
use Rattle.pliron_theory.proofs.rewrites.erase_unused.Goals as goal

pub returns-in_default-clause-ok : goal.returns-in_default-clause-ok
returns-in_default-clause-ok g c = (
  may_have_effects g.D.SideEffects.side_effects c.args.ctx.now.tree c.args.op c.has_side_effects.result c.requires.live c.has_side_effects.ensures (λ e. grind (arith, c.in_default.is, c.in_default.field-0-is, e)),
  refl,
)

pub returns-in_default-2-clause-ok : goal.returns-in_default-2-clause-ok
returns-in_default-2-clause-ok g c = (
  may_have_effects g.D.SideEffects.side_effects c.args.ctx.now.tree c.args.op c.has_side_effects.result c.requires.live c.has_side_effects.ensures (λ e. grind (arith, c.in_default.is, e)),
  refl,
)

pub returns-clause-runs : goal.returns-clause-runs
returns-clause-runs g c =
    let said : c.has_side_effects.result ≡ Some false = search (rules, c.in-Some-false) in
    erasing_keeps g.D.HasMeaning.meaning g.D.SideEffects.side_effects c.args.ctx.now.tree c.erase_operation.new.ctx.tree c.args.op c.has_side_effects.result g.met.D.Dialect.keeps_counts g.met.D.Dialect.gives_at_once c.well_formed-2.ensures.tree c.well_formed-3.ensures.tree c.requires.live c.requires.contained c.has_side_effects.ensures said c.erase_operation.ensures.erased

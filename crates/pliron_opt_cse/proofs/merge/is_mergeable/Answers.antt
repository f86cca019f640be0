use Rattle.std.proofs.Common.{arith, true≢false, sym}
use Rattle.pliron_theory.proofs.RewriteLemmas.{may_have_effects}
use Rattle.pliron_opt_cse.proofs.merge.is_mergeable.Goals as goal

pub returns-in_default : goal.returns-in_default
returns-in_default g c = (
  λ t. absurd (true≢false (sym t)),
  λ a. absurd (may_have_effects g.D.SideEffects.side_effects c.args.ctx.now.tree c.args.op c.has_side_effects.result c.requires c.has_side_effects.ensures (λ e. grind (arith, c.in_default.is, c.in_default.field-0-is, e)) a.harmless),
)

pub returns-in_default-2 : goal.returns-in_default-2
returns-in_default-2 g c = (
  λ t. absurd (true≢false (sym t)),
  λ a. absurd (may_have_effects g.D.SideEffects.side_effects c.args.ctx.now.tree c.args.op c.has_side_effects.result c.requires c.has_side_effects.ensures (λ e. grind (arith, c.in_default.is, e)) a.harmless),
)

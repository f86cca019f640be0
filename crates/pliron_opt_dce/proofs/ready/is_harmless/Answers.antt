use Rattle.std.proofs.Common.{rules, ◌≡◌, false, Some, arith}
use Rattle.pliron_opt_dce.proofs.ReadyTests.{harmless_told, harmful_told}
use Rattle.pliron_opt_dce.proofs.ready.is_harmless.Goals as goal

pub returns-in-Some-false : goal.returns-in-Some-false
returns-in-Some-false g c =
    let said : c.has_side_effects.result ≡ Some false = search (rules, c.in-Some-false) in
    harmless_told g.D.HasMeaning.meaning g.D.SideEffects.side_effects c.args.ctx.now.tree c.args.op c.has_side_effects.result c.is_terminator.result c.requires c.has_side_effects.ensures said c.is_terminator.ensures

pub returns-in_default : goal.returns-in_default
returns-in_default g c = harmful_told g.D.HasMeaning.meaning g.D.SideEffects.side_effects c.args.ctx.now.tree c.args.op c.has_side_effects.result c.requires c.has_side_effects.ensures (λ e. grind (arith, c.in_default.is, c.in_default.field-0-is, e))

pub returns-in_default-2 : goal.returns-in_default-2
returns-in_default-2 g c = harmful_told g.D.HasMeaning.meaning g.D.SideEffects.side_effects c.args.ctx.now.tree c.args.op c.has_side_effects.result c.requires c.has_side_effects.ensures (λ e. grind (arith, c.in_default.is, e))

use Rattle.std.proofs.Common.{◌∙◌, ⊎_elim, refl, sym, ap, arith}
use Rattle.pliron_core.specs.Writes.{after_replacing}
use Rattle.pliron_core.proofs.AgreementLemmas.{no_uses_from-unnamed}
use Rattle.pliron_core.proofs.HoldingLemmas.{some_is}
use Rattle.pliron_laws.proofs.FoldLemmas.{on_err}
use Rattle.pliron_laws.proofs.MaterialisedLemmas.{restored_refl}
use Rattle.pliron_rewrite_rules.specs.Tables.{RuleTables}
use Rattle.pliron_rewrite_rules.specs.Rewriting.{with_term}
use Rattle.pliron_rewrite_rules.proofs.AppliedRules.{listed_now, live_now, counted_now, value_defined, value_unused, plain_same, new_or_plain}
use Rattle.pliron_rewrite_rules.proofs.ShownLemmas.{tables, lawful}
use Rattle.pliron_rewrite_rules.proofs.application.replace_by_term.Goals as goal

pub returns-in_err-room-clause-refused : goal.returns-in_err-room-clause-refused
returns-in_err-room-clause-refused g c = on_err _ c.from_residual.result (restored_refl c.args.ctx.now.tree c.args.ctx.now.tree refl)

pub returns-in_err-new-clause-refused : goal.returns-in_err-new-clause-refused
returns-in_err-new-clause-refused g c = on_err _ c.from_residual-in_err-new.result c.in_err-new.ensures.refused

pub get_result-old-requires-clause-live : goal.get_result-old-requires-clause-live
get_result-old-requires-clause-live g c =
    let x : RuleTables = tables g.D.HasMeaning.meaning g.D.SideEffects.side_effects g.D.ConstFoldInterface.can_fold g.D.ConstFoldInterface.constants g.D.ConstFoldInterface.accepts g.D.ConstFoldInterface.constant_head in
    let d = g.met.D.Dialect in
    let laws = lawful x _ _ d.keeps_counts d.gives_at_once d.answers_true d.makes_constants d.forwards_operands in
    live_now x laws c.args.ctx.now.tree c.well_formed-2.ensures.tree c.args.op c.requires.rule.0 c.args.term c.requires.rule.1 c.put_term.new.ctx.tree c.in_ok-new.ensures.ok

pub get_result-old-requires-clause-index : goal.get_result-old-requires-clause-index
get_result-old-requires-clause-index g c =
    let x : RuleTables = tables g.D.HasMeaning.meaning g.D.SideEffects.side_effects g.D.ConstFoldInterface.can_fold g.D.ConstFoldInterface.constants g.D.ConstFoldInterface.accepts g.D.ConstFoldInterface.constant_head in
    let d = g.met.D.Dialect in
    let laws = lawful x _ _ d.keeps_counts d.gives_at_once d.answers_true d.makes_constants d.forwards_operands in
    counted_now x laws c.args.ctx.now.tree c.well_formed-2.ensures.tree c.args.op c.requires.rule.0 c.args.term c.requires.rule.1 c.put_term.new.ctx.tree c.in_ok-new.ensures.ok

pub replace_value_uses_with-requires-clause-new : goal.replace_value_uses_with-requires-clause-new
replace_value_uses_with-requires-clause-new g c =
    let x : RuleTables = tables g.D.HasMeaning.meaning g.D.SideEffects.side_effects g.D.ConstFoldInterface.can_fold g.D.ConstFoldInterface.constants g.D.ConstFoldInterface.accepts g.D.ConstFoldInterface.constant_head in
    let d = g.met.D.Dialect in
    let laws = lawful x _ _ d.keeps_counts d.gives_at_once d.answers_true d.makes_constants d.forwards_operands in
    value_defined x laws c.args.ctx.now.tree c.well_formed-2.ensures.tree c.args.op c.requires.rule.0 c.args.term c.requires.rule.1 c.put_term.new.ctx.tree c.in_ok-new.ensures.ok c.in_ok-new.new c.in_ok-new.ensures.value

pub returns-clause-ok : goal.returns-clause-ok
returns-clause-ok g c = λ old r.
    let x : RuleTables = tables g.D.HasMeaning.meaning g.D.SideEffects.side_effects g.D.ConstFoldInterface.can_fold g.D.ConstFoldInterface.constants g.D.ConstFoldInterface.accepts g.D.ConstFoldInterface.constant_head in
    let d = g.met.D.Dialect in
    let laws = lawful x _ _ d.keeps_counts d.gives_at_once d.answers_true d.makes_constants d.forwards_operands in
    let t = c.args.ctx.now.tree in
    let here = listed_now x laws t c.well_formed-2.ensures.tree c.args.op old c.args.term r c.put_term.new.ctx.tree c.in_ok-new.ensures.ok in
    let same = some_is (sym c.get_result-old.ensures.value ∙ here) in
    let put = with_term x t c.args.op c.args.term in
    c.in_ok-replace_value_uses_with.ensures.ok
    ∙ ap (λ z. after_replacing z c.get_result-old.result c.in_ok-new.new) c.in_ok-new.ensures.ok
    ∙ ap (λ z. after_replacing put z c.in_ok-new.new) same
    ∙ ap (after_replacing put old) c.in_ok-new.ensures.value

pub returns-in_err-replace_value_uses_with-clause-refused : goal.returns-in_err-replace_value_uses_with-clause-refused
returns-in_err-replace_value_uses_with-clause-refused g c =
    let x : RuleTables = tables g.D.HasMeaning.meaning g.D.SideEffects.side_effects g.D.ConstFoldInterface.can_fold g.D.ConstFoldInterface.constants g.D.ConstFoldInterface.accepts g.D.ConstFoldInterface.constant_head in
    let d = g.met.D.Dialect in
    let laws = lawful x _ _ d.keeps_counts d.gives_at_once d.answers_true d.makes_constants d.forwards_operands in
    let t = c.args.ctx.now.tree in
    let stays = ap (λ z. z.tree) c.in_err-replace_value_uses_with.ensures.err in
    ⊎_elim
    (λ new.
    let v = c.put_term.new.ctx in
    let unused = no_uses_from-unnamed v.tree.operands v.value_uses c.in_ok-new.new c.well_formed-3.ensures.uses.value_uses (value_unused x laws c.args.ctx.now.tree c.well_formed-2.ensures.tree c.args.op c.requires.rule.0 c.args.term c.requires.rule.1 c.put_term.new.ctx.tree c.in_ok-new.ensures.ok new c.in_ok-new.new c.in_ok-new.ensures.value) in
    let ok = c.in_err-replace_value_uses_with.ensures.unused unused in
    absurd (grind (arith, ok)))
    (λ plain. on_err _ c.from_residual-in_err-replace_value_uses_with.result (restored_refl t _ (stays ∙ c.in_ok-new.ensures.ok ∙ plain_same x t c.args.op c.args.term plain)))
    (new_or_plain c.args.term)

use Rattle.std.proofs.Common.{sym, subst}
use Rattle.pliron_rewrite_rules.specs.Tables.{RuleTables}
use Rattle.pliron_rewrite_rules.proofs.ShownLemmas.{tables, lawful}
use Rattle.pliron_rewrite_rules.specs.Applying.{IsLocalChange}
use Rattle.pliron_rewrite_rules.proofs.AppliedRules.{applied_rule}
use Rattle.pliron_rewrite_rules.proofs.LocalChanges.{by_outcome, if_ok_both, local_applied, local_restored}
use Rattle.pliron_rewrite_rules.proofs.application.apply_term.Goals as goal

pub replace_by_term-replaced-requires : goal.replace_by_term-replaced-requires
replace_by_term-replaced-requires g c =
    let x : RuleTables = tables g.D.HasMeaning.meaning g.D.SideEffects.side_effects g.D.ConstFoldInterface.can_fold g.D.ConstFoldInterface.constants g.D.ConstFoldInterface.accepts g.D.ConstFoldInterface.constant_head in
    record { rule = (c.requires.applies.old, applied_rule x g.L.Rules.rules g.met.L.Rules.rules_hold c.args.ctx.now.tree c.args.op c.requires.placed c.args.term c.requires.applies) }

pub returns-clause-ok : goal.returns-clause-ok
returns-clause-ok g c =
    let x : RuleTables = tables g.D.HasMeaning.meaning g.D.SideEffects.side_effects g.D.ConstFoldInterface.can_fold g.D.ConstFoldInterface.constants g.D.ConstFoldInterface.accepts g.D.ConstFoldInterface.constant_head in
    let r = applied_rule x g.L.Rules.rules g.met.L.Rules.rules_hold c.args.ctx.now.tree c.args.op c.requires.placed c.args.term c.requires.applies in
    if_ok_both c.replace_by_term-replaced.result _ _ _ (λ new value ok. (c.args.term, c.requires.applies, ok c.requires.applies.old r, value)) c.replace_by_term-replaced.ensures.value c.replace_by_term-replaced.ensures.ok

pub returns-clause-change : goal.returns-clause-change
returns-clause-change g c =
    let x : RuleTables = tables g.D.HasMeaning.meaning g.D.SideEffects.side_effects g.D.ConstFoldInterface.can_fold g.D.ConstFoldInterface.constants g.D.ConstFoldInterface.accepts g.D.ConstFoldInterface.constant_head in
    let d = g.met.D.Dialect in
    let laws = lawful x _ _ d.keeps_counts d.gives_at_once d.answers_true d.makes_constants d.forwards_operands in
    let t = c.args.ctx.now.tree in
    let r = applied_rule x g.L.Rules.rules g.met.L.Rules.rules_hold t c.args.op c.requires.placed c.args.term c.requires.applies in
    by_outcome c.replace_by_term-replaced.result c.replace_by_term-replaced.ensures.ok c.replace_by_term-replaced.ensures.refused
    (λ ok. subst (λ z. IsLocalChange x.meaning t z c.args.op) (sym (ok c.requires.applies.old r)) (local_applied x laws t c.well_formed-2.ensures.tree c.args.op c.requires.applies.old c.args.term r))
    (λ back. local_restored x.meaning t _ c.args.op c.well_formed-2.ensures.tree c.well_formed-3.ensures.tree back)

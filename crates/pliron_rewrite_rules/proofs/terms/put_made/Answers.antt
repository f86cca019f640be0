use Rattle.std.proofs.Common.{◌∙◌, sym, ap, subst}
use Rattle.pliron_laws.specs.Outcomes.{next_value}
use Rattle.pliron_rewrite_rules.specs.Tables.{RuleTables}
use Rattle.pliron_rewrite_rules.specs.Rewriting.{with_atoms, atom_values}
use Rattle.pliron_rewrite_rules.specs.RuleLaws.{IsAccepted}
use Rattle.pliron_rewrite_rules.specs.Views.{Each}
use Rattle.pliron_rewrite_rules.proofs.AppliedRules.{made_insertion, made_is, erasable_after}
use Rattle.pliron_rewrite_rules.proofs.Putting.{new_result}
use Rattle.pliron_rewrite_rules.proofs.ShownLemmas.{tables, lawful}
use Rattle.pliron_rewrite_rules.proofs.terms.put_made.Goals as goal

pub put_atoms-requires-clause-placed : goal.put_atoms-requires-clause-placed
put_atoms-requires-clause-placed g c = c.requires.rule.1.placed

pub put_atoms-requires-clause-accepted : goal.put_atoms-requires-clause-accepted
put_atoms-requires-clause-accepted g c = subst (Each (IsAccepted g.D.ConstFoldInterface.accepts)) (sym c.as_slice.ensures) c.requires.rule.1.rule.buildable.1

pub put_operation_before-requires-clause-placed : goal.put_operation_before-requires-clause-placed
put_operation_before-requires-clause-placed g c =
    let x : RuleTables = tables g.D.HasMeaning.meaning g.D.SideEffects.side_effects g.D.ConstFoldInterface.can_fold g.D.ConstFoldInterface.constants g.D.ConstFoldInterface.accepts g.D.ConstFoldInterface.constant_head in
    let d = g.met.D.Dialect in
    let laws = lawful x _ _ d.keeps_counts d.gives_at_once d.answers_true d.makes_constants d.forwards_operands in
    let t = c.args.ctx.now.tree in
    let is = c.in-Ok.ensures.tree ∙ ap (with_atoms x t c.args.op) c.as_slice.ensures in
    let values = c.deref.ensures.value ∙ c.in-Ok.ensures.values ∙ ap (atom_values x t c.args.op) c.as_slice.ensures in
    let inserts = made_insertion x laws t c.well_formed-2.ensures.tree c.args.op c.requires.rule.0 c.args.head c.args.atoms.now c.requires.rule.1 _ _ is values in
    inserts.placed

pub put_operation_before-requires-clause-insertable : goal.put_operation_before-requires-clause-insertable
put_operation_before-requires-clause-insertable g c =
    let x : RuleTables = tables g.D.HasMeaning.meaning g.D.SideEffects.side_effects g.D.ConstFoldInterface.can_fold g.D.ConstFoldInterface.constants g.D.ConstFoldInterface.accepts g.D.ConstFoldInterface.constant_head in
    let d = g.met.D.Dialect in
    let laws = lawful x _ _ d.keeps_counts d.gives_at_once d.answers_true d.makes_constants d.forwards_operands in
    let t = c.args.ctx.now.tree in
    let is = c.in-Ok.ensures.tree ∙ ap (with_atoms x t c.args.op) c.as_slice.ensures in
    let values = c.deref.ensures.value ∙ c.in-Ok.ensures.values ∙ ap (atom_values x t c.args.op) c.as_slice.ensures in
    let inserts = made_insertion x laws t c.well_formed-2.ensures.tree c.args.op c.requires.rule.0 c.args.head c.args.atoms.now c.requires.rule.1 _ _ is values in
    inserts.insertable

pub put_operation_before-requires-clause-available : goal.put_operation_before-requires-clause-available
put_operation_before-requires-clause-available g c =
    let x : RuleTables = tables g.D.HasMeaning.meaning g.D.SideEffects.side_effects g.D.ConstFoldInterface.can_fold g.D.ConstFoldInterface.constants g.D.ConstFoldInterface.accepts g.D.ConstFoldInterface.constant_head in
    let d = g.met.D.Dialect in
    let laws = lawful x _ _ d.keeps_counts d.gives_at_once d.answers_true d.makes_constants d.forwards_operands in
    let t = c.args.ctx.now.tree in
    let is = c.in-Ok.ensures.tree ∙ ap (with_atoms x t c.args.op) c.as_slice.ensures in
    let values = c.deref.ensures.value ∙ c.in-Ok.ensures.values ∙ ap (atom_values x t c.args.op) c.as_slice.ensures in
    let inserts = made_insertion x laws t c.well_formed-2.ensures.tree c.args.op c.requires.rule.0 c.args.head c.args.atoms.now c.requires.rule.1 _ _ is values in
    inserts.available

pub returns-in-Ok-put_operation_before-clause-value : goal.returns-in-Ok-put_operation_before-clause-value
returns-in-Ok-put_operation_before-clause-value g c =
    let x : RuleTables = tables g.D.HasMeaning.meaning g.D.SideEffects.side_effects g.D.ConstFoldInterface.can_fold g.D.ConstFoldInterface.constants g.D.ConstFoldInterface.accepts g.D.ConstFoldInterface.constant_head in
    let t = c.args.ctx.now.tree in
    let is = c.in-Ok.ensures.tree ∙ ap (with_atoms x t c.args.op) c.as_slice.ensures in
    new_result _ _ c.args.op _ c.args.head _ c.in-Ok-put_operation_before.ensures.ok c.in-Ok-put_operation_before.ensures.key _ c.get_result-value.ensures.value ∙ ap next_value is

pub returns-in-Ok-put_operation_before-clause-ok : goal.returns-in-Ok-put_operation_before-clause-ok
returns-in-Ok-put_operation_before-clause-ok g c =
    let x : RuleTables = tables g.D.HasMeaning.meaning g.D.SideEffects.side_effects g.D.ConstFoldInterface.can_fold g.D.ConstFoldInterface.constants g.D.ConstFoldInterface.accepts g.D.ConstFoldInterface.constant_head in
    let d = g.met.D.Dialect in
    let laws = lawful x _ _ d.keeps_counts d.gives_at_once d.answers_true d.makes_constants d.forwards_operands in
    let t = c.args.ctx.now.tree in
    let is = c.in-Ok.ensures.tree ∙ ap (with_atoms x t c.args.op) c.as_slice.ensures in
    let values = c.deref.ensures.value ∙ c.in-Ok.ensures.values ∙ ap (atom_values x t c.args.op) c.as_slice.ensures in
    made_is x laws t c.well_formed-2.ensures.tree c.args.op c.requires.rule.0 c.args.head c.args.atoms.now c.requires.rule.1 _ _ is values _ c.in-Ok-put_operation_before.ensures.ok

pub returns-in-Err-put_operation_before-clause-refused : goal.returns-in-Err-put_operation_before-clause-refused
returns-in-Err-put_operation_before-clause-refused g c =
    let x : RuleTables = tables g.D.HasMeaning.meaning g.D.SideEffects.side_effects g.D.ConstFoldInterface.can_fold g.D.ConstFoldInterface.constants g.D.ConstFoldInterface.accepts g.D.ConstFoldInterface.constant_head in
    let t = c.args.ctx.now.tree in
    c.erase_all-in-Err-put_operation_before.ensures c.args.op t (erasable_after x c.args.op t _ _ _ c.in-Ok.ensures.erasable c.in-Err-put_operation_before.ensures.refused)

pub erase_all-requires-in-Err-put_operation_before : goal.erase_all-requires-in-Err-put_operation_before
erase_all-requires-in-Err-put_operation_before g c =
    let x : RuleTables = tables g.D.HasMeaning.meaning g.D.SideEffects.side_effects g.D.ConstFoldInterface.can_fold g.D.ConstFoldInterface.constants g.D.ConstFoldInterface.accepts g.D.ConstFoldInterface.constant_head in
    let t = c.args.ctx.now.tree in
    (c.args.op, t, erasable_after x c.args.op t _ _ _ c.in-Ok.ensures.erasable c.in-Err-put_operation_before.ensures.refused)

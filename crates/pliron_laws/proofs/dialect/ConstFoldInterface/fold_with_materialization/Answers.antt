use Rattle.std.proofs.Common.{length, sym, ap, subst, arith}
use Rattle.pliron_core.proofs.SameTreeLemmas.{same_refl}
use Rattle.pliron_laws.specs.MaterialisedConstants.{AreUnused}
use Rattle.pliron_laws.proofs.MaterialisedLemmas.{standing_unused, standing_long, replaced_long}
use Rattle.pliron_laws.proofs.FoldLemmas.{on_err}
use Rattle.pliron_laws.proofs.FoldSteps.{finished}
use Rattle.pliron_laws.proofs.dialect.ConstFoldInterface.fold_with_materialization.Goals as goal

pub returns-in_err-answers-clause-refused : goal.returns-in_err-answers-clause-refused
returns-in_err-answers-clause-refused g c = on_err _ c.from_residual.result (same_refl c.args.ctx.now.tree)

pub hand_over_all-requires : goal.hand_over_all-requires
hand_over_all-requires g c =
    let t = c.args.ctx.now.tree in
    subst (λ l. AreUnused l c.materialise_constants.new.ctx.tree) (sym c.deref-in-Ok.ensures.value) (standing_unused c.args.op t c.materialise_constants.new.made.items c.materialise_constants.new.ctx.tree c.well_formed-2.ensures.tree c.in-Ok.ensures.ok.all_in_place)

pub returns-in-Ok-clause-ok : goal.returns-in-Ok-clause-ok
returns-in-Ok-clause-ok g c =
    let d = g.Self.ConstFoldInterface in
    finished g.Self.HasMeaning.meaning d.constants d.accepts d.constant_head c.args.op c.args.operand_attrs.now c.in_ok-answers.answers.items c.deref.result.now c.args.ctx.now.tree c.materialise_constants.new.ctx.tree c.hand_over_all.new.ctx.tree c.materialise_constants.new.made.items c.deref-in-Ok.result.now c.hand_over_all.result c.in_ok-answers.ensures.ok c.deref.ensures.value c.in-Ok.ensures.ok c.deref-in-Ok.ensures.value c.hand_over_all.ensures.replaced c.hand_over_all.ensures.status

pub returns-in-Ok-clause-longer : goal.returns-in-Ok-clause-longer
returns-in-Ok-clause-longer g c =
    let t = c.args.ctx.now.tree in
    let l = standing_long c.args.op t c.materialise_constants.new.made.items c.materialise_constants.new.ctx.tree c.in-Ok.ensures.ok.all_in_place in
    let r = replaced_long c.deref-in-Ok.result.now c.materialise_constants.new.ctx.tree in
    let e = ap (λ z. length z.operations) c.hand_over_all.ensures.replaced in
    omega (arith, l, r, e)

pub erase_all-requires : goal.erase_all-requires
erase_all-requires g c =
    let r = c.in-Err.ensures.refused in
    (c.args.op, c.args.ctx.now.tree, r.0, r.1, r.2)

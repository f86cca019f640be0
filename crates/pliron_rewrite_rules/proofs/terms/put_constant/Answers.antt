use Rattle.std.proofs.Common.{◌∙◌, [], subst}
use Rattle.pliron_laws.specs.Answers.{IsMaterialised}
use Rattle.pliron_laws.proofs.FoldLemmas.{on_err}
use Rattle.pliron_rewrite_rules.proofs.MadeOperations.{made_inserted, made_point}
use Rattle.pliron_rewrite_rules.proofs.Putting.{materialised}
use Rattle.pliron_rewrite_rules.proofs.terms.put_constant.Goals as goal

pub insert_new_operation-requires-clause-fresh : goal.insert_new_operation-requires-clause-fresh
insert_new_operation-requires-clause-fresh g c =
    let d = g.D.ConstFoldInterface in
    let t = c.args.ctx.now.tree in
    let made = materialised d.accepts d.constant_head c.args.constant.now t c.materialize.new.ctx.tree c.in-Some.new c.well_formed-2.ensures.tree (subst (IsMaterialised d.accepts d.constant_head c.args.constant.now t c.materialize.new.ctx.tree) c.in-Some.is c.in_ok-new.ensures.ok) in
    (t, d.constant_head c.args.constant.now, [], made)

pub insert_new_operation-requires-clause-point : goal.insert_new_operation-requires-clause-point
insert_new_operation-requires-clause-point g c =
    let d = g.D.ConstFoldInterface in
    let t = c.args.ctx.now.tree in
    let made = materialised d.accepts d.constant_head c.args.constant.now t c.materialize.new.ctx.tree c.in-Some.new c.well_formed-2.ensures.tree (subst (IsMaterialised d.accepts d.constant_head c.args.constant.now t c.materialize.new.ctx.tree) c.in-Some.is c.in_ok-new.ensures.ok) in
    made_point _ _ _ _ _ made c.well_formed-3.ensures.tree c.args.op _ (c.room.ensures.point ∙ c.set_insertion_point_before_operation.ensures) c.requires.placed

pub returns-in_err-insert_new_operation-clause-refused : goal.returns-in_err-insert_new_operation-clause-refused
returns-in_err-insert_new_operation-clause-refused g c =
    let d = g.D.ConstFoldInterface in
    let t = c.args.ctx.now.tree in
    let made = materialised d.accepts d.constant_head c.args.constant.now t c.materialize.new.ctx.tree c.in-Some.new c.well_formed-2.ensures.tree (subst (IsMaterialised d.accepts d.constant_head c.args.constant.now t c.materialize.new.ctx.tree) c.in-Some.is c.in_ok-new.ensures.ok) in
    on_err _ c.from_residual-in_err-insert_new_operation.result (c.in_err-insert_new_operation.ensures.err t _ [] made)

pub returns-clause-key : goal.returns-clause-key
returns-clause-key g c =
    let d = g.D.ConstFoldInterface in
    let t = c.args.ctx.now.tree in
    let made = materialised d.accepts d.constant_head c.args.constant.now t c.materialize.new.ctx.tree c.in-Some.new c.well_formed-2.ensures.tree (subst (IsMaterialised d.accepts d.constant_head c.args.constant.now t c.materialize.new.ctx.tree) c.in-Some.is c.in_ok-new.ensures.ok) in
    made.key

pub returns-clause-ok : goal.returns-clause-ok
returns-clause-ok g c =
    let d = g.D.ConstFoldInterface in
    let t = c.args.ctx.now.tree in
    let made = materialised d.accepts d.constant_head c.args.constant.now t c.materialize.new.ctx.tree c.in-Some.new c.well_formed-2.ensures.tree (subst (IsMaterialised d.accepts d.constant_head c.args.constant.now t c.materialize.new.ctx.tree) c.in-Some.is c.in_ok-new.ensures.ok) in
    made_inserted _ _ _ _ _ made c.args.op _ _ (c.room.ensures.point ∙ c.set_insertion_point_before_operation.ensures) c.in_ok-insert_new_operation.ensures.ok

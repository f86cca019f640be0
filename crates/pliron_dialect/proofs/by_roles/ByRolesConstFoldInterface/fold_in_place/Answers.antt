use Rattle.std.proofs.Common.{Some, None}
use Rattle.std.proofs.lemmas.Result.{IfOk-weaker, on_err_weaker}
use Rattle.pliron_dialect.proofs.RoleReads.{constant_stays, others_fold}
use Rattle.pliron_dialect.proofs.by_roles.ByRolesConstFoldInterface.fold_in_place.Goals as goal

pub returns-then-makes_constant-clause-ok : goal.returns-then-makes_constant-clause-ok
returns-then-makes_constant-clause-ok g c = constant_stays _ _ _ _ _ _ c.args.ctx.now.tree c.args.op c.args.operand_attrs.now c.makes_constant.result c.requires.live c.makes_constant.ensures c.if-makes_constant.true

pub returns-else-makes_constant-clause-ok : goal.returns-else-makes_constant-clause-ok
returns-else-makes_constant-clause-ok g c = IfOk-weaker c.fold_with_materialization.result _ _ (λ status. others_fold _ _ _ _ _ _ c.args.ctx.now.tree c.fold_with_materialization.new.ctx.tree c.args.op c.args.operand_attrs.now c.makes_constant.result (Some status) c.requires.live c.makes_constant.ensures c.if-makes_constant.false) c.fold_with_materialization.ensures.ok

pub returns-else-makes_constant-clause-refused : goal.returns-else-makes_constant-clause-refused
returns-else-makes_constant-clause-refused g c = on_err_weaker c.fold_with_materialization.result (others_fold _ _ _ _ _ _ c.args.ctx.now.tree c.fold_with_materialization.new.ctx.tree c.args.op c.args.operand_attrs.now c.makes_constant.result None c.requires.live c.makes_constant.ensures c.if-makes_constant.false) c.fold_with_materialization.ensures.refused

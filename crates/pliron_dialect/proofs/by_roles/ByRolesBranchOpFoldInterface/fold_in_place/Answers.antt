use Rattle.std.proofs.Common.{true}
use Rattle.pliron_laws.proofs.FoldLemmas.{on_err}
use Rattle.pliron_dialect.specs.Roles.{role_at, allows_at}
use Rattle.pliron_dialect.proofs.BranchReads.{taken_facts, jumps_known, branch_stays, jump_refused}
use Rattle.pliron_dialect.proofs.by_roles.ByRolesBranchOpFoldInterface.fold_in_place.Goals as goal

pub jump_in_place-requires-clause-edge : goal.jump_in_place-requires-clause-edge
jump_in_place-requires-clause-edge g c = (taken_facts g.K.Roles.tables.value (role_at g.K.Roles.tables) (allows_at g.K.Roles.tables) 0 true c.args.ctx.now.tree c.args.op c.in-Some.edge c.args.operand_attrs.now c.requires.live c.in-Some.ensures).0

pub jump_in_place-requires-clause-no_results : goal.jump_in_place-requires-clause-no_results
jump_in_place-requires-clause-no_results g c = (taken_facts g.K.Roles.tables.value (role_at g.K.Roles.tables) (allows_at g.K.Roles.tables) 0 true c.args.ctx.now.tree c.args.op c.in-Some.edge c.args.operand_attrs.now c.requires.live c.in-Some.ensures).1

pub jump_in_place-requires-clause-no_regions : goal.jump_in_place-requires-clause-no_regions
jump_in_place-requires-clause-no_regions g c = (taken_facts g.K.Roles.tables.value (role_at g.K.Roles.tables) (allows_at g.K.Roles.tables) 0 true c.args.ctx.now.tree c.args.op c.in-Some.edge c.args.operand_attrs.now c.requires.live c.in-Some.ensures).2

pub returns-in_err-jump_in_place-in-Some-clause-refused : goal.returns-in_err-jump_in_place-in-Some-clause-refused
returns-in_err-jump_in_place-in-Some-clause-refused g c = on_err _ c.from_residual.result (jump_refused _ _ _ _ _ c.args.ctx.now.tree c.jump_in_place.new.ctx.tree c.args.op c.args.operand_attrs.now c.requires.live c.in_err-jump_in_place-in-Some.ensures.refused)

pub returns-in_ok-jump_in_place-in-Some-clause-ok : goal.returns-in_ok-jump_in_place-in-Some-clause-ok
returns-in_ok-jump_in_place-in-Some-clause-ok g c = jumps_known _ _ _ _ _ c.args.ctx.now.tree c.jump_in_place.new.ctx.tree c.args.op c.in-Some.edge c.args.operand_attrs.now c.requires.live c.in-Some.ensures c.in_ok-jump_in_place-in-Some.ensures.ok

pub returns-in-None-clause-ok : goal.returns-in-None-clause-ok
returns-in-None-clause-ok g c = branch_stays _ _ _ _ _ c.args.ctx.now.tree c.args.op c.args.operand_attrs.now c.requires.live c.in-None.ensures

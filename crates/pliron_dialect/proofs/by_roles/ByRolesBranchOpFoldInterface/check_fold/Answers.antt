use Rattle.std.proofs.Common.{Some, None, true}
use Rattle.pliron_dialect.specs.Roles.{role_at, allows_at}
use Rattle.pliron_dialect.proofs.BranchReads.{taken_read}
use Rattle.pliron_dialect.proofs.by_roles.ByRolesBranchOpFoldInterface.check_fold.Goals as goal

pub returns-in_ok-one-in-Some-clause-ok : goal.returns-in_ok-one-in-Some-clause-ok
returns-in_ok-one-in-Some-clause-ok g c =
    taken_read g.K.Roles.tables.value (role_at g.K.Roles.tables) (allows_at g.K.Roles.tables) 0 true c.args.ctx.now.tree c.args.op c.args.operand_attrs.now c.in_ok-one-in-Some.one.items (Some c.in-Some.edge) c.requires.folds c.in-Some.ensures c.in_ok-one-in-Some.ensures

pub returns-in_ok-all-in-None-clause-ok : goal.returns-in_ok-all-in-None-clause-ok
returns-in_ok-all-in-None-clause-ok g c =
    taken_read g.K.Roles.tables.value (role_at g.K.Roles.tables) (allows_at g.K.Roles.tables) 0 true c.args.ctx.now.tree c.args.op c.args.operand_attrs.now c.in_ok-all-in-None.all.items None c.requires.folds c.in-None.ensures c.in_ok-all-in-None.ensures

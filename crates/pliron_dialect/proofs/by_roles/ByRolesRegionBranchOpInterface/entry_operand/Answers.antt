use Rattle.std.proofs.Common.{ap, ◌∙◌}
use Rattle.pliron_dialect.specs.Roles.{named_by}
use Rattle.pliron_dialect.proofs.RoleReads.{entry_read, no_entry_read}
use Rattle.pliron_dialect.proofs.by_roles.ByRolesRegionBranchOpInterface.entry_operand.Goals as goal

pub returns-in-Some : goal.returns-in-Some
returns-in-Some g c = entry_read g.K.Roles.tables c.args.ctx.now.tree c.args.op c.args.region c.args.arg c.in-Some.kind c.entry_operand.result c.in-Some.ensures (c.entry_operand.ensures ∙ ap (λ n. named_by (g.K.Roles.tables.role_of c.in-Some.kind) n c.args.region c.args.arg) c.num_operand.ensures)

pub returns-in-None : goal.returns-in-None
returns-in-None g c = no_entry_read g.K.Roles.tables c.args.ctx.now.tree c.args.op c.args.region c.args.arg c.in-None.ensures

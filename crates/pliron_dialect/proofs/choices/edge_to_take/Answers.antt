use Rattle.pliron_dialect.specs.Roles.{role_at, allows_at}
use Rattle.pliron_dialect.proofs.BranchReads.{edge_taken, edge_not_taken}
use Rattle.pliron_dialect.proofs.choices.edge_to_take.Goals as goal

pub returns-then-admits_at : goal.returns-then-admits_at
returns-then-admits_at g c = edge_taken g.K.Roles.tables.value (role_at g.K.Roles.tables) (allows_at g.K.Roles.tables) c.args.ctx.now.tree c.args.op c.num_successor.result c.args.operand_attrs.now c.index_below-edge.result c.edge_for_number.result c.admits_at.result c.num_successor.ensures c.edge_for_number.ensures c.index_below-edge.ensures c.admits_at.ensures c.if-admits_at.true

pub returns-else-admits_at : goal.returns-else-admits_at
returns-else-admits_at g c = edge_not_taken g.K.Roles.tables.value (role_at g.K.Roles.tables) (allows_at g.K.Roles.tables) c.args.ctx.now.tree c.args.op c.args.operand_attrs.now c.admits_at.result c.admits_at.ensures c.if-admits_at.false

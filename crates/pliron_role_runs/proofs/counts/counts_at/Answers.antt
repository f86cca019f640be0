use Rattle.pliron_dialect.specs.Roles.{role_at, allows_at, meaning_by}
use Rattle.pliron_role_runs.specs.declared.counts.Counts.{Counts}
use Rattle.pliron_role_runs.proofs.CountReads.{shape_read}
use Rattle.pliron_role_runs.proofs.counts.counts_at.Goals as goal

pub returns : goal.returns
returns g c =
    let tables = g.K.Roles.tables in
    let counts : Counts = record { operands = c.num_operand.result; results = c.num_result.result; successors = c.num_successor.result; entry_arguments = c.in_ok-entry_arguments.entry_arguments; target_arguments = c.in_ok-target_arguments.target_arguments } in
    shape_read (meaning_by tables.value (role_at tables) (allows_at tables)) c.args.ctx.now.tree c.args.op counts c.num_operand.ensures c.num_result.ensures c.num_successor.ensures c.in_ok-entry_arguments.ensures c.in_ok-target_arguments.ensures

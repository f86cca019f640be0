use Rattle.std.proofs.Common.{◌∙◌, ap, sym, map, Some}
use Rattle.pliron_core.specs.Tree.{successors_of}
use Rattle.pliron_laws.specs.Tree.{unless, block_at, count_arguments}
use Rattle.pliron_dialect.specs.Roles.{role_at, allows_at, meaning_by}
use Rattle.pliron_role_runs.proofs.CountReads.{targets_read}
use Rattle.pliron_role_runs.proofs.counts.target_arguments_at.Goals as goal

pub returns-then-is_branch : goal.returns-then-is_branch
returns-then-is_branch g c =
    let tables = g.K.Roles.tables in
    let t = c.args.ctx.now.tree in
    targets_read (meaning_by tables.value (role_at tables) (allows_at tables)) t c.args.op c.is_branch.result _ c.is_branch.ensures
    (ap (λ b. unless b (map (λ k. count_arguments (block_at t k)) (successors_of t c.args.op))) (sym c.if-is_branch.true))

pub returns-in_ok-all_target_arguments : goal.returns-in_ok-all_target_arguments
returns-in_ok-all_target_arguments g c =
    let tables = g.K.Roles.tables in
    let t = c.args.ctx.now.tree in
    targets_read (meaning_by tables.value (role_at tables) (allows_at tables)) t c.args.op c.is_branch.result _ c.is_branch.ensures
    (ap Some c.in_ok-all_target_arguments.ensures ∙ ap (λ b. unless b (map (λ k. count_arguments (block_at t k)) (successors_of t c.args.op))) (sym c.if-is_branch.false))

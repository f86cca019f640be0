use Rattle.std.proofs.Common.{◌≡◌, ◌≤◌, map}
use Rattle.pliron_laws.specs.Machine.{run, sight_after}
use Rattle.pliron_evaluator.specs.Evaluator.{datum_of_value, sight_of}
use Rattle.pliron_dialect.specs.Roles.{role_at, allows_at, meaning_by}
use Rattle.pliron_role_runs.proofs.known.longest_known.Given as goal

abbrev pub invariant-loop : goal.invariant-loop
invariant-loop g l = (l.longest.steps ≤ l.given.fuel) × (l.end ≤ l.given.fuel) × (sight_of l.longest.sight ≡ sight_after (run (meaning_by g.K.Roles.tables.value (role_at g.K.Roles.tables) (allows_at g.K.Roles.tables)) l.ctx.tree l.root (map datum_of_value l.given.inputs.items) (map datum_of_value l.given.world.items) l.longest.steps))

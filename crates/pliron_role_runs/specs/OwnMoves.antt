-- What the moves of small dialects stand for.
use Rattle.std.specs.Prelude.{[], map, false}
use Rattle.pliron_laws.specs.Datum.{Shape}
use Rattle.pliron_role_runs.specs.declared.counts.Counts.{Counts}
use Rattle.pliron_role_runs.specs.declared.own_moves.Turn.{Turn as TurnValue}
use Rattle.pliron_role_runs.specs.declared.own_moves.Turn.TheVariants.{Again as AgainValue, Over as OverValue}
use Rattle.pliron_evaluator.specs.Evaluator.{datum_of_value}
use Rattle.pliron_role_runs.specs.RoleRuns.{shape_by}
use Rattle.pliron_role_runs.specs.Visits.{Turn, Again, Over}

-- a shape with these counts: the moves of small dialects depend on no head
abbrev pub shape_of_counts : Counts → Shape
shape_of_counts c = shape_by (record { kind = 0; ssa = false; attrs = [] }) c

-- what comes next of what passes the same operands at each visit
abbrev pub turn_of : TurnValue → Turn
turn_of (AgainValue i others stage) = Again i (map datum_of_value others.items) (datum_of_value stage)
turn_of (OverValue results) = Over (map datum_of_value results.items)

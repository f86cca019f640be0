-- What operations of dialects by roles do when they run, as the code reads it.
use Rattle.std.specs.Prelude.{ℕ, List}
use Rattle.std.specs.Option.{option_map}
use Rattle.pliron_core.specs.declared.attrs.Head.{Head}
use Rattle.pliron_laws.specs.Datum.{Datum, Shape, Move, Goto, Trap}
use Rattle.pliron_dialect.specs.Roles.{Role, Acts, Names, Forks}
use Rattle.pliron_dialect.specs.Counted.{values_of_edge}
use Rattle.pliron_role_runs.specs.declared.counts.Counts.{Counts}

-- the shape of an operation with this head and these counts
abbrev pub shape_by : Head → Counts → Shape
shape_by h c = record {
  head = h;
  operands = c.operands;
  results = c.results;
  successors = c.successors;
  entry_arguments = c.entry_arguments.items;
  target_arguments = option_map (λ counts. counts.items) c.target_arguments;
}

-- what an operation does that acts by its own table
abbrev pub own_act : Role → Shape → Datum → List Datum → Move
own_act (Acts says removes act) s memo input = act s memo input
own_act (Names act named) s memo input = act s memo input
own_act (Forks says act) s memo input = act s memo input
own_act _ s memo input = Trap

-- the jump along this edge, by how many operands each edge has
abbrev pub branch_to : List ℕ → ℕ → List Datum → Move
branch_to counts edge input = Goto edge (values_of_edge counts edge input)

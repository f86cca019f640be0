-- What the values of the evaluator stand for.
use Rattle.std.specs.Prelude.{ℕ, nat_eq, List, Option, Some, None, map}
use Rattle.std.specs.HashMap.{HashMap, get}
use Rattle.std.specs.Option.{option_map}
use Rattle.std.specs.Global.{Vec}
use Rattle.pliron_laws.specs.Datum.{Datum, Empty, Number, Text, Join, Move, Give, Visit, Goto, Leave, Emit, Trap}
use Rattle.pliron_laws.specs.States.{Environment, Waiting, State, Sight, Ended, Trapped, Reached, Next, Continues, Over}
use Rattle.pliron_evaluator.specs.declared.evaluator.values.Datum.{Datum as DatumValue}
use Rattle.pliron_evaluator.specs.declared.evaluator.values.Datum.TheVariants.{Empty as EmptyValue, Number as NumberValue, Text as TextValue, Join' as JoinValue'}
use Rattle.pliron_evaluator.specs.declared.evaluator.values.Move.{Move as MoveValue}
use Rattle.pliron_evaluator.specs.declared.evaluator.values.Move.TheVariants.{Give as GiveValue, Visit as VisitValue, Goto as GotoValue, Leave as LeaveValue, Emit as EmitValue, Trap as TrapValue}
use Rattle.pliron_evaluator.specs.declared.evaluator.values.Sight.{Sight as SightValue}
use Rattle.pliron_evaluator.specs.declared.evaluator.values.Sight.TheVariants.{Ended as EndedValue, Trapped as TrappedValue, Reached as ReachedValue}
use Rattle.pliron_evaluator.specs.declared.evaluator.state.WaitingOperation.{WaitingOperation}
use Rattle.pliron_evaluator.specs.declared.evaluator.state.State.{State as StateValue}
use Rattle.pliron_evaluator.specs.declared.evaluator.state.Next.{Next as NextValue}
use Rattle.pliron_evaluator.specs.declared.evaluator.state.Next.TheVariants.{Continues as ContinuesValue, Over as OverValue}

-- p and q are the pointers of the two boxes
abbrev pub datum_of_value : DatumValue → Datum
datum_of_value EmptyValue = Empty
datum_of_value (NumberValue n) = Number n
datum_of_value (TextValue s) = Text s
datum_of_value (JoinValue' p a q b) = Join (datum_of_value a) (datum_of_value b)

abbrev pub move_of : MoveValue → Move
move_of (GiveValue ds) = Give (map datum_of_value ds.items)
move_of (VisitValue i ds memo) = Visit i (map datum_of_value ds.items) (datum_of_value memo)
move_of (GotoValue i ds) = Goto i (map datum_of_value ds.items)
move_of (LeaveValue ds) = Leave (map datum_of_value ds.items)
move_of (EmitValue effect memo) = Emit (datum_of_value effect) (datum_of_value memo)
move_of TrapValue = Trap

abbrev pub sight_of : SightValue → Sight
sight_of (EndedValue ds effects) = Ended (map datum_of_value ds.items) (map datum_of_value effects.items)
sight_of (TrappedValue effects) = Trapped (map datum_of_value effects.items)
sight_of (ReachedValue effects) = Reached (map datum_of_value effects.items)

-- a value has the datum that the map has for it
abbrev pub environment_of : {S : Type 0} → HashMap ℕ DatumValue S → Environment
environment_of m = λ v. option_map datum_of_value (get nat_eq m v)

abbrev pub answer_of_values : Option (Vec DatumValue) → Option (List Datum)
answer_of_values None = None
answer_of_values (Some ds) = Some (map datum_of_value ds.items)

abbrev pub waiting_of : WaitingOperation → Waiting
waiting_of w = record { rest = w.rest.items; memo = datum_of_value w.memo }

abbrev pub state_of : StateValue → State
state_of s = record {
  environment = environment_of s.environment;
  rest = s.rest.items;
  memo = datum_of_value s.memo;
  answer = answer_of_values s.answer;
  waiting = map waiting_of s.waiting.items;
  world = map datum_of_value s.world.items;
  effects = map datum_of_value s.effects.items;
}

abbrev pub next_of_value : NextValue → Next
next_of_value (ContinuesValue s) = Continues (state_of s)
next_of_value (OverValue x) = Over (sight_of x)

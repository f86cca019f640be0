-- The states of a run.
use Rattle.std.specs.Prelude.{ℕ, List, [], ◌∷◌, Option, Some, None, nat_eq, if◌then◌else◌}
use Rattle.pliron_laws.specs.Datum.{Datum}

-- the data of the values that have one
abbrev pub Environment : Type 0
Environment = ℕ → Option Datum

-- an operation that waits for the end of an invocation, with those after it in its block
pub record Waiting : Type 0 where
  pub rest : List ℕ
  pub memo : Datum

pub record State : Type 0 where
  pub environment : Environment
  -- the operation whose transition is next, and those after it in its block
  pub rest : List ℕ
  pub memo : Datum
  -- what the last invocation or effect answered; at an operation's first transition its operands' data are the
  -- input
  pub answer : Option (List Datum)
  pub waiting : List Waiting
  pub world : List Datum
  -- the latest first
  pub effects : List Datum

-- what can be seen of a run
pub data Sight : Type 0 where
  Ended : (values effects : List Datum) → Sight
  Trapped : (effects : List Datum) → Sight
  Reached : (effects : List Datum) → Sight

pub data Next : Type 0 where
  Continues : State → Next
  Over : Sight → Next

abbrev pub trap : State → Next
trap s = Over (Trapped s.effects)

unfoldable pub environment_with : Environment → ℕ → Datum → Environment
environment_with env v d = λ w. if nat_eq w v then Some d else env w

-- the environment with these values bound, unless their counts differ
abbrev pub bind : Environment → List ℕ → List Datum → Option Environment
bind env [] [] = Some env
bind env (v ∷ vs) (d ∷ ds) = bind (environment_with env v d) vs ds
bind env [] (d ∷ ds) = None
bind env (v ∷ vs) [] = None

abbrev pub prepend_optional : Option Datum → Option (List Datum) → Option (List Datum)
prepend_optional None o = None
prepend_optional (Some d) None = None
prepend_optional (Some d) (Some ds) = Some (d ∷ ds)

-- the data of these values, where each has one
abbrev pub data_of : Environment → List ℕ → Option (List Datum)
data_of env [] = Some []
data_of env (v ∷ vs) = prepend_optional (env v) (data_of env vs)

abbrev pub input_of : Environment → List ℕ → Option (List Datum) → Option (List Datum)
input_of env operands None = data_of env operands
input_of env operands (Some ds) = Some ds

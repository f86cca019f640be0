-- When two trees do the same at a root.
use Rattle.std.specs.Prelude.{◌≡◌, ℕ, List, ◌↔◌}
use Rattle.pliron_laws.specs.Datum.{Datum, Meaning}
use Rattle.pliron_laws.specs.Tree.{Tree}
use Rattle.pliron_laws.specs.Machine.{State, Next, Sight, run_from, sight_after, step, start}

-- within some bound a run from this state shows it
abbrev pub Shows : (State → Next) → State → Sight → Type 0
Shows f s x = (n : ℕ) × (sight_after (run_from f n s) ≡ x)

-- what one of two machines shows, from its state, the other one shows, and nothing else
abbrev pub SeenAlike : (State → Next) → (State → Next) → State → State → Type 0
SeenAlike f g s s' = (x : Sight) → Shows f s x ↔ Shows g s' x

-- the trees end with the same values and effects, trap after the same effects and reach the same effects
pub record Agree (m : Meaning) (t t' : Tree) (root : ℕ) : Type 0 where
  pub alike : (inputs world : List Datum) → SeenAlike (step m t) (step m t') (start root inputs world) (start root inputs world)

-- When linked runs of two programs show the same.
use Rattle.std.specs.Prelude.{◌≡◌, ◌↔◌, ℕ, List, [], ◌∷◌, Some}
use Rattle.pliron_laws.specs.Datum.{Datum, Meaning}
use Rattle.pliron_laws.specs.Machine.{Sight, Reached, step, start}
use Rattle.pliron_laws.specs.Agree.{Agree, Shows, SeenAlike}
use Rattle.pliron_pass_linked.specs.Calls.{Call, CallingConvention}
use Rattle.pliron_pass_linked.specs.LinkedRuns.{Program, Function, Linker, Reply, Answer, Callback, LinkedState, LinkedNext, linked_step, linked_from, linked_sight, linked_start}

-- within some bound a linked run from this state shows it
abbrev pub LinkedShows : (LinkedState → LinkedNext) → LinkedState → Sight → Type 0
LinkedShows f s x = (n : ℕ) × (linked_sight (linked_from f n s) ≡ x)

-- in this world, what a linked run of the function on these inputs shows in one program, it shows in the other
abbrev pub LinkedSeenAlike : Meaning → CallingConvention → Linker → (p q : Program) → Function → List Datum → List Reply → Type 0
LinkedSeenAlike m c link p q f inputs world = (x : Sight) → LinkedShows (linked_step m c link p) (linked_start f inputs world) x ↔ LinkedShows (linked_step m c link q) (linked_start f inputs world) x

-- for all inputs and all worlds, also those that call back: linked runs of the function in the two programs end with
-- the same values and effects, trap after the same effects and reach the same effects
pub record LinkedAgree (m : Meaning) (c : CallingConvention) (link : Linker) (p q : Program) (f : Function) : Type 0 where
  pub alike : (inputs : List Datum) (world : List Reply) → LinkedSeenAlike m c link p q f inputs world

-- the function alone, whatever answers its calls, does the same in both programs
abbrev pub AgreesAlone : Meaning → (p q : Program) → Function → Type 0
AgreesAlone m p q f = Agree m (p f.in_module) (q f.in_module) f.root

-- the world calls back what these names stand for, and nothing else
abbrev pub CallsBackOnly : (ℕ → Datum → Type 0) → List Reply → Type 0
CallsBackOnly names [] = Unit {0}
CallsBackOnly names (Answer d ∷ world) = CallsBackOnly names world
CallsBackOnly names (Callback n symbol ds ∷ world) = names n symbol × CallsBackOnly names world

-- each function, alone, does the same on the inputs that meet its precondition, and calls others on inputs that meet
-- theirs; what an exported name stands for is called on any inputs
pub record AgreeOnInputs (m : Meaning) (c : CallingConvention) (link : Linker) (exported : ℕ → Datum → Type 0) (precondition : Function → List Datum → Type 0) (p q : Program) : Type 0 where
  pub alike : (f : Function) (inputs world : List Datum) → precondition f inputs → SeenAlike (step m (p f.in_module)) (step m (q f.in_module)) (start f.root inputs world) (start f.root inputs world)
  pub calls : (f g : Function) (inputs world es : List Datum) (e : Datum) (call : Call) → precondition f inputs → Shows (step m (p f.in_module)) (start f.root inputs world) (Reached (e ∷ es)) → c.call_of e ≡ Some call → link f.in_module call.symbol ≡ Some g → precondition g call.arguments
  pub exports : (n : ℕ) (symbol : Datum) (f : Function) (inputs : List Datum) → exported n symbol → link n symbol ≡ Some f → precondition f inputs

-- The machine that runs the functions of a program, which call one another.
use Rattle.std.specs.Prelude.{ℕ, zero, suc, List, [], ◌∷◌, ◌++◌, Option, Some, None}
use Rattle.pliron_laws.specs.Datum.{Datum, Meaning}
use Rattle.pliron_laws.specs.Tree.{Tree}
use Rattle.pliron_laws.specs.Machine.{State, Sight, Ended, Trapped, Reached, Next, Continues, Over, step, start}
use Rattle.pliron_pass_linked.specs.Calls.{Call, CallingConvention}

-- the trees of the modules of a program, by number
abbrev pub Program : Type 0
Program = ℕ → Tree

-- a root of one of the modules
pub record Function : Type 0 where
  pub in_module : ℕ
  pub root : ℕ

-- the function that a name in a module stands for; none where the program has no such function
abbrev pub Linker : Type 0
Linker = (in_module : ℕ) (symbol : Datum) → Option Function

-- what the world does when it sees an effect: it answers, or it first calls back what a name in a module stands for
pub data Reply : Type 0 where
  Answer : Datum → Reply
  Callback : (in_module : ℕ) (symbol : Datum) (arguments : List Datum) → Reply

-- who called a function: that of the frame below, or the world
pub data Caller : Type 0 where
  Below : Caller
  World : Caller

-- a run of one function; the world of its state is what it was answered and hasn't read yet
pub record Frame : Type 0 where
  pub function : Function
  pub state : State
  pub caller : Caller

pub record LinkedState : Type 0 where
  -- the frame that moves, and those that wait for an answer, the innermost first
  pub top : Frame
  pub below : List Frame
  -- what the world will reply
  pub world : List Reply
  -- what the world saw, the latest first
  pub effects : List Datum

pub data LinkedNext : Type 0 where
  Goes : LinkedState → LinkedNext
  Stops : Sight → LinkedNext

abbrev pub frame_of : Function → List Datum → Caller → Frame
frame_of f ds who = record { function = f; state = start f.root ds []; caller = who }

-- what the frame asked for is answered
abbrev pub with_answer : Frame → Datum → Frame
with_answer f d = record f { state = record f.state { world = f.state.world ++ d ∷ [] } }

-- a function begins
abbrev pub with_frame : LinkedState → Function → List Datum → Caller → LinkedState
with_frame s f ds who = record s { top = frame_of f ds who; below = s.top ∷ s.below }

-- the world calls back; a name that stands for no function traps
abbrev pub after_callback : LinkedState → List Datum → Option Function → LinkedNext
after_callback s ds None = Stops (Trapped s.effects)
after_callback s ds (Some f) = Goes (with_frame s f ds World)

abbrev pub after_reply : Linker → LinkedState → List Reply → LinkedNext
after_reply link s [] = Stops (Reached s.effects)
after_reply link s (Answer d ∷ world) = Goes (record s { top = with_answer s.top d; world = world })
after_reply link s (Callback n symbol ds ∷ world) = after_callback (record s { world = world }) ds (link n symbol)

-- the world sees an effect of the frame on top
abbrev pub show_world : Linker → LinkedState → Datum → LinkedNext
show_world link s e = after_reply link (record s { effects = e ∷ s.effects }) s.world

-- the frame on top has ended with these values
abbrev pub after_return : CallingConvention → Linker → LinkedState → List Frame → Caller → List Datum → LinkedNext
after_return c link s [] who ds = Stops (Ended ds s.effects)
after_return c link s (f ∷ fs) Below ds = Goes (record s { top = with_answer f (c.answer_of ds); below = fs })
after_return c link s (f ∷ fs) World ds = show_world link (record s { top = f; below = fs }) (c.return_of ds)

-- a call of a function of the program begins it; any other effect is the world's
abbrev pub after_call : Linker → LinkedState → Datum → List Datum → Option Function → LinkedNext
after_call link s e ds None = show_world link s e
after_call link s e ds (Some f) = Goes (with_frame s f ds Below)

abbrev pub after_effect : Linker → LinkedState → Datum → Option Call → LinkedNext
after_effect link s e None = show_world link s e
after_effect link s e (Some call) = after_call link s e call.arguments (link s.top.function.in_module call.symbol)

abbrev pub after_sight : CallingConvention → Linker → LinkedState → Sight → LinkedNext
after_sight c link s (Ended ds es) = after_return c link s s.below s.top.caller ds
after_sight c link s (Trapped es) = Stops (Trapped s.effects)
after_sight c link s (Reached []) = Stops (Reached s.effects)
after_sight c link s (Reached (e ∷ es)) = after_effect link s e (c.call_of e)

abbrev pub with_state : LinkedState → State → LinkedState
with_state s a = record s { top = record s.top { state = a } }

abbrev pub after_step : CallingConvention → Linker → LinkedState → Next → LinkedNext
after_step c link s (Continues a) = Goes (with_state s a)
after_step c link s (Over x) = after_sight c link s x

-- one step of the frame on top in its module's tree; where it has no answer to an effect, the call or the world's reply
unfoldable pub linked_step : Meaning → CallingConvention → Linker → Program → LinkedState → LinkedNext
linked_step m c link p s = after_step c link s (step m (p s.top.function.in_module) s.top.state)

abbrev pub goes_on : LinkedNext → (LinkedState → LinkedNext) → LinkedNext
goes_on (Goes s) go = go s
goes_on (Stops x) go = Stops x

-- at most n steps
abbrev pub linked_from : (LinkedState → LinkedNext) → ℕ → LinkedState → LinkedNext
linked_from f zero s = Goes s
linked_from f (suc n) s = goes_on (f s) (linked_from f n)

-- the world calls a function of the program
abbrev pub linked_start : Function → List Datum → List Reply → LinkedState
linked_start f inputs world = record { top = frame_of f inputs World; below = []; world = world; effects = [] }

abbrev pub linked_sight : LinkedNext → Sight
linked_sight (Goes s) = Reached s.effects
linked_sight (Stops x) = x

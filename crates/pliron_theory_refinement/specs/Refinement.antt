-- When runs of one tree refine those of another: poison may become anything, and after undefined behaviour, which is a
-- trap here, everything is allowed.
use Rattle.std.specs.Prelude.{◌≡◌, ◌⊎◌, ℕ, true, false, length, List, [], ◌∷◌, Option, Some, None, Bool, IsTrue}
use Rattle.pliron_core.specs.Tree.{Tree, In, IsInside, parent_of, operands_of}
use Rattle.pliron_laws.specs.Datum.{Datum, Empty, Shape, Move, Give, Visit, Goto, Leave, Emit, Trap, Meaning}
use Rattle.pliron_laws.specs.Tree.{Operation, op_at, shape_of}
use Rattle.pliron_laws.specs.Machine.{Environment, State, Next, Continues, Over, Sight, Ended, Trapped, Reached, run_from, step, start}
use Rattle.pliron_laws.specs.Agree.{Shows}
use Rattle.pliron_theory.specs.Renaming.{RunReaches}

-- which datum may be replaced by which other one
abbrev pub Relation : Type 0
Relation = Datum → Datum → Bool

pub record IsPreorder (R : Relation) : Type 0 where
  pub reflexive : (d : Datum) → IsTrue (R d d)
  pub transitive : (a b c : Datum) → IsTrue (R a b) → IsTrue (R b c) → IsTrue (R a c)

-- one by one, and as many
abbrev pub AllMayBecome : Relation → List Datum → List Datum → Type 0
AllMayBecome R [] [] = Unit {0}
AllMayBecome R [] (e ∷ es) = ⊥
AllMayBecome R (d ∷ ds) [] = ⊥
AllMayBecome R (d ∷ ds) (e ∷ es) = IsTrue (R d e) × AllMayBecome R ds es

-- what a run shows allows what the other shows; a trap is treated apart
abbrev pub MayShow : Relation → Relation → Sight → Sight → Type 0
MayShow R E (Ended ds es) (Ended ds' es') = AllMayBecome R ds ds' × AllMayBecome E es es'
MayShow R E (Reached es) (Reached es') = AllMayBecome E es es'
MayShow R E (Ended ds es) (Reached es') = ⊥
MayShow R E (Reached es) (Ended ds' es') = ⊥
MayShow R E (Trapped es) x = ⊥
MayShow R E (Ended ds es) (Trapped es') = ⊥
MayShow R E (Reached es) (Trapped es') = ⊥

-- the run from this state comes to undefined behaviour
abbrev pub IsUndefined : (State → Next) → State → Type 0
IsUndefined f s = (n : ℕ) × (es : List Datum) × (run_from f n s ≡ Over (Trapped es))

-- unless the first is undefined, each shows what the other allows, and nothing else; E compares effects
pub record RefinesFrom (R E : Relation) (f g : State → Next) (s s' : State) : Type 0 where
  pub forth : (x : Sight) → Shows f s x → IsUndefined f s ⊎ ((x' : Sight) × Shows g s' x' × MayShow R E x x')
  pub back : (x' : Sight) → Shows g s' x' → IsUndefined f s ⊎ ((x : Sight) × Shows f s x × MayShow R E x x')

-- at a root, for all inputs and all worlds, the second tree refines the first
pub record Refines (R E : Relation) (m : Meaning) (t t' : Tree) (root : ℕ) : Type 0 where
  pub refines : (inputs world : List Datum) → RefinesFrom R E (step m t) (step m t') (start root inputs world) (start root inputs world)

-- ---- monotone meanings

-- where the one move is no trap, the other is the same but for data that may become others
abbrev pub MoveMayBecome : Relation → Relation → Move → Move → Type 0
MoveMayBecome R E Trap b = Unit {0}
MoveMayBecome R E (Give ds) (Give es) = AllMayBecome R ds es
MoveMayBecome R E (Visit i ds memo) (Visit j es memo') = (i ≡ j) × AllMayBecome R ds es × (memo ≡ memo')
MoveMayBecome R E (Goto i ds) (Goto j es) = (i ≡ j) × AllMayBecome R ds es
MoveMayBecome R E (Leave ds) (Leave es) = AllMayBecome R ds es
MoveMayBecome R E (Emit d memo) (Emit e memo') = IsTrue (E d e) × (memo ≡ memo')
MoveMayBecome R E _ _ = ⊥

-- less poison in, less poison out
abbrev pub ActsMonotonely : Relation → Relation → Meaning → Type 0
ActsMonotonely R E m = (s : Shape) (memo : Datum) (input input' : List Datum) → AllMayBecome R input input' → MoveMayBecome R E (m.act s memo input) (m.act s memo input')

-- wherever an operation first reads a value, what the value is renamed to has a datum that the value's may become
abbrev pub HaveLessData : Relation → Meaning → Tree → (ℕ → ℕ) → ℕ → Type 0
HaveLessData R m t rename root = (s : State) (k v : ℕ) (rest : List ℕ) (d : Datum) → RunReaches m t root s → s.rest ≡ k ∷ rest → s.answer ≡ None → In v (operands_of t k) → s.environment v ≡ Some d → (e : Datum) × (s.environment (rename v) ≡ Some e) × IsTrue (R d e)

-- ---- dead operations

-- from any data that its operands may have, the operation gives its results at once, or is undefined behaviour
abbrev pub GivesOrStops : Meaning → Tree → ℕ → Type 0
GivesOrStops m t k = (o : Operation) → op_at t k ≡ Some o → (ds : List Datum) → length ds ≡ length o.operands → ((r : List Datum) × (m.act (shape_of m t o) Empty ds ≡ Give r) × (length r ≡ length o.results)) ⊎ (m.act (shape_of m t o) Empty ds ≡ Trap)

-- so does each dead operation that a run of the root can come to
abbrev pub DeadRemovable : Meaning → Tree → (dead dead_block : ℕ → Bool) → ℕ → Type 0
DeadRemovable m t dead dead_block root = (k b : ℕ) → IsInside t root k → dead k ≡ true → parent_of t k ≡ Some b → dead_block b ≡ false → GivesOrStops m t k

-- Frames that go on, or are over, alike.
use Rattle.std.proofs.Common.{◌≡◌, List, [], ◌∷◌, Option, Some, None}
use Rattle.pliron_laws.specs.Datum.{Datum}
use Rattle.pliron_laws.specs.Machine.{State, Sight, Ended, Trapped, Reached, Next, Continues, Over}

abbrev pub latest : List Datum → Option Datum
latest [] = None
latest (e ∷ es) = Some e

-- two frames are over alike, but for the effects that they showed before
abbrev pub SeenSame : Sight → Sight → Type 0
SeenSame (Ended ds es) (Ended ds' es') = ds ≡ ds'
SeenSame (Ended ds es) (Trapped es') = ⊥
SeenSame (Ended ds es) (Reached es') = ⊥
SeenSame (Trapped es) (Ended ds' es') = ⊥
SeenSame (Trapped es) (Trapped es') = Unit {0}
SeenSame (Trapped es) (Reached es') = ⊥
SeenSame (Reached es) (Ended ds' es') = ⊥
SeenSame (Reached es) (Trapped es') = ⊥
SeenSame (Reached es) (Reached es') = latest es ≡ latest es'

abbrev pub NextSeen : (State → State → Type 0) → Next → Next → Type 0
NextSeen R (Continues a) (Continues b) = R a b
NextSeen R (Over x) (Over y) = SeenSame x y
NextSeen R (Continues a) (Over y) = ⊥
NextSeen R (Over x) (Continues b) = ⊥

-- the same of frames that don't end
abbrev pub SeenInside : Sight → Sight → Type 0
SeenInside (Ended ds es) y = ⊥
SeenInside (Trapped es) (Ended ds' es') = ⊥
SeenInside (Trapped es) (Trapped es') = Unit {0}
SeenInside (Trapped es) (Reached es') = ⊥
SeenInside (Reached es) (Ended ds' es') = ⊥
SeenInside (Reached es) (Trapped es') = ⊥
SeenInside (Reached es) (Reached es') = latest es ≡ latest es'

abbrev pub NextInside : (State → State → Type 0) → Next → Next → Type 0
NextInside R (Continues a) (Continues b) = R a b
NextInside R (Over x) (Over y) = SeenInside x y
NextInside R (Continues a) (Over y) = ⊥
NextInside R (Over x) (Continues b) = ⊥

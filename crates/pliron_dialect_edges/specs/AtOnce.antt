-- Branches that go at once.
use Rattle.std.proofs.Common.{◌≡◌, ℕ, false, List, Option, Some, None, length, IsTrue, arith}
use Rattle.std.specs.Option.{option_map}
use Rattle.pliron_laws.specs.Datum.{Datum, Empty, Shape, Move, Give, Visit, Goto, Leave, Emit, Trap, Meaning}
use Rattle.pliron_laws.specs.Laws.{Admitted}
use Rattle.pliron_dialect.specs.Roles.{Interpretation, Role, Allows, Jumps, Chooses, by_role, by_form, form_of, act_of, no_act, branches, meaning_by}

-- the transition goes along an edge, or traps
abbrev pub GoesOrTraps : Move → Type 0
GoesOrTraps (Give ds) = ⊥
GoesOrTraps (Visit i ds memo) = ⊥
GoesOrTraps (Goto i ds) = Unit {0}
GoesOrTraps (Leave ds) = ⊥
GoesOrTraps (Emit e memo) = ⊥
GoesOrTraps Trap = Unit {0}

-- whatever its operands are, the first transition of a branch goes along an edge, or traps
abbrev pub GoAtOnce : Meaning → Type 0
GoAtOnce m = (s : Shape) → Admitted m s → IsTrue (m.is_branch s.head) → (first : List Datum) → length first ≡ s.operands → GoesOrTraps (m.act s Empty first)

-- so it is by roles

role_goes : (value : Interpretation) (k : Role) (s : Shape) (first : List Datum) → IsTrue (branches (form_of k)) → GoesOrTraps (act_of value k s Empty first)
role_goes value Jumps s first br = tt
role_goes value (Chooses counting choose) s first br = tt
role_goes value _ s first br = grind arith

goes : (value : Interpretation) (o : Option Role) (s : Shape) (first : List Datum) → IsTrue (by_form false branches (option_map form_of o)) → GoesOrTraps (by_role no_act (act_of value) o s Empty first)
goes value None s first br = tt
goes value (Some k) s first br = role_goes value k s first br

pub go_at_once : (value : Interpretation) (roles : ℕ → Option Role) (allows : Allows) → GoAtOnce (meaning_by value roles allows)
unfolding meaning_by
go_at_once value roles allows s admitted branch first long = goes value (roles s.head.kind) s first branch

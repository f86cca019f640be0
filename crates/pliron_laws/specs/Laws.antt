-- The laws of a dialect on counts, side effects, branches and arguments. Each speaks of the operations
-- that the dialect admits, and of all that such an operation can come to from its first input.
use Rattle.std.specs.Prelude.{◌≡◌, ◌<◌, ◌≤◌, ◌+◌, ◌-◌, ◌⊎◌, ℕ, nat_eq, nat_lt, if◌then◌else◌, Bool, true, false, List, [], Option, Some, length, slice_get, slice_set, remove, map, IsTrue}
use Rattle.pliron_core.specs.declared.attrs.AttrObj.{AttrObj}
use Rattle.pliron_core.specs.Tree.{In}
use Rattle.pliron_laws.specs.Datum.{Datum, Empty, Head, Shape, Move, Give, Visit, Goto, Leave, Emit, Trap, Meaning}
use Rattle.pliron_laws.specs.Acting.{Comes, ActAlike, PassesSame, JumpsSame, DropsAt, pick}

abbrev pub Admitted : Meaning → Shape → Type 0
Admitted m s = IsTrue (m.admits s.head s.operands s.results s.successors (length s.entry_arguments))

-- a transition passes as many values as there are places for them; the jumps of branches aside
abbrev pub CountsFit : Bool → Shape → Move → Type 0
CountsFit is_branch s (Give ds) = length ds ≡ s.results
CountsFit is_branch s (Visit i ds memo) = (n : ℕ) → slice_get s.entry_arguments i ≡ Some n → length ds ≡ n
CountsFit is_branch s (Goto i ds) = (counts : List ℕ) (n : ℕ) → is_branch ≡ false → s.target_arguments ≡ Some counts → slice_get counts i ≡ Some n → length ds ≡ n
CountsFit is_branch s (Leave ds) = Unit {0}
CountsFit is_branch s (Emit e memo) = Unit {0}
CountsFit is_branch s Trap = Unit {0}

-- what has successors is a terminator, and transitions keep the counts
pub record KeepsCounts (m : Meaning) : Type 0 where
  pub successors : (s : Shape) → Admitted m s → 0 < s.successors → IsTrue (m.is_terminator s.head)
  pub moves : (s : Shape) → Admitted m s → (first : List Datum) (later : Bool) (memo : Datum) (input : List Datum) → Comes m.act s first later memo input → CountsFit (m.is_branch s.head) s (m.act s memo input)

abbrev pub IsGive : Move → Type 0
IsGive (Give ds) = Unit {0}
IsGive (Visit i ds memo) = ⊥
IsGive (Goto i ds) = ⊥
IsGive (Leave ds) = ⊥
IsGive (Emit e memo) = ⊥
IsGive Trap = ⊥

-- an operation without side effects gives its results at once, whatever its operands are
abbrev pub GivesAtOnce : Meaning → (Head → Option Bool) → Type 0
GivesAtOnce m side_effects = (s : Shape) → Admitted m s → side_effects s.head ≡ Some false → (first : List Datum) → length first ≡ s.operands → IsGive (m.act s Empty first)

-- a place among the operands, where the operand at p was removed
abbrev pub moved_up : ℕ → ℕ → ℕ
moved_up p place = if nat_lt p place then place - 1 else place

-- the shape of a branch with this head, where one operand was removed
abbrev pub fewer_operands : Shape → Head → Shape
fewer_operands s head = record s { head = head; operands = s.operands - 1 }

-- the head differs at most in one attribute
abbrev pub IsHeadBut : Head → Head → Type 0
IsHeadBut h h' = (h' ≡ h) ⊎ ((a : ℕ) × (x : AttrObj) × (h' ≡ record h { attrs = slice_set h.attrs a x }))

-- a branch that has this head after the operand at place j of edge i was removed, which was its operand p
pub record LosesOperand (m : Meaning) (SameTests : Head → Head → Type 0) (s : Shape) (i j p : ℕ) (head : Head) : Type 0 where
  pub same_head : IsHeadBut s.head head
  pub same_tests : SameTests s.head head
  pub admitted : Admitted m (fewer_operands s head)
  pub same_edges : (k : ℕ) → m.forwarded (fewer_operands s head) k ≡ map (moved_up p) (if nat_eq k i then remove (m.forwarded s k) j else m.forwarded s k)
  pub alike : (first : List Datum) → length first ≡ s.operands → ActAlike m.act PassesSame (λ k ds l es. (l ≡ k) × DropsAt i j k ds es) s (fewer_operands s head) first (remove first p)

-- a branch only jumps, and passes along each edge the operands that it forwards there, each of them
-- on one edge alone; with one edge it jumps along that at once; it can lose a forwarded operand
pub record ForwardsOperands (m : Meaning) (can_fold : Head → Bool) (SameTests : Head → Head → Type 0) (shortened : Shape → ℕ → ℕ → Head) : Type 0 where
  pub alone : (s : Shape) → Admitted m s → IsTrue (m.is_branch s.head) → (s.results ≡ 0) × (s.entry_arguments ≡ []) × (can_fold s.head ≡ false)
  pub some_edge : (s : Shape) → Admitted m s → IsTrue (m.is_branch s.head) → 0 < s.successors
  pub places : (s : Shape) → Admitted m s → IsTrue (m.is_branch s.head) → (i p : ℕ) → In p (m.forwarded s i) → p < s.operands
  pub distinct : (s : Shape) → Admitted m s → IsTrue (m.is_branch s.head) → (i j k l p : ℕ) → slice_get (m.forwarded s i) k ≡ Some p → slice_get (m.forwarded s j) l ≡ Some p → (i ≡ j) × (k ≡ l)
  pub passes : (s : Shape) → Admitted m s → IsTrue (m.is_branch s.head) → (first : List Datum) → length first ≡ s.operands → (later : Bool) (memo : Datum) (input : List Datum) (i : ℕ) (ds : List Datum) → Comes m.act s first later memo input → m.act s memo input ≡ Goto i ds → map Some ds ≡ pick (m.forwarded s i) first
  pub one_way : (s : Shape) → Admitted m s → IsTrue (m.is_branch s.head) → s.successors ≡ 1 → (first : List Datum) → length first ≡ s.operands → (ds : List Datum) × (m.act s Empty first ≡ Goto 0 ds)
  pub removal : (s : Shape) → Admitted m s → IsTrue (m.is_branch s.head) → (i j p : ℕ) → i < s.successors → slice_get (m.forwarded s i) j ≡ Some p → LosesOperand m SameTests s i j p (shortened s i j)

-- where the argument of an entry block may be removed, the operation acts alike without it, but for the value
-- that its invocations of the region pass there
abbrev pub ActsWithoutArgument : Meaning → (Head → ℕ → Bool → Option Bool) → Type 0
ActsWithoutArgument m removable = (s : Shape) → Admitted m s → (i n j : ℕ) → removable s.head i true ≡ Some true → slice_get s.entry_arguments i ≡ Some (n + 1) → j ≤ n → (first : List Datum) → ActAlike m.act (DropsAt i j) JumpsSame s (record s { entry_arguments = slice_set s.entry_arguments i n }) first first

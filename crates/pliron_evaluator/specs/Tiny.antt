-- A small dialect: a constant, a question to the outside world, a scope whose region is visited once,
-- a branch that forwards its operands, and two kinds that visit regions with operands that they name.
pub use Rattle.pliron_dialect.specs.Roles.{first_attribute}
use Rattle.std.specs.Prelude.{◌≡◌, ℕ, zero, suc, nat_eq, nat_lt, slice_index_or, drop, if◌then◌else◌, Bool, true, false, not, ◌&&◌, List, [], ◌∷◌, Option, Some, None, pos}
use Rattle.std.specs.List.{range_with_len}
use Rattle.pliron_core.specs.declared.attrs.AttrObj.{AttrObj}
use Rattle.pliron_core.specs.declared.attrs.IRStatus.{IRStatus}
use Rattle.pliron_core.specs.declared.attrs.IRStatus.TheVariants.{Unchanged}
use Rattle.pliron_core.specs.Tree.{Tree}
use Rattle.pliron_laws.specs.declared.dialect.Interface.{Interface}
use Rattle.pliron_laws.specs.declared.dialect.Interface.TheVariants.{SideEffects, BlockArgRemoval, ConstFold, BranchFold, Branch, Terminator, RegionBranch}
use Rattle.pliron_evaluator.specs.declared.tiny.TinyKind.{TinyKind}
use Rattle.pliron_evaluator.specs.declared.tiny.TinyKind.TheVariants.{Const, Ask, Scope, Br, Both, Twice}
use Rattle.pliron_laws.specs.Entries.{EntryOperands}
use Rattle.pliron_laws.specs.Datum.{Datum, Empty, Number, Text, Join, datum_of, Head, Shape, Move, Give, Visit, Goto, Emit, Trap, Meaning}
use Rattle.pliron_dialect.specs.Roles.{first_datum}

-- the number of a kind, and the kind with a number
abbrev pub tiny_number_of : TinyKind → ℕ
tiny_number_of Const = 0
tiny_number_of Ask = 1
tiny_number_of Scope = 2
tiny_number_of Br = 3
tiny_number_of Both = 4
tiny_number_of Twice = 5

abbrev pub tiny_kind_of : ℕ → Option TinyKind
tiny_kind_of n = if nat_eq n 0 then Some Const else if nat_eq n 1 then Some Ask else if nat_eq n 2 then Some Scope else if nat_eq n 3 then Some Br else if nat_eq n 4 then Some Both else if nat_eq n 5 then Some Twice else None

abbrev pub first_count : List ℕ → ℕ
first_count [] = 0
first_count (n ∷ ns) = n

-- so many data, cut or filled
abbrev pub fitted_or_empty : ℕ → List Datum → List Datum
fitted_or_empty zero ds = []
fitted_or_empty (suc n) [] = Empty ∷ fitted_or_empty n []
fitted_or_empty (suc n) (d ∷ ds) = d ∷ fitted_or_empty n ds

-- the memo after the first move
abbrev pub memo_when_begun : Datum
memo_when_begun = Number (pos 1)

abbrev pub has_begun : Datum → Bool
has_begun Empty = false
has_begun d = true

-- a question is asked first, and its answer is given then
abbrev pub ask_move : Bool → List Datum → Move
ask_move false input = Emit (first_datum input) memo_when_begun
ask_move true input = Give (first_datum input ∷ [])

-- the region is visited first, and nothing is given then
abbrev pub scope_move : Bool → ℕ → List Datum → Move
scope_move false count input = Visit 0 (fitted_or_empty count input) memo_when_begun
scope_move true count input = Give []

-- the memo between two visits, which keeps a datum
abbrev pub kept_between : Datum → Datum
kept_between kept = Join kept Empty

-- the region is visited with this datum for the first argument of its entry, and `Empty` for the others
abbrev pub visit_with : List ℕ → (region : ℕ) → Datum → Datum → Move
visit_with counts region d memo = Visit region (fitted_or_empty (slice_index_or counts region 0) (d ∷ [])) memo

-- the first region is visited with operand 1, then the second one with none, and nothing is given then
abbrev pub both_move : Datum → List ℕ → List Datum → Move
both_move Empty counts input = visit_with counts 0 (first_datum (drop 1 input)) (kept_between Empty)
both_move (Join kept e) counts input = visit_with counts 1 Empty memo_when_begun
both_move (Number n) counts input = Give []
both_move (Text w) counts input = Give []

-- the region is visited with operand 0 and once more with the same, and nothing is given then
abbrev pub twice_move : Datum → List ℕ → List Datum → Move
twice_move Empty counts input = visit_with counts 0 (first_datum input) (kept_between (first_datum input))
twice_move (Join kept e) counts input = visit_with counts 0 kept memo_when_begun
twice_move (Number n) counts input = Give []
twice_move (Text w) counts input = Give []

-- what an operation of this kind does
abbrev pub tiny_act_of : Option TinyKind → Shape → Datum → List Datum → Move
tiny_act_of None s memo input = Trap
tiny_act_of (Some Const) s memo input = Give (datum_of (first_attribute s.head.attrs) ∷ [])
tiny_act_of (Some Ask) s memo input = ask_move (has_begun memo) input
tiny_act_of (Some Scope) s memo input = scope_move (has_begun memo) (first_count s.entry_arguments) input
tiny_act_of (Some Br) s memo input = Goto 0 input
tiny_act_of (Some Both) s memo input = both_move memo s.entry_arguments input
tiny_act_of (Some Twice) s memo input = twice_move memo s.entry_arguments input

-- how many operands, results, successors and regions it has
abbrev pub admits_of : Option TinyKind → (operands results successors regions : ℕ) → Bool
admits_of None a b c d = false
admits_of (Some Const) a b c d = nat_eq a 0 && nat_eq b 1 && nat_eq c 0 && nat_eq d 0
admits_of (Some Ask) a b c d = nat_eq a 1 && nat_eq b 1 && nat_eq c 0 && nat_eq d 0
admits_of (Some Scope) a b c d = nat_eq b 0 && nat_eq c 0 && nat_eq d 1
admits_of (Some Br) a b c d = nat_eq b 0 && nat_eq c 1 && nat_eq d 0
admits_of (Some Both) a b c d = nat_eq b 0 && nat_eq c 0 && nat_eq d 2
admits_of (Some Twice) a b c d = nat_lt 0 a && nat_eq b 0 && nat_eq c 0 && nat_eq d 1

abbrev pub is_br : Option TinyKind → Bool
is_br None = false
is_br (Some Const) = false
is_br (Some Ask) = false
is_br (Some Scope) = false
is_br (Some Br) = true
is_br (Some Both) = false
is_br (Some Twice) = false

abbrev pub is_const : Option TinyKind → Bool
is_const None = false
is_const (Some Const) = true
is_const (Some Ask) = false
is_const (Some Scope) = false
is_const (Some Br) = false
is_const (Some Both) = false
is_const (Some Twice) = false

-- the kinds that name operands for their regions
abbrev pub is_naming_kind : Option TinyKind → Bool
is_naming_kind None = false
is_naming_kind (Some Const) = false
is_naming_kind (Some Ask) = false
is_naming_kind (Some Scope) = false
is_naming_kind (Some Br) = false
is_naming_kind (Some Both) = true
is_naming_kind (Some Twice) = true

-- a branch forwards all its operands along its one edge
abbrev pub forwarded_along : ℕ → ℕ → List ℕ
forwarded_along zero operands = range_with_len 0 operands
forwarded_along (suc i) operands = []

unfoldable pub tiny : Meaning
tiny = record {
  act = λ s memo input. tiny_act_of (tiny_kind_of s.head.kind) s memo input;
  admits = λ h a b c d. admits_of (tiny_kind_of h.kind) a b c d;
  may_be_root = λ h. not (is_naming_kind (tiny_kind_of h.kind));
  is_terminator = λ h. is_br (tiny_kind_of h.kind);
  is_branch = λ h. is_br (tiny_kind_of h.kind);
  forwarded = λ s i. forwarded_along i s.operands;
}

-- the answers on side effects, and on the removal of arguments: those of blocks that are entered by
-- branches alone
abbrev pub tiny_effects_of : Option TinyKind → Option Bool
tiny_effects_of None = None
tiny_effects_of (Some Const) = Some false
tiny_effects_of (Some Ask) = Some true
tiny_effects_of (Some Scope) = Some true
tiny_effects_of (Some Br) = None
tiny_effects_of (Some Both) = Some true
tiny_effects_of (Some Twice) = Some true

unfoldable pub tiny_side_effects : Head → Option Bool
tiny_side_effects h = tiny_effects_of (tiny_kind_of h.kind)

abbrev pub tiny_removable_of : Option TinyKind → Bool → Option Bool
tiny_removable_of None entry = None
tiny_removable_of (Some Const) entry = None
tiny_removable_of (Some Ask) entry = None
tiny_removable_of (Some Scope) entry = Some (not entry)
tiny_removable_of (Some Br) entry = None
tiny_removable_of (Some Both) entry = Some (not entry)
tiny_removable_of (Some Twice) entry = Some (not entry)

unfoldable pub tiny_removable : Head → ℕ → Bool → Option Bool
tiny_removable h i entry = tiny_removable_of (tiny_kind_of h.kind) entry

-- the operand that every visit passes for the first argument of the first region's entry; no other argument
-- has one
abbrev pub first_entry_operand : Option TinyKind → (operands : ℕ) → Option ℕ
first_entry_operand None n = None
first_entry_operand (Some Const) n = None
first_entry_operand (Some Ask) n = None
first_entry_operand (Some Scope) n = None
first_entry_operand (Some Br) n = None
first_entry_operand (Some Both) n = if nat_lt 1 n then Some 1 else None
first_entry_operand (Some Twice) n = Some 0

unfoldable pub tiny_entry_operands : EntryOperands
tiny_entry_operands s region argument = if nat_eq region 0 && nat_eq argument 0 then first_entry_operand (tiny_kind_of s.head.kind) s.operands else None

-- a constant folds to its attribute
unfoldable pub tiny_folds : Head → Bool
tiny_folds h = is_const (tiny_kind_of h.kind)

unfoldable pub tiny_constants : Shape → List (Option AttrObj) → List (Option AttrObj)
tiny_constants s known = Some (first_attribute s.head.attrs) ∷ []

-- no branch folds, so its blocks are never asked for
unfoldable pub tiny_folds_branch : Head → Bool
tiny_folds_branch h = false

unfoldable pub tiny_feasible : Shape → List ℕ → List (Option AttrObj) → List ℕ
tiny_feasible s targets known = []

-- folding in place leaves all as it is
unfoldable pub tiny_outcome : Tree → Tree → ℕ → List (Option AttrObj) → Option IRStatus → Type 0
tiny_outcome t t' op known answer = (t' ≡ t) × (answer ≡ Some Unchanged)

-- every attribute can be made by a constant
unfoldable pub tiny_accepts : AttrObj → Bool
tiny_accepts attr = true

unfoldable pub tiny_constant : AttrObj → Head
tiny_constant attr = record { kind = 0; ssa = true; attrs = attr ∷ [] }

unfoldable pub has_tiny_kind : Head → TinyKind → Bool
has_tiny_kind h kind = nat_eq h.kind (tiny_number_of kind)

abbrev pub answers_effects : Option Bool → Bool
answers_effects None = false
answers_effects (Some b) = true

abbrev pub tiny_interface_of : Interface → Option TinyKind → Bool
tiny_interface_of SideEffects k = answers_effects (tiny_effects_of k)
tiny_interface_of BlockArgRemoval k = answers_effects (tiny_removable_of k true)
tiny_interface_of ConstFold k = is_const k
tiny_interface_of BranchFold k = false
tiny_interface_of Branch k = is_br k
tiny_interface_of Terminator k = is_br k
tiny_interface_of RegionBranch k = is_naming_kind k

unfoldable pub has_tiny_interface : Head → Interface → Bool
has_tiny_interface h interface = tiny_interface_of interface (tiny_kind_of h.kind)

-- a branch that lost an operand has its head as before
unfoldable pub tiny_shortened : Shape → ℕ → ℕ → Head
tiny_shortened s i j = s.head

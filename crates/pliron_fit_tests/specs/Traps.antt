-- A dialect of which little is known: each operation traps, ends its block, and may have whatever counts. Runs
-- may not begin at kind 9.
use Rattle.std.specs.Prelude.{◌≡◌, ℕ, nat_eq, Bool, true, false, not, List, [], Option, Some, None, IsSome, IsTrue, refl}
use Rattle.pliron_core.specs.declared.attrs.AttrObj.{AttrObj}
use Rattle.pliron_core.specs.declared.attrs.IRStatus.{IRStatus}
use Rattle.pliron_core.specs.Tree.{Tree, IsLive, head_of}
use Rattle.pliron_laws.specs.declared.dialect.Interface.{Interface}
use Rattle.pliron_laws.specs.declared.dialect.Interface.TheVariants.{RegionBranch}
use Rattle.pliron_laws.specs.Datum.{Head, Shape, Trap, Meaning}
use Rattle.pliron_laws.specs.Entries.{NamesOperands, RootsNameNone, names_none, none_are_named}
use Rattle.pliron_laws.specs.Answers.{HeadPasses}
use Rattle.pliron_laws.specs.Laws.{KeepsCounts, GivesAtOnce, ForwardsOperands, ActsWithoutArgument}
use Rattle.pliron_laws.specs.Folding.{AnswersTrue, AnswersJumps, MakesConstants}
use Rattle.pliron_laws.specs.InPlace.{FoldsInPlace, PassSameTests}

abbrev pub never : Head → Bool
never h = false

-- the same, of folding
unfoldable pub no_fold : Head → Bool
no_fold h = false

abbrev pub always : Head → Bool
always h = true

abbrev pub no_kind : Head → ℕ → Bool
no_kind h kind = nat_eq h.kind kind

-- kind 9 implements the interface for operands that visits pass, and names none
abbrev pub nine_interface : Head → Interface → Bool
nine_interface h RegionBranch = nat_eq h.kind 9
nine_interface h _ = false

abbrev pub no_side_effects : Head → Option Bool
no_side_effects h = None

abbrev pub no_removal : Head → ℕ → Bool → Option Bool
no_removal h i entry = None

abbrev pub no_constants : Shape → List (Option AttrObj) → List (Option AttrObj)
no_constants s known = []

abbrev pub no_blocks : Shape → List ℕ → List (Option AttrObj) → List ℕ
no_blocks s targets known = []

abbrev pub no_attribute : AttrObj → Bool
no_attribute attr = false

abbrev pub no_constant_head : AttrObj → Head
no_constant_head attr = record { kind = 0; ssa = true; attrs = [] }

abbrev pub no_outcome : Tree → Tree → ℕ → List (Option AttrObj) → Option IRStatus → Type 0
no_outcome t t' op known answer = ⊥

abbrev pub same_head : Shape → ℕ → ℕ → Head
same_head s i j = s.head

unfoldable pub traps : Meaning
traps = record {
  act = λ s memo input. Trap;
  admits = λ h a b c d. true;
  may_be_root = λ h. not (nat_eq h.kind 9);
  is_terminator = always;
  is_branch = never;
  forwarded = λ s i. [];
}

no : IsTrue false → ⊥
no h = cc

pub traps_counts : KeepsCounts traps
unfolding traps
traps_counts = record { successors = λ s h lt. refl; moves = λ s h first later memo input comes. tt }

unsaid : {a : Bool} → None ≡ Some a → ⊥
unsaid e = cc

pub traps_effects : GivesAtOnce traps no_side_effects
traps_effects = λ s h e. absurd (unsaid e)

pub traps_forwards : ForwardsOperands traps no_fold (PassSameTests traps no_fold no_fold no_kind nine_interface) same_head
unfolding traps
traps_forwards = record {
  alone = λ s h br. absurd (no br);
  some_edge = λ s h br. absurd (no br);
  places = λ s h br. absurd (no br);
  distinct = λ s h br. absurd (no br);
  passes = λ s h br. absurd (no br);
  one_way = λ s h br. absurd (no br);
  removal = λ s h br. absurd (no br);
}

pub traps_arguments : ActsWithoutArgument traps no_removal
traps_arguments = λ s h i n j e. absurd (unsaid e)

pub traps_answers : AnswersTrue traps no_fold no_constants
unfolding no_fold
traps_answers = record { counts = λ s h f. absurd (no f); gives = λ s h f. absurd (no f) }

pub traps_jumps : AnswersJumps traps no_fold no_blocks
unfolding no_fold
traps_jumps = record { branches = λ s h f. absurd (no f); successors = λ s targets h f. absurd (no f); goes = λ s targets h f. absurd (no f) }

pub traps_in_place : FoldsInPlace traps no_constants no_attribute no_constant_head no_outcome no_outcome
traps_in_place = record {
  constant = λ t t' op known answer o at h. absurd h;
  branch = λ t t' op known answer h. absurd h;
}

pub traps_makes : MakesConstants traps no_attribute no_constant_head
traps_makes = λ attr h. absurd (no h)

pub traps_names : NamesOperands traps names_none (λ h. nine_interface h RegionBranch)
traps_names = none_are_named traps (λ h. nine_interface h RegionBranch)

pub traps_roots : RootsNameNone traps (λ h. nine_interface h RegionBranch)
unfolding traps
traps_roots = λ h. refl

-- what is live is no branch, and does not fold
pub no_branch : (t : Tree) (op : ℕ) → IsLive t op → HeadPasses never t op → ⊥
no_branch t op live passes = by (head_of t op) live passes
  where
    by : (o : Option Head) → IsSome o → ((h : Head) → o ≡ Some h → IsTrue false) → ⊥
    by None l p = no l
    by (Some h) l p = no (p h refl)

pub nothing_folds : (t : Tree) (op : ℕ) → IsLive t op → HeadPasses no_fold t op → ⊥
unfolding no_fold
nothing_folds t op live passes = no_branch t op live passes

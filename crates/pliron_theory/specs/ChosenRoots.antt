-- The laws on runs of a dialect, for any choice of the heads that may be those of roots.
use Rattle.std.specs.Prelude.{ℕ, Bool, Option}
use Rattle.pliron_laws.specs.Datum.{Head, Shape, Meaning}
use Rattle.pliron_laws.specs.Folding.{Constants, Feasible}
use Rattle.pliron_laws.specs.Entries.{names_none}
use Rattle.pliron_laws.specs.InPlace.{Outcome}
use Rattle.pliron_theory.specs.Keeps.{with_roots}
use Rattle.pliron_theory.specs.Knowing.{FactsLaw}
use Rattle.pliron_theory.specs.Sound.{SoundFactsLaw}
use Rattle.pliron_theory.specs.Answered.{AnsweredLaw}
use Rattle.pliron_theory.specs.RunLaws.{OneEdgeLaw, RemovingLaw}
use Rattle.pliron_theory.specs.Folded.{BranchFoldsLaw, ConstantFoldsLaw}

-- what the laws of a dialect with this meaning and these tables give about runs
pub record LawsOnRuns (m : Meaning) (can_fold can_fold_branch : Head → Bool) (constants : Constants) (feasible : Feasible) (shortened : Shape → ℕ → ℕ → Head) (removable : Head → ℕ → Bool → Option Bool) (fold branch_fold : Outcome) : Type 0 where
  pub facts : FactsLaw m can_fold constants
  -- of lattice values that take nothing from the operands that operations name for entries: a root may name
  -- operands itself
  pub sound : SoundFactsLaw (record { meaning = m; can_fold = can_fold; can_fold_branch = can_fold_branch; constants = constants; feasible = feasible; entry_operands = names_none })
  pub answered : AnsweredLaw m can_fold constants
  pub one_edge : OneEdgeLaw m
  pub removing : RemovingLaw m shortened removable
  pub constant_folds : ConstantFoldsLaw m can_fold fold
  pub branch_folds : BranchFoldsLaw m can_fold_branch branch_fold

-- they hold whatever heads may be those of roots
abbrev pub ChosenRootsLaw : Meaning → (can_fold can_fold_branch : Head → Bool) → Constants → Feasible → (Shape → ℕ → ℕ → Head) → (Head → ℕ → Bool → Option Bool) → (fold branch_fold : Outcome) → Type 0
ChosenRootsLaw m can_fold can_fold_branch constants feasible shortened removable fold branch_fold = (chosen : Head → Bool) → LawsOnRuns (with_roots m chosen) can_fold can_fold_branch constants feasible shortened removable fold branch_fold

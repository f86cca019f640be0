-- The laws on refinement.
use Rattle.std.specs.Prelude.{◌≡◌, ℕ, Bool, List}
use Rattle.pliron_core.specs.Tree.{Tree, IsLive}
use Rattle.pliron_core.specs.Invariant.{IsTree}
use Rattle.pliron_laws.specs.Datum.{Datum, Meaning}
use Rattle.pliron_laws.specs.Machine.{step, start}
use Rattle.pliron_laws.specs.Agree.{Agree}
use Rattle.pliron_theory.specs.Keeps.{IsFit}
use Rattle.pliron_theory.specs.Sweeping.{IsSwept, AreNotLive}
use Rattle.pliron_theory.specs.Renaming.{IsRenamed}
use Rattle.pliron_theory_refinement.specs.Refinement.{Relation, IsPreorder, AllMayBecome, RefinesFrom, Refines, ActsMonotonely, HaveLessData, DeadRemovable}

pub record RefinementLaws : Type 0 where
  -- what does the same refines
  pub agreed : (R E : Relation) (m : Meaning) (t u : Tree) (root : ℕ) → IsPreorder R → IsPreorder E → Agree m t u root → Refines R E m t u root
  pub transitive : (R E : Relation) (m : Meaning) (t u v : Tree) (root : ℕ) → IsPreorder R → IsPreorder E → Refines R E m t u root → Refines R E m u v root → Refines R E m t v root
  -- less poison in, less poison out
  pub monotone : (R E : Relation) (m : Meaning) (t : Tree) (root : ℕ) (inputs inputs' world world' : List Datum) → IsPreorder R → ActsMonotonely R E m → AllMayBecome R inputs inputs' → AllMayBecome R world world' → RefinesFrom R E (step m t) (step m t) (start root inputs world) (start root inputs' world')
  -- operands may be renamed to values whose data the old ones may become
  pub renamed : (R E : Relation) (m : Meaning) (t u : Tree) (rename : ℕ → ℕ) (root : ℕ) → IsPreorder R → ActsMonotonely R E m → IsRenamed t u rename → HaveLessData R m t rename root → Refines R E m t u root

-- dead operations that give at once or are undefined behaviour, and blocks that no run comes to, may be erased
abbrev pub SweepingRefines : Type 0
SweepingRefines = (R E : Relation) (m : Meaning) (t u : Tree) (dead dead_block : ℕ → Bool) (root : ℕ) → IsPreorder R → IsPreorder E → IsTree t → IsTree u → IsSwept t u dead dead_block → AreNotLive u dead dead_block → IsFit m t root → IsLive u root → DeadRemovable m t dead dead_block root → Refines R E m t u root

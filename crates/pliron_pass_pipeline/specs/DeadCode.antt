-- What the pass of dead code elimination makes of a tree.
use Rattle.std.specs.Prelude.{◌≡◌, ◌↔◌, ℕ, Bool, true, List, [], ◌∷◌, Option, Result, Ok, Err}
use Rattle.pliron_core.specs.Tree.{Tree}
use Rattle.pliron_laws.specs.Datum.{Head, Shape, Meaning}
use Rattle.pliron_laws.specs.declared.fault.OptError.{OptError}
use Rattle.pliron_laws.specs.declared.fault.OptError.TheVariants.{Memory}
use Rattle.pliron_opt_dce.specs.Dead.{Item}
use Rattle.pliron_opt_dce.specs.Erasing.{EraseInTurn, AreDeadItems, LeavesNoDead, ReportsDead, SomeHasRegions}
use Rattle.pliron_pass_pipeline.specs.declared.optimisation.Effect.{Effect}

-- dead operations and arguments of the first tree were erased in turn
abbrev pub DeadItemsAreErased : Meaning → (Shape → ℕ → ℕ → Head) → (Head → Option Bool) → (Head → ℕ → Bool → Option Bool) → (t t' : Tree) → ℕ → List Item → Type 0
DeadItemsAreErased m shortened side_effects removable t t' root deleted = EraseInTurn m shortened deleted t t' × AreDeadItems m side_effects removable t root deleted

-- all that was dead is erased and nothing is dead, the status reports whether something was, and all edges stay
-- exactly where no operation with regions was erased; or an allocation failed, and some of what is dead is
-- erased
abbrev pub EliminatesDead : Meaning → (Shape → ℕ → ℕ → Head) → (Head → Option Bool) → (Head → ℕ → Bool → Option Bool) → (t t' : Tree) → ℕ → Result Effect OptError → Type 0
EliminatesDead m shortened side_effects removable t t' root (Ok effect) = ((deleted : List Item) × DeadItemsAreErased m shortened side_effects removable t t' root deleted × ((effect.keeps_edges ≡ true) ↔ (SomeHasRegions t deleted → ⊥))) × LeavesNoDead m side_effects removable t t' root × ReportsDead m side_effects removable t root effect.status
EliminatesDead m shortened side_effects removable t t' root (Err e) = (e ≡ Memory) × ((deleted : List Item) × DeadItemsAreErased m shortened side_effects removable t t' root deleted)

abbrev pub dce_name : List ℕ
dce_name = 0x64 ∷ 0x63 ∷ 0x65 ∷ []

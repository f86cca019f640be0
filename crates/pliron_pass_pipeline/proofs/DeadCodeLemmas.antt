-- What the pass of dead code elimination does, from what the call does.
use Rattle.std.proofs.Common.{◌≡◌, ◌↔◌, ℕ, List, Bool, true, false, Option, Ok, not, IsTrue, refl}
use Rattle.std.proofs.lemmas.Bool.{false≢true}
use Rattle.pliron_core.specs.Tree.{Tree}
use Rattle.pliron_core.specs.declared.attrs.IRStatus.{IRStatus}
use Rattle.pliron_laws.specs.Datum.{Head, Shape, Meaning}
use Rattle.pliron_opt_dce.specs.Dead.{Item}
use Rattle.pliron_opt_dce.specs.Erasing.{EraseInTurn, AreDeadItems, LeavesNoDead, ReportsDead, SomeHasRegions}
use Rattle.pliron_pass_pipeline.specs.DeadCode.{EliminatesDead}

edges_told : (P : Type 0) (took : Bool) → IsTrue took ↔ P → (not took ≡ true) ↔ (P → ⊥)
edges_told P true reported = (λ e. absurd (false≢true e), λ none. absurd (none (reported.0 refl)))
edges_told P false reported = (λ e p. absurd (false≢true (reported.1 p)), λ none. refl)

pub eliminated : (m : Meaning) (shortened : Shape → ℕ → ℕ → Head) (side_effects : Head → Option Bool) (removable : Head → ℕ → Bool → Option Bool) (t t' : Tree) (root : ℕ) (status : IRStatus) (took : Bool) → ((deleted : List Item) × EraseInTurn m shortened deleted t t' × AreDeadItems m side_effects removable t root deleted × (IsTrue took ↔ SomeHasRegions t deleted)) → LeavesNoDead m side_effects removable t t' root → ReportsDead m side_effects removable t root status → EliminatesDead m shortened side_effects removable t t' root (Ok (record { status = status; keeps_edges = not took }))
eliminated m shortened side_effects removable t t' root status took (deleted, went, dead, reported) none accurate =
    ((deleted, (went, dead), edges_told (SomeHasRegions t deleted) took reported), none, accurate)

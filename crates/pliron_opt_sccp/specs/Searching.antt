-- The steps of the search, and its invariant between them.
use Rattle.std.specs.Prelude.{◌≡◌, ◌⊎◌, ◌<◌, ◌≤◌, ◌+◌, ◌^◌, ℕ, Bool, true, false, List, [], length}
use Rattle.pliron_core.specs.Tree.{Tree, In, body_of}
use Rattle.pliron_theory.specs.LatticeValues.{Says, AreHeld}
use Rattle.pliron_opt_sccp.specs.declared.lattice_tables.Tables.{Tables}
use Rattle.pliron_opt_sccp.specs.declared.deferred.DeferredOperations.{DeferredOperations}
use Rattle.pliron_opt_sccp.specs.LatticeTables.{is_numbered, known_constants, is_block_on_worklist, lattice_values_of, StampsEachLowered, PopsBlock}
use Rattle.pliron_opt_sccp.specs.declared.constraints.Constraint.{Constraint}
use Rattle.pliron_opt_sccp.specs.Lowering.{IsApplied}
use Rattle.pliron_opt_sccp.specs.Chain.{blocks_inside}
use Rattle.pliron_opt_sccp.specs.Deferring.{deferred_operations, IsDeferred, Defers, PopsDeferred}
use Rattle.pliron_opt_sccp.specs.declared.feasible_edges.FeasibleEdges.{FeasibleEdges}
use Rattle.pliron_opt_sccp.specs.Feasible.{AreSurelyFeasible, KeepsFeasible}
use Rattle.pliron_opt_sccp.specs.OperationVisits.{CallsForVisit, VisitsInTurnAndKeeps, VisitsOperation, VisitsInTurn, PopsUsers}
use Rattle.pliron_opt_sccp.specs.Settling.{AreSettledBut, AreStarted}
use Rattle.pliron_opt_sccp.specs.Precise.{AreOwed}
use Rattle.pliron_opt_sccp.specs.Best.{IsBest}
use Rattle.pliron_opt_sccp.specs.WorklistCounts.{IsAccounted, AreWorklistsInside, AreKnownThere}

-- the operation was visited, or deferred
abbrev pub IsVisitedOrDeferred : Says → Tree → ℕ → (s s' : Tables) → (d d' : DeferredOperations) → Type 0
IsVisitedOrDeferred x t k s s' d d' = (VisitsOperation x t k s s' × (d' ≡ d)) ⊎ (Defers k (deferred_operations d) (deferred_operations d') × (s' ≡ s))

-- each of these operations was visited, one after the other, or deferred
pub record VisitsOrDefersAll (x : Says) (t : Tree) (ks : List ℕ) (s s' : Tables) (d d' : DeferredOperations) : Type 0 where
  pub short : List ℕ
  pub visits : VisitsInTurn x t short s s'
  pub among : (k : ℕ) → In k short → In k ks
  pub seen : (k : ℕ) → In k ks → In k short ⊎ In k (deferred_operations d')
  pub kept : (k : ℕ) → In k (deferred_operations d) → In k (deferred_operations d')
  pub only : (k : ℕ) → In k (deferred_operations d') → In k (deferred_operations d) ⊎ In k ks
  pub grows : length (deferred_operations d') ≤ length (deferred_operations d) + length ks
  pub few : length ks < 2 ^ 64

-- all values on the worklist were popped, so many; the constraints that are propagated eagerly are satisfied,
-- and the other users were visited or deferred
pub record VisitsValues (x : Says) (t : Tree) (edges : FeasibleEdges) (s s' : Tables) (d d' : DeferredOperations) (taken : ℕ) : Type 0 where
  pub users : List ℕ
  pub constraints : List Constraint
  pub between : Tables
  pub met : Tables
  pub takes : PopsUsers x t edges users constraints s between taken
  pub applied : IsApplied (known_constants between) constraints between met
  pub stamped : StampsEachLowered between met
  pub sees : VisitsOrDefersAll x t users met s' d d'

-- a block was popped and visited, or else all values were popped, and their uses were scheduled; so many were
-- popped
pub data TakesTurn (x : Says) (t : Tree) (s s' : Tables) (d d' : DeferredOperations) (edges edges' : FeasibleEdges) (taken : ℕ) : Type 0 where
  Block : (b : ℕ) (u : Tables) → PopsBlock b s u → VisitsInTurnAndKeeps x t (body_of t b) u s' edges edges' → d' ≡ d → taken ≡ 1 → TakesTurn x t s s' d d' edges edges' taken
  Values : ((b : ℕ) → is_block_on_worklist s b ≡ false) → VisitsValues x t edges s s' d d' taken → edges' ≡ edges → TakesTurn x t s s' d d' edges edges' taken

-- one operation that was deferred was visited; or nothing was deferred, and nothing was done
abbrev pub VisitsDeferred : Says → Tree → (s s' : Tables) → (d d' : DeferredOperations) → (edges edges' : FeasibleEdges) → Bool → Type 0
VisitsDeferred x t s s' d d' edges edges' true = (k : ℕ) × PopsDeferred k (deferred_operations d) (deferred_operations d') × VisitsOperation x t k s s' × KeepsFeasible x t (lattice_values_of s) k edges edges'
VisitsDeferred x t s s' d d' edges edges' false = (deferred_operations d ≡ []) × (s' ≡ s)

-- each operation in an executable block is settled, or what settles it is on a worklist, or it is deferred; the
-- rest of what closed lattice values owe; and what is on the worklists is inside the root, whose blocks have
-- numbers
pub record IsSearchOnTheWay (x : Says) (t : Tree) (root : ℕ) (s : Tables) (d : DeferredOperations) : Type 0 where
  pub settled : AreSettledBut x t (lattice_values_of s) (λ b. is_block_on_worklist s b ≡ true) (λ k v. CallsForVisit t s k v) (λ k. In k (deferred_operations d))
  pub deferral : (k : ℕ) → In k (deferred_operations d) → IsDeferred x t s k
  pub started : AreStarted t root (lattice_values_of s)
  pub held : AreHeld t root (lattice_values_of s)
  pub there : AreKnownThere t root s
  pub waits : AreWorklistsInside t root s
  pub numbered : (b : ℕ) → In b (blocks_inside t root) → is_numbered s b ≡ true

-- this, and the count so far; where the most precise lattice values are owed, those so far are above every
-- closed set of lattice values, under which each edge that is kept is feasible
pub record IsSearching (x : Says) (t : Tree) (root : ℕ) (s : Tables) (d : DeferredOperations) (edges : FeasibleEdges) (pops : ℕ) : Type 0 where
  pub way : IsSearchOnTheWay x t root s d
  pub accounted : IsAccounted t root s pops
  pub best : AreOwed x t root → IsBest x t root s
  pub sure : AreOwed x t root → AreSurelyFeasible x t root edges

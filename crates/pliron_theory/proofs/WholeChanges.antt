-- Passes that keep the runs of all roots, one after the other and on an operation inside another.
use Rattle.std.proofs.Common.{◌≡◌, ℕ, ◌≤◌, length, Some}
use Rattle.pliron_core.specs.Tree.{Tree, IsLive, parent_operation_of}
use Rattle.pliron_core.specs.Invariant.{IsTree}
use Rattle.pliron_core.specs.Changes.{IsSameTree}
use Rattle.pliron_laws.specs.Datum.{Meaning}
use Rattle.pliron_laws.specs.Linked.{IsWellLinked}
use Rattle.pliron_theory.specs.Keeps.{KeepsAllRuns, with_roots}
use Rattle.pliron_theory.specs.Change.{IsWholeChange}
use Rattle.pliron_theory.proofs.Keeping.{keeps_refl, keeps_trans}
use Rattle.pliron_theory.proofs.SweptKeeps.{same_keeps}
use Rattle.pliron_theory.proofs.ChangeLemmas.{change_refl, change_trans, same_passes, change_widen, whole_passes}

pub all_refl : (m : Meaning) (t : Tree) → KeepsAllRuns m t t
all_refl m t = λ chosen. keeps_refl (with_roots m chosen) t

pub all_trans : (m : Meaning) (t u v : Tree) → KeepsAllRuns m t u → KeepsAllRuns m u v → KeepsAllRuns m t v
all_trans m t u v a b = λ chosen. keeps_trans (with_roots m chosen) t u v (a chosen) (b chosen)

pub whole_refl : (m : Meaning) (t : Tree) (op : ℕ) → IsLive t op → IsWellLinked m t op → IsWholeChange m t t op
whole_refl m t op live linked =
    let c = change_refl m t op live linked in
    record { liveness = c.liveness; linked = c.linked; inside = c.inside; runs = all_refl m t }

pub whole_trans : (m : Meaning) (t u v : Tree) (op : ℕ) → IsWholeChange m t u op → IsWholeChange m u v op → IsWholeChange m t v op
whole_trans m t u v op a b =
    let c = change_trans m t u v op (whole_passes m t u op a) (whole_passes m u v op b) in
    record { liveness = c.liveness; linked = c.linked; inside = c.inside; runs = all_trans m t u v a.runs b.runs }

pub same_whole : (m : Meaning) (t u : Tree) (op : ℕ) → IsTree t → IsTree u → IsSameTree t u → length t.operations ≤ length u.operations → IsLive t op → IsWellLinked m t op → IsWholeChange m t u op
same_whole m t u op wt wu s longer live linked =
    let c = same_passes m t u op wt wu s longer live linked in
    record { liveness = c.liveness; linked = c.linked; inside = c.inside; runs = λ chosen. same_keeps (with_roots m chosen) t u wt wu s longer }

pub whole_widen : (m : Meaning) (t u : Tree) (op b : ℕ) → IsTree t → IsTree u → parent_operation_of t b ≡ Some op → IsWellLinked m t op → IsWholeChange m t u b → IsWholeChange m t u op
whole_widen m t u op b wt wu up linked whole =
    let c = change_widen m t u op b wt wu up linked (whole_passes m t u b whole) in
    record { liveness = c.liveness; linked = c.linked; inside = c.inside; runs = whole.runs }

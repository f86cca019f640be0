-- What the pass that leads edges past blocks that only jump makes of a tree.
use Rattle.std.specs.Prelude.{◌≡◌, ◌↔◌, ℕ, Bool, false, List, [], ◌∷◌, Result, Ok, Err}
use Rattle.pliron_core.specs.Tree.{Tree}
use Rattle.pliron_core.specs.declared.attrs.IRStatus.TheVariants.{Unchanged}
use Rattle.pliron_laws.specs.Datum.{Head}
use Rattle.pliron_laws.specs.declared.fault.OptError.{OptError}
use Rattle.pliron_laws.specs.declared.fault.OptError.TheVariants.{Memory}
use Rattle.pliron_opt_edges.specs.Moved.{MovesEdges, MovesSome, LeavesNoChain}
use Rattle.pliron_pass_pipeline.specs.declared.optimisation.Effect.{Effect}

-- edges of branches were led to the ends of their chains and none leads to such a chain any more; the status reports
-- whether one was, and nothing is said of edges; or allocation failed, and those of some branches were
abbrev pub ThreadsEdges : (Head → Bool) → (t t' : Tree) → ℕ → Result Effect OptError → Type 0
ThreadsEdges is_branch t t' root (Ok effect) = MovesEdges is_branch root t t' × LeavesNoChain is_branch t' root × ((effect.status ≡ Unchanged) ↔ (t' ≡ t)) × (effect.keeps_edges ≡ false)
ThreadsEdges is_branch t t' root (Err e) = (e ≡ Memory) × MovesSome is_branch root t t'

abbrev pub thread_edges_name : List ℕ
thread_edges_name = 0x74 ∷ 0x68 ∷ 0x72 ∷ 0x65 ∷ 0x61 ∷ 0x64 ∷ 0x2d ∷ 0x65 ∷ 0x64 ∷ 0x67 ∷ 0x65 ∷ 0x73 ∷ []

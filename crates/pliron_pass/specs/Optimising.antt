-- What a pass made of an optimisation says of the edges, and the cached kinds that it preserves.
use Rattle.std.specs.Prelude.{ℕ, Bool, List, [], Option, Some, None, if◌then◌else◌}
use Rattle.std.specs.List.{fold}
use Rattle.indexmap.specs.IndexSet.{insert_key}
use Rattle.pliron_core.specs.Tree.{Tree}
use Rattle.pliron_core.specs.Changes.{IsSameTree}
use Rattle.pliron_core.specs.declared.attrs.IRStatus.{IRStatus}
use Rattle.pliron_core.specs.declared.attrs.IRStatus.TheVariants.{Changed, Unchanged}
use Rattle.pliron_theory.specs.Edges.{KeepsEdges}

-- where the answer is `Unchanged` the tree is the same but for erased handles, and else its edges are
abbrev pub Reports : Tree → Tree → IRStatus → Type 0
Reports t u Unchanged = IsSameTree t u
Reports t u Changed = KeepsEdges t u

-- the kinds with one more, if it reads edges alone
abbrev pub with_kind_if : {K : Type 0} → (K → K → Bool) → (K → Bool) → List K → K → List K
with_kind_if eq edges ks k = if edges k then insert_key eq ks k else ks

abbrev pub with_edge_kind : {K : Type 0} → (K → K → Bool) → (K → Bool) → List K → Option K → List K
with_edge_kind eq edges ks None = ks
with_edge_kind eq edges ks (Some k) = with_kind_if eq edges ks k

-- the cached kinds that read edges alone, each once, in the order in which they first occur
abbrev pub edge_kinds : {K E : Type 0} → (K → K → Bool) → (K → Bool) → List ((K × ℕ) × E) → List K
edge_kinds eq edges es = fold (λ ks p. with_kind_if eq edges ks p.0.0) [] es

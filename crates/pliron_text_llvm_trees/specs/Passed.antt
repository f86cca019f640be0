-- The values that edges pass.
use Rattle.std.specs.Prelude.{◌≡◌, ℕ, List, [], ◌∷◌, map, slice_get, slice_index_or, Some, ⊤}
use Rattle.std.specs.List.{All}
use Rattle.pliron_text_llvm_edges.specs.declared.edges.BlockEdge.{BlockEdge}
use Rattle.pliron_text_llvm_edges.specs.declared.entries.PhiEntry.{PhiEntry}
use Rattle.pliron_text_llvm_edges.specs.declared.phis.BlockPhi.{BlockPhi}
use Rattle.pliron_text_llvm_trees.specs.declared.passed.TreeEdge.{TreeEdge}

-- one of the entries, which is for this block
abbrev pub IsEntryFor : List PhiEntry → ℕ → PhiEntry → Type 0
IsEntryFor entries block entry = ((number : ℕ) × (slice_get entries number ≡ Some entry)) × (entry.block ≡ block)

-- the hole has the value of a phi for the block from which the edge comes
abbrev pub IsPassedTo : BlockEdge → BlockPhi → ℕ → Type 0
IsPassedTo edge phi hole = (entry : PhiEntry) × IsEntryFor phi.entries.items edge.from entry × (entry.value ≡ hole)

abbrev pub IsPassedToNumber : List BlockPhi → BlockEdge → ℕ → ℕ → Type 0
IsPassedToNumber phis edge number hole = (phi : BlockPhi) × (slice_get phis number ≡ Some phi) × IsPassedTo edge phi hole

-- the edge passes the values in these holes to the phis of these numbers, one to each
abbrev pub ArePassed : List BlockPhi → BlockEdge → List ℕ → List ℕ → Type 0
ArePassed phis edge [] [] = ⊤
ArePassed phis edge (number ∷ numbers) (hole ∷ holes) =
    IsPassedToNumber phis edge number hole × ArePassed phis edge numbers holes
ArePassed phis edge _ _ = ⊥

-- an edge passes a value to each phi of the block to which it leads; each block has the phis of these numbers
abbrev pub IsTreeEdge : List BlockPhi → List (List ℕ) → TreeEdge → Type 0
IsTreeEdge phis lists edge = ArePassed phis edge.edge (slice_index_or lists edge.edge.to []) edge.passed.items

-- these edges, in their order, with the values that they pass
abbrev pub AreTreeEdges : List BlockPhi → List (List ℕ) → List BlockEdge → List TreeEdge → Type 0
AreTreeEdges phis lists edges found = (map (λ edge. edge.edge) found ≡ edges) × All (IsTreeEdge phis lists) found

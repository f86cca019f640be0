-- What reading the edges of a function finds.
use Rattle.std.specs.Prelude.{ℕ, List, length, map, ⊤}
use Rattle.pliron_text_llvm_functions.specs.declared.function.FunctionReading.{FunctionReading}
use Rattle.pliron_text_llvm_edges.specs.declared.function.EdgeForm.{EdgeForm}
use Rattle.pliron_text_llvm_edges.specs.declared.function.EdgeForm.TheVariants.{Read, Kept}
use Rattle.pliron_text_llvm_edges.specs.declared.function.FunctionEdges.{FunctionEdges}
use Rattle.pliron_text_llvm_edges.specs.Successors.{AreFunctionEdges, AreIncomingEdges}
use Rattle.pliron_text_llvm_edges.specs.Phis.{AreFunctionPhis}

-- the edges of a function, those that lead to each block, and the phis to which they pass values
abbrev pub AreEdgesOf : List ℕ → FunctionReading → FunctionEdges → Type 0
AreEdgesOf text reading found =
    AreFunctionEdges reading found.edges.items
    × AreIncomingEdges (length reading.body.blocks.items) found.edges.items (map (λ list. list.items) found.incoming.items)
    × AreFunctionPhis text reading (map (λ list. list.items) found.incoming.items) found.phis.items

-- what is found of a function, where it isn't kept as it is written
abbrev pub IsEdgeForm : List ℕ → FunctionReading → EdgeForm → Type 0
IsEdgeForm text reading (Read found) = AreEdgesOf text reading found
IsEdgeForm text reading (Kept place reason) = ⊤

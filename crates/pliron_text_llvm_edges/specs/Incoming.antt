-- How an edge comes into the list of its block.
use Rattle.std.specs.Prelude.{◌++◌, List, [], ◌∷◌, slice_index_or, slice_set}
use Rattle.pliron_text_llvm_edges.specs.declared.edges.BlockEdge.{BlockEdge}

-- the list of the block to which the edge leads has it behind those before, if there is such a list
abbrev pub with_incoming : BlockEdge → List (List BlockEdge) → List (List BlockEdge)
with_incoming edge lists = slice_set lists edge.to (slice_index_or lists edge.to [] ++ edge ∷ [])

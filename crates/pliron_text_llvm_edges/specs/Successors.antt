-- Edges between blocks.
use Rattle.std.specs.Prelude.{◌≡◌, ◌==◌, ◌-◌, ◌<◌, ℕ, Bool, true, false, List, [], length, map, filter, slice_index_or, slice_get, Option, Some, None}
use Rattle.std.specs.List.{All}
use Rattle.pliron_text_llvm_syntax.specs.declared.forms.Hole.{Hole}
use Rattle.pliron_text_llvm_syntax.specs.declared.forms.HoleKind.{HoleKind}
use Rattle.pliron_text_llvm_syntax.specs.declared.forms.HoleKind.TheVariants.{Operand, Successor}
use Rattle.pliron_text_llvm_reader.specs.declared.blocks.BlockLines.{BlockLines}
use Rattle.pliron_text_llvm_reader.specs.declared.body.BodyLine.{BodyLine}
use Rattle.pliron_text_llvm_reader.specs.declared.body.BodyLine.TheVariants.{Label, Statement}
use Rattle.pliron_text_llvm_reader.specs.declared.body.FunctionBody.{FunctionBody}
use Rattle.pliron_text_llvm_names.specs.declared.definitions.DefinitionKind.{DefinitionKind}
use Rattle.pliron_text_llvm_names.specs.declared.definitions.DefinitionKind.TheVariants.{Argument, Block, Result}
use Rattle.pliron_text_llvm_names.specs.declared.definitions.LocalDefinition.{LocalDefinition}
use Rattle.pliron_text_llvm_functions.specs.declared.function.FunctionReading.{FunctionReading}
use Rattle.pliron_text_llvm_edges.specs.declared.edges.BlockEdge.{BlockEdge}
use Rattle.pliron_text_llvm_edges.specs.Numbers.{numbers_passing, in_blocks}

-- ---- which block a hole names

abbrev pub target_in : Option (Option ℕ) → Option ℕ
target_in None = None
target_in (Some target) = target

-- the number of the definition that a hole names, if it names one
abbrev pub target_at : FunctionReading → ℕ → Option ℕ
target_at reading hole = target_in (slice_get reading.targets.items hole)

abbrev pub line_of_kind : DefinitionKind → Option ℕ
line_of_kind (Argument number) = None
line_of_kind (Block line) = Some line
line_of_kind (Result line) = None

abbrev pub line_begun : Option LocalDefinition → Option ℕ
line_begun None = None
line_begun (Some definition) = line_of_kind definition.what

abbrev pub line_defined : List LocalDefinition → Option ℕ → Option ℕ
line_defined definitions None = None
line_defined definitions (Some number) = line_begun (slice_get definitions number)

-- the line with which the block begins that a hole names
abbrev pub line_named : FunctionReading → ℕ → Option ℕ
line_named reading hole = line_defined reading.definitions.items (target_at reading hole)

-- the block of this number begins with this line
abbrev pub BeginsAt : List BlockLines → ℕ → ℕ → Type 0
BeginsAt blocks number line = (block : BlockLines) × (slice_get blocks number ≡ Some block) × (block.start ≡ line)

-- a hole names the block of this number
abbrev pub NamesBlock : FunctionReading → ℕ → ℕ → Type 0
NamesBlock reading hole number =
    (line : ℕ) × (line_named reading hole ≡ Some line) × BeginsAt reading.body.blocks.items number line

-- ---- the successors of a block

abbrev pub is_successor_kind : HoleKind → Bool
is_successor_kind Operand = false
is_successor_kind Successor = true

abbrev pub is_successor : Option Hole → Bool
is_successor None = false
is_successor (Some hole) = is_successor_kind hole.kind

abbrev pub is_successor_at : List Hole → ℕ → Bool
is_successor_at holes number = is_successor (slice_get holes number)

-- the holes of a line that are successors
abbrev pub successors_in : List Hole → Option BodyLine → List ℕ
successors_in holes None = []
successors_in holes (Some (Label span)) = []
successors_in holes (Some (Statement line)) =
    numbers_passing (is_successor_at holes) line.first_hole (line.end_hole - line.first_hole)

-- the holes that are successors of the statement that ends a block
abbrev pub successors_of_block : FunctionBody → BlockLines → List ℕ
successors_of_block body block = successors_in body.holes.items (slice_get body.lines.items (block.end - 1))

-- ---- edges

-- where an edge comes from: a block, and a hole of the statement that ends it
abbrev pub place_of_edge : BlockEdge → (ℕ × ℕ)
place_of_edge edge = (edge.from, edge.hole)

-- an edge leads to the block that its hole names, and not to the first one
abbrev pub LeadsToItsBlock : FunctionReading → BlockEdge → Type 0
LeadsToItsBlock reading edge = NamesBlock reading edge.hole edge.to × (0 < edge.to)

-- the edges of a function, in the order of the text: one for each successor of the statement that ends a block
abbrev pub AreFunctionEdges : FunctionReading → List BlockEdge → Type 0
AreFunctionEdges reading edges =
    (map place_of_edge edges ≡ in_blocks (successors_of_block reading.body) 0 reading.body.blocks.items)
    × All (LeadsToItsBlock reading) edges

-- the edges that lead to a block, in their order
abbrev pub edges_to : ℕ → List BlockEdge → List BlockEdge
edges_to number edges = filter (λ edge. edge.to == number) edges

-- for each of so many blocks the edges that lead to it
abbrev pub AreIncomingEdges : ℕ → List BlockEdge → List (List BlockEdge) → Type 0
AreIncomingEdges count edges lists =
    (length lists ≡ count) × ((number : ℕ) → number < count → slice_index_or lists number [] ≡ edges_to number edges)

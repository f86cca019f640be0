-- Phis, and what edges pass to them.
use Rattle.std.specs.Prelude.{◌≡◌, ◌&&◌, ◌+◌, ◌-◌, ◌<◌, ℕ, zero, suc, Bool, true, false, List, [], ◌∷◌, length, map, slice_index_or, slice_get, Option, Some, None, ⊤, IsPermutation}
use Rattle.std.specs.List.{All}
use Rattle.pliron_text_llvm_syntax.specs.declared.forms.Hole.{Hole}
use Rattle.pliron_text_llvm_syntax.specs.Tokens.{bytes_of_span}
use Rattle.pliron_text_llvm_reader.specs.declared.blocks.BlockLines.{BlockLines}
use Rattle.pliron_text_llvm_reader.specs.declared.body.BodyLine.{BodyLine}
use Rattle.pliron_text_llvm_reader.specs.declared.body.BodyLine.TheVariants.{Label, Statement}
use Rattle.pliron_text_llvm_reader.specs.declared.body.BodyStatement.{BodyStatement}
use Rattle.pliron_text_llvm_reader.specs.declared.body.FunctionBody.{FunctionBody}
use Rattle.pliron_text_llvm_reader.specs.declared.table.StatementLayout.{StatementLayout}
use Rattle.pliron_text_llvm_reader.specs.declared.table.StatementLayout.TheVariants.{Phi}
use Rattle.pliron_text_llvm_functions.specs.declared.function.FunctionReading.{FunctionReading}
use Rattle.pliron_text_llvm_edges.specs.declared.edges.BlockEdge.{BlockEdge}
use Rattle.pliron_text_llvm_edges.specs.declared.entries.PhiEntry.{PhiEntry}
use Rattle.pliron_text_llvm_edges.specs.declared.phis.BlockPhi.{BlockPhi}
use Rattle.pliron_text_llvm_edges.specs.Numbers.{numbers_passing, in_blocks}
use Rattle.pliron_text_llvm_edges.specs.Successors.{target_at, NamesBlock, is_successor_at}

-- ---- where phis are

abbrev pub is_phi_layout : StatementLayout → Bool
is_phi_layout Phi = true
is_phi_layout _ = false

abbrev pub is_phi : Option BodyLine → Bool
is_phi None = false
is_phi (Some (Label span)) = false
is_phi (Some (Statement line)) = is_phi_layout line.statement.row.layout

abbrev pub is_phi_at : List BodyLine → ℕ → Bool
is_phi_at lines number = is_phi (slice_get lines number)

abbrev pub is_head_line : Option BodyLine → Bool
is_head_line None = false
is_head_line (Some (Label span)) = true
is_head_line (Some (Statement line)) = is_phi_layout line.statement.row.layout

-- a phi may stand behind this line: it is a label or a phi
abbrev pub is_head_at : List BodyLine → ℕ → Bool
is_head_at lines number = is_head_line (slice_get lines number)

-- of so many lines, the first of which has this number, phis come first; one may stand here, or not
abbrev pub ArePhisFirst : List BodyLine → Bool → ℕ → ℕ → Type 0
ArePhisFirst lines at_head number zero = ⊤
ArePhisFirst lines at_head number (suc count) =
    (is_phi_at lines number ≡ true → at_head ≡ true)
    × ArePhisFirst lines (at_head && is_head_at lines number) (number + 1) count

-- the phis of a block come first
abbrev pub HasPhisFirst : FunctionBody → BlockLines → Type 0
HasPhisFirst body block = ArePhisFirst body.lines.items true block.start (block.end - block.start)

-- the lines of a block that are phis
abbrev pub phis_of_block : FunctionBody → BlockLines → List ℕ
phis_of_block body block = numbers_passing (is_phi_at body.lines.items) block.start (block.end - block.start)

abbrev pub place_of_phi : BlockPhi → (ℕ × ℕ)
place_of_phi phi = (phi.place.block, phi.place.line)

-- ---- what stands in a phi

-- what a value is: what the function defines by this number, or a constant of this text
pub data ValueKey : Type 0 where
  Local : ℕ → ValueKey
  Constant : List ℕ → ValueKey

abbrev pub bytes_in_hole : List ℕ → Option Hole → List ℕ
bytes_in_hole text None = []
bytes_in_hole text (Some hole) = bytes_of_span text hole.span

abbrev pub key_of_value : List ℕ → Option ℕ → ValueKey
key_of_value bytes None = Constant bytes
key_of_value bytes (Some number) = Local number

-- the value in a hole
abbrev pub value_at : List ℕ → FunctionReading → ℕ → ValueKey
value_at text reading hole =
    key_of_value (bytes_in_hole text (slice_get reading.body.holes.items hole)) (target_at reading hole)

-- an entry: a value in the hole of this number, and a block in the next one
abbrev pub IsEntryAt : FunctionReading → ℕ → PhiEntry → Type 0
IsEntryAt reading number entry =
    (is_successor_at reading.body.holes.items number ≡ false)
    × (is_successor_at reading.body.holes.items (number + 1) ≡ true)
    × (entry.value ≡ number)
    × NamesBlock reading (number + 1) entry.block

-- the entries in so many holes, the first of which has this number
abbrev pub AreEntries : FunctionReading → ℕ → ℕ → List PhiEntry → Type 0
AreEntries reading number zero [] = ⊤
AreEntries reading number (suc (suc count)) (entry ∷ entries) =
    IsEntryAt reading number entry × AreEntries reading (number + 2) count entries
AreEntries reading number count entries = ⊥

-- the entries of a statement, in the order of the text
abbrev pub AreEntriesOf : FunctionReading → BodyStatement → List PhiEntry → Type 0
AreEntriesOf reading line entries = AreEntries reading line.first_hole (line.end_hole - line.first_hole) entries

-- two entries of one block have one value
abbrev pub HaveOneValue : List ℕ → FunctionReading → PhiEntry → PhiEntry → Type 0
HaveOneValue text reading first second =
    first.block ≡ second.block → value_at text reading first.value ≡ value_at text reading second.value

-- entries of one block have one value
abbrev pub HaveOneValueEach : List ℕ → FunctionReading → List PhiEntry → Type 0
HaveOneValueEach text reading entries =
    (i j : ℕ) (d : PhiEntry) → i < j → j < length entries
    → HaveOneValue text reading (slice_index_or entries i d) (slice_index_or entries j d)

-- ---- phis

-- these are the entries of a statement, in whatever order
abbrev pub HasEntries : FunctionReading → BodyStatement → List PhiEntry → Type 0
HasEntries reading line entries = (found : List PhiEntry) × AreEntriesOf reading line found × IsPermutation found entries

-- a phi of the text whose entries, in the order of the edges to its block, are those that it has in the text: it names
-- each block as often as edges lead from there, and one value for each
abbrev pub FitsEdges : List ℕ → FunctionReading → List BlockEdge → BlockPhi → Type 0
FitsEdges text reading incoming phi =
    (line : BodyStatement)
    × (slice_get reading.body.lines.items phi.place.line ≡ Some (Statement line))
    × HasEntries reading line phi.entries.items
    × (map (λ entry. entry.block) phi.entries.items ≡ map (λ edge. edge.from) incoming)
    × HaveOneValueEach text reading phi.entries.items

-- the edges that lead to the block of this number, by those that lead to each
abbrev pub edges_into : List (List BlockEdge) → ℕ → List BlockEdge
edges_into lists number = slice_index_or lists number []

abbrev pub FitsIncoming : List ℕ → FunctionReading → List (List BlockEdge) → BlockPhi → Type 0
FitsIncoming text reading lists phi = FitsEdges text reading (edges_into lists phi.place.block) phi

-- the phis of a function to whose blocks these edges lead, in the order of the text
abbrev pub AreFunctionPhis : List ℕ → FunctionReading → List (List BlockEdge) → List BlockPhi → Type 0
AreFunctionPhis text reading lists phis =
    (map place_of_phi phis ≡ in_blocks (phis_of_block reading.body) 0 reading.body.blocks.items)
    × All (HasPhisFirst reading.body) reading.body.blocks.items
    × All (FitsIncoming text reading lists) phis

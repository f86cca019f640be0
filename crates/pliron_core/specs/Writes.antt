-- What each write makes of a tree.
use Rattle.std.specs.Prelude.{suc, ℕ, ◌+◌, List, [], ◌∷◌, ◌++◌, length, drop, Option, Some, None, slice_set, map, replicate, remove}
use Rattle.std.specs.List.{insert, range_with_len}
use Rattle.pliron_core.specs.declared.attrs.Head.{Head}
use Rattle.pliron_core.specs.declared.attrs.AttrObj.{AttrObj}
use Rattle.pliron_core.specs.declared.context.Def.{Def}
use Rattle.pliron_core.specs.declared.context.Def.TheVariants.{Result, Argument}
use Rattle.pliron_core.specs.declared.context.RegionSlot.{RegionSlot}
use Rattle.pliron_core.specs.Lists.{without, put_before}
use Rattle.pliron_core.specs.Uses.{replace_target}
use Rattle.pliron_core.specs.Tree.{Tree, row_of, head_of, operands_of, successors_of, parent_of, body_of, arguments_of, layout_of}

-- the tree of an empty context
abbrev pub no_tree : Tree
no_tree = record { operations = []; operands = []; successors = []; parents = []; bodies = []; arguments = []; block_parents = []; layouts = []; slots = []; definitions = [] }

-- the definitions of the results of an operation, the arguments of a block and the regions of an operation
abbrev pub result_definitions : ℕ → ℕ → List Def
result_definitions op count = map (λ i. Result op i) (range_with_len 0 count)

abbrev pub argument_definitions : ℕ → ℕ → List Def
argument_definitions block count = map (λ i. Argument block i) (range_with_len 0 count)

abbrev pub region_slots : ℕ → ℕ → List RegionSlot
region_slots op count = map (λ i. record { op = op; index = i }) (range_with_len 0 count)

-- a new operation in no block, with new results and new empty regions
abbrev pub after_creating : Tree → Head → ℕ → ℕ → Tree
after_creating t head results regions = record t {
  operations = t.operations ++ record { head = Some head; results = range_with_len (length t.definitions) results; regions = range_with_len (length t.slots) regions } ∷ [];
  operands = t.operands ++ [] ∷ [];
  successors = t.successors ++ [] ∷ [];
  parents = t.parents ++ None ∷ [];
  layouts = t.layouts ++ replicate regions [];
  slots = t.slots ++ region_slots (length t.operations) regions;
  definitions = t.definitions ++ result_definitions (length t.operations) results;
}

-- a new last block of the region, with new arguments
abbrev pub block_created : Tree → ℕ → ℕ → Tree
block_created t region arguments = record t {
  bodies = t.bodies ++ [] ∷ [];
  arguments = t.arguments ++ range_with_len (length t.definitions) arguments ∷ [];
  block_parents = t.block_parents ++ Some region ∷ [];
  layouts = slice_set t.layouts region (layout_of t region ++ length t.bodies ∷ []);
  definitions = t.definitions ++ argument_definitions (length t.bodies) arguments;
}

-- one more operand, one more successor
abbrev pub operand_pushed : Tree → ℕ → ℕ → Tree
operand_pushed t op value = record t { operands = slice_set t.operands op (operands_of t op ++ value ∷ []) }

abbrev pub successor_pushed : Tree → ℕ → ℕ → Tree
successor_pushed t op block = record t { successors = slice_set t.successors op (successors_of t op ++ block ∷ []) }

-- one more operand, at this index: those from there on have the index behind
abbrev pub operand_inserted : Tree → ℕ → ℕ → ℕ → Tree
operand_inserted t op i value = record t { operands = slice_set t.operands op (insert (operands_of t op) i value) }

-- that operand is removed, the head or an attribute of it is replaced
abbrev pub operand_removed : Tree → ℕ → ℕ → Tree
operand_removed t op i = record t { operands = slice_set t.operands op (remove (operands_of t op) i) }

abbrev pub with_attribute : Option Head → ℕ → AttrObj → Option Head
with_attribute None i attr = None
with_attribute (Some head) i attr = Some (record head { attrs = slice_set head.attrs i attr })

abbrev pub head_replaced : Tree → ℕ → Head → Tree
head_replaced t op head = record t { operations = slice_set t.operations op (record (row_of t op) { head = Some head }) }

abbrev pub attribute_set : Tree → ℕ → ℕ → AttrObj → Tree
attribute_set t op i attr = record t { operations = slice_set t.operations op (record (row_of t op) { head = with_attribute (head_of t op) i attr }) }

-- one more argument, a new value
abbrev pub argument_pushed : Tree → ℕ → Tree
argument_pushed t block = record t {
  arguments = slice_set t.arguments block (arguments_of t block ++ length t.definitions ∷ []);
  definitions = t.definitions ++ Argument block (length (arguments_of t block)) ∷ [];
}

-- these values are the block's arguments from index i on
abbrev pub argument_definitions_from : List Def → ℕ → ℕ → List ℕ → List Def
argument_definitions_from definitions block i [] = definitions
argument_definitions_from definitions block i (v ∷ vs) = argument_definitions_from (slice_set definitions v (Argument block i)) block (suc i) vs

-- that argument is removed, and each later one has the index before
abbrev pub argument_removed : Tree → ℕ → ℕ → Tree
argument_removed t block i = record t {
  arguments = slice_set t.arguments block (remove (arguments_of t block) i);
  definitions = argument_definitions_from t.definitions block i (drop (i + 1) (arguments_of t block));
}

-- every use of `old` is one of `new`
abbrev pub after_replacing : Tree → ℕ → ℕ → Tree
after_replacing t old new = record t { operands = map (map (replace_target old new)) t.operands }

-- the operation is in no block
abbrev pub taken_from : Tree → ℕ → Option ℕ → Tree
taken_from t op None = t
taken_from t op (Some block) = record t { bodies = slice_set t.bodies block (without op (body_of t block)); parents = slice_set t.parents op None }

abbrev pub taken_out : Tree → ℕ → Tree
taken_out t op = taken_from t op (parent_of t op)

-- the operation is in the block, with this body
abbrev pub after_placing : Tree → ℕ → ℕ → List ℕ → Tree
after_placing t op block body = record t { bodies = slice_set t.bodies block body; parents = slice_set t.parents op (Some block) }

-- the operation becomes the last of the block, the first, or the direct predecessor of `at`
abbrev pub put_last : Tree → ℕ → ℕ → Tree
put_last t op block = after_placing t op block (body_of t block ++ op ∷ [])

abbrev pub put_first : Tree → ℕ → ℕ → Tree
put_first t op block = after_placing t op block (op ∷ body_of t block)

abbrev pub put_next_to : Tree → ℕ → ℕ → Option ℕ → Tree
put_next_to t op at None = t
put_next_to t op at (Some block) = after_placing t op block (put_before at op (body_of t block))

abbrev pub moved_last : Tree → ℕ → ℕ → Tree
moved_last t op block = put_last (taken_out t op) op block

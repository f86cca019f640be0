-- Which operations of a module are functions that can be run.
use Rattle.std.specs.Prelude.{◌≡◌, ◌⊎◌, ℕ, List, Option, Some, None, slice_get}
use Rattle.std.specs.List.{All}
use Rattle.pliron_core.specs.Tree.{Tree, head_of, regions_of, layout_of, body_of}
use Rattle.pliron_core.specs.Lists.{first_of}
use Rattle.pliron_core.specs.declared.attrs.Head.{Head}
use Rattle.pliron_dialect_mlir.specs.ClassNumbers.{class_of_number}
use Rattle.pliron_dialect_mlir.specs.declared.kind.Class.{Class}
use Rattle.pliron_dialect_mlir.specs.declared.kind.Class.TheVariants.{Root, Function}

-- the first block of a region, if it has one
abbrev pub first_block_of : Tree → Option ℕ → Option ℕ
first_block_of t None = None
first_block_of t (Some region) = first_of (layout_of t region) None

-- and of an operation's first region
abbrev pub body_block : Tree → (op : ℕ) → Option ℕ
body_block t op = first_block_of t (slice_get (regions_of t op) 0)

-- the head is that of a function, with a name or without
abbrev pub IsFunctionHead : Head → Type 0
IsFunctionHead head = (class_of_number head.kind ≡ Some Root) ⊎ (class_of_number head.kind ≡ Some Function)

-- the operation is a function with a body
abbrev pub IsFunction : Tree → (op : ℕ) → Type 0
IsFunction t op = (head : Head) × (block : ℕ) × (head_of t op ≡ Some head) × IsFunctionHead head × (body_block t op ≡ Some block)

-- the operation at this index directly in the module is one
abbrev pub IsRunnableAt : Tree → (root index : ℕ) → Type 0
IsRunnableAt t root index = (block op : ℕ) × (body_block t root ≡ Some block) × (slice_get (body_of t block) index ≡ Some op) × IsFunction t op

-- the text is read as a module in which these are
abbrev pub AreFunctionsRead : (reads : List ℕ → Tree → ℕ → Type 0) → (text : List ℕ) → (indexes : List ℕ) → Type 0
AreFunctionsRead reads text indexes = (t : Tree) × (root : ℕ) × reads text t root × All (IsRunnableAt t root) indexes

-- Texts that can be made in the order of the text, what is made of them, and what a dialect admits of them.
use Rattle.std.specs.Prelude.{◌≡◌, pos, ℕ, ◌+◌, ◌<◌, ◌≤◌, List, [], ◌∷◌, Option, Some, None, length, slice_get, IsTrue}
use Rattle.pliron_core.specs.declared.attrs.Head.{Head}
use Rattle.pliron_core.specs.declared.attrs.AttrObj.{AttrObj}
use Rattle.pliron_core.specs.declared.attrs.AttrObj.TheVariants.{Int}
use Rattle.pliron_core.specs.Tree.{In}
use Rattle.pliron_laws.specs.Datum.{Meaning}
use Rattle.pliron_text.specs.declared.syntax.AttributeText.{AttributeText}
use Rattle.pliron_text.specs.declared.syntax.AttributeText.TheVariants.{Nothing, Number, Count}
use Rattle.pliron_text.specs.declared.syntax.OperationText.{OperationText}
use Rattle.pliron_text.specs.declared.syntax.BlockText.{BlockText}
use Rattle.pliron_text.specs.declared.syntax.Syntax.{Syntax}
use Rattle.pliron_text.specs.declared.syntax.MadeCounts.{MadeCounts}
use Rattle.pliron_text.specs.declared.syntax.SyntaxStep.{SyntaxStep}
use Rattle.pliron_text.specs.declared.syntax.SyntaxStep.TheVariants.{Operation, Block}

-- the operation of this number is the next after what is made, its block is made, and so much is made
-- after it
abbrev pub IsNextOperation : MadeCounts → ℕ → Option OperationText → MadeCounts → Type 0
IsNextOperation m n None m' = ⊥
IsNextOperation m n (Some o) m' = (n ≡ m.operations) × (o.block < m.blocks) × (m' ≡ record { operations = m.operations + 1; blocks = m.blocks; regions = m.regions + o.regions; values = m.values + o.results })

-- the same of a block, whose region is made
abbrev pub IsNextBlock : MadeCounts → ℕ → Option BlockText → MadeCounts → Type 0
IsNextBlock m n None m' = ⊥
IsNextBlock m n (Some b) m' = (n ≡ m.blocks) × (b.region < m.regions) × (m' ≡ record { operations = m.operations; blocks = m.blocks + 1; regions = m.regions; values = m.values + b.arguments })

abbrev pub IsNext : Syntax → MadeCounts → SyntaxStep → MadeCounts → Type 0
IsNext s m (Operation n) m' = IsNextOperation m n (slice_get s.operations.items n) m'
IsNext s m (Block n) m' = IsNextBlock m n (slice_get s.blocks.items n) m'

-- each step makes what is next, and in the end all of the text is made
abbrev pub IsOrdered : Syntax → MadeCounts → List SyntaxStep → Type 0
IsOrdered s m [] = (m.operations ≡ length s.operations.items) × (m.blocks ≡ length s.blocks.items) × (m.values ≡ s.values)
IsOrdered s m (step ∷ steps) = (m' : MadeCounts) × IsNext s m step m' × IsOrdered s m' steps

-- before the first step the regions and the results of the whole text are made
abbrev pub first_made : OperationText → MadeCounts
first_made root = record { operations = 0; blocks = 0; regions = root.regions; values = root.results }

abbrev pub AllBelow : ℕ → List ℕ → Type 0
AllBelow count xs = (x : ℕ) → In x xs → x < count

-- the attributes and the head that a text writes of an operation
abbrev pub attributes_of_text : AttributeText → List AttrObj
attributes_of_text Nothing = []
attributes_of_text (Number n) = Int n ∷ []
attributes_of_text (Count n) = Int (pos n) ∷ []

abbrev pub head_of_text : OperationText → Head
head_of_text o = record { kind = o.kind; ssa = o.ssa; attrs = attributes_of_text o.attribute }

-- the dialect has operations with the head and the counts of this text
abbrev pub IsAdmittedText : Meaning → OperationText → Type 0
IsAdmittedText m o = IsTrue (m.admits (head_of_text o) (length o.operands.items) o.results (length o.successors.items) o.regions)

-- the dialect has each operation of the text, and the one that is the whole
pub record IsAdmittedSyntax (m : Meaning) (s : Syntax) : Type 0 where
  pub root : IsAdmittedText m s.root
  pub operations : (n : ℕ) (o : OperationText) → slice_get s.operations.items n ≡ Some o → IsAdmittedText m o

-- it is not after the last of its block, and with successors it is that last
abbrev pub IsUpToLast : Option ℕ → ℕ → OperationText → Type 0
IsUpToLast None n o = ⊥
IsUpToLast (Some last) n o = (n ≤ last) × (0 < length o.successors.items → n ≡ last)

-- these are blocks of the region
abbrev pub AreInRegion : Syntax → ℕ → List ℕ → Type 0
AreInRegion s region xs = (x : ℕ) → In x xs → (b : BlockText) × (slice_get s.blocks.items x ≡ Some b) × (b.region ≡ region)

-- the operation with this number uses values of the text and is in a block of it; with successors it is the last there,
-- and they are blocks of the same region
pub record IsSoundOperation (s : Syntax) (n : ℕ) (o : OperationText) : Type 0 where
  pub operands : AllBelow s.values o.operands.items
  pub block : BlockText
  pub in_block : slice_get s.blocks.items o.block ≡ Some block
  pub last : IsUpToLast block.last n o
  pub own_region : AreInRegion s block.region o.successors.items

abbrev pub AreSoundOperations : Syntax → Type 0
AreSoundOperations s = (n : ℕ) (o : OperationText) → slice_get s.operations.items n ≡ Some o → IsSoundOperation s n o

-- the operation that is the whole uses values of the text, and no blocks
pub record IsSoundRoot (s : Syntax) : Type 0 where
  pub operands : AllBelow s.values s.root.operands.items
  pub no_successors : length s.root.successors.items ≡ 0

-- all can be made in this order, and each is sound
pub record IsSoundSyntax (s : Syntax) : Type 0 where
  pub ordered : IsOrdered s (first_made s.root) s.steps.items
  pub root : IsSoundRoot s
  pub operations : AreSoundOperations s

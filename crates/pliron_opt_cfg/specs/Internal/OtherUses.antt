-- Uses of what is defined in blocks.
use Rattle.std.specs.Prelude.{ℕ, List}
use Rattle.pliron_core.specs.Tree.{Tree, In, operands_of, definition_of}
use Rattle.pliron_core.specs.Erased.{IsInOperation, IsDefinedInBlock}

-- what is defined in one of the blocks is used in one of them alone
abbrev pub HaveNoOtherUse : Tree → List ℕ → Type 0
HaveNoOtherUse t bs = (k v b : ℕ) → In v (operands_of t k) → In b bs → IsDefinedInBlock t b (definition_of t v) → (c : ℕ) × In c bs × IsInOperation t c k

-- some other operation uses a value that is defined in one of them
pub record HaveOtherUse (t : Tree) (bs : List ℕ) : Type 0 where
  pub block : ℕ
  pub among : In block bs
  pub value : ℕ
  pub made : IsDefinedInBlock t block (definition_of t value)
  pub user : ℕ
  pub names : In value (operands_of t user)
  pub outside : (c : ℕ) → In c bs → IsInOperation t c user → ⊥

-- Branches that are folded by what every run reads of their operands.
use Rattle.std.specs.Prelude.{◌≡◌, ◌≤◌, ℕ, List, Option, Some, length, map, slice_get}
use Rattle.pliron_core.specs.declared.attrs.AttrObj.{AttrObj}
use Rattle.pliron_core.specs.Tree.{Tree, head_of, operands_of, successors_of}
use Rattle.pliron_core.specs.Invariant.{IsTree}
use Rattle.pliron_laws.specs.Datum.{datum_of, Head, Meaning}
use Rattle.pliron_laws.specs.Tree.{Operation, op_at, shape_of}
use Rattle.pliron_laws.specs.Acting.{pick}
use Rattle.pliron_laws.specs.Answers.{HeadPasses}
use Rattle.pliron_theory.specs.Keeps.{IsFit, KeepsRuns}
use Rattle.pliron_theory.specs.Renaming.{IsReadAs}
use Rattle.pliron_theory.specs.Rebranching.{IsRebranched}
use Rattle.pliron_laws.specs.Replacing.{ReplacesBranch}

-- each constant that is known of an operand is what every run of a root that is fit to run reads
abbrev pub AreReadAs : Meaning → Tree → ℕ → List (Option AttrObj) → Type 0
AreReadAs m t op known = (root j v : ℕ) (c : AttrObj) → IsFit m t root → slice_get (operands_of t op) j ≡ Some v → slice_get known j ≡ Some (Some c) → IsReadAs m t v (datum_of c) root

-- the branch `new` took the place of `op`, and is one that folding may put there
pub record IsRefolded (m : Meaning) (t t' : Tree) (a op new : ℕ) (front : List ℕ) (known : List (Option AttrObj)) : Type 0 where
  pub placed : IsRebranched t t' a op new front
  pub operation : Operation
  pub liveness : op_at t op ≡ Some operation
  pub head : Head
  pub places : List ℕ
  pub edges : List ℕ
  pub new_head : head_of t' new ≡ Some head
  pub operands : map Some (operands_of t' new) ≡ pick places operation.operands
  pub replaces : ReplacesBranch m (shape_of m t operation) operation.successors (successors_of t' new) known head places edges

-- a branch may be folded by constants that every run reads
abbrev pub RefoldingLaw : Type 0
RefoldingLaw = (m : Meaning) (t t' : Tree) (a op new : ℕ) (front : List ℕ) (known : List (Option AttrObj)) → IsTree t → IsTree t' → length t.operations ≤ length t'.operations → length t.operations ≤ new → HeadPasses m.is_branch t op → length known ≡ length (operands_of t op) → IsRefolded m t t' a op new front known → AreReadAs m t op known → KeepsRuns m t t'

-- What the steps of a statement take, and which holes they leave.
use Rattle.std.specs.Prelude.{◌≡◌, ℕ, List, [], ◌∷◌, ◌++◌, length, drop, Some}
use Rattle.pliron_text_llvm_syntax.specs.declared.forms.Hole.{Hole}
use Rattle.pliron_text_llvm_syntax.specs.declared.forms.HoleKind.TheVariants.{Operand as OperandHole, Successor as SuccessorHole}
use Rattle.pliron_text_llvm_syntax.specs.declared.tokens.LlvmToken.{LlvmToken}
use Rattle.pliron_text_llvm_reader.specs.declared.rules.Role.{Role}
use Rattle.pliron_text_llvm_reader.specs.declared.rules.Role.TheVariants.{Plain, Operand, More, Successor}
use Rattle.pliron_text_llvm_reader.specs.declared.rules.Amount.{Amount}
use Rattle.pliron_text_llvm_reader.specs.declared.rules.Amount.TheVariants.{OneToken, OneTree}
use Rattle.pliron_text_llvm_reader.specs.declared.table.Reads.{Reads}
use Rattle.pliron_text_llvm_reader.specs.declared.table.GrammarStep.{GrammarStep}
use Rattle.pliron_text_llvm_reader.specs.Cursors.{first_start, first_end, behind_tree, end_of_tree}
use Rattle.pliron_text_llvm_reader.specs.declared.rules.TakenStep.{TakenStep}
use Rattle.pliron_text_llvm_reader.specs.Grammar.{move_of_step, with_last}
use Rattle.pliron_text_llvm_reader.specs.Grammar.GrammarMove.{Skipped, Taken}
use Rattle.pliron_text_llvm_reader.specs.Holes.{hole_between}

-- what is left behind what is taken
abbrev pub behind_taken : Amount → List LlvmToken → List LlvmToken
behind_taken OneToken tokens = drop 1 tokens
behind_taken OneTree tokens = behind_tree tokens

-- the last hole ends at this byte
abbrev pub with_end : ℕ → List Hole → List Hole
with_end end [] = []
with_end end (hole ∷ []) = hole_between hole.kind hole.span.start end ∷ []
with_end end (hole ∷ next ∷ holes) = hole ∷ with_end end (next ∷ holes)

-- the holes with what stands between these bytes
abbrev pub holes_with : Role → ℕ → ℕ → List Hole → List Hole
holes_with Plain start end holes = holes
holes_with Operand start end holes = holes ++ hole_between OperandHole start end ∷ []
holes_with Successor start end holes = holes ++ hole_between SuccessorHole start end ∷ []
holes_with More start end holes = with_end end holes

-- where what is taken ends
abbrev pub end_of_taken : Amount → List LlvmToken → ℕ
end_of_taken OneToken tokens = first_end tokens 0
end_of_taken OneTree tokens = end_of_tree 0 tokens

-- from these steps, tokens and holes, by what the grammar says of each step, to the steps and the tokens that are left,
-- and the holes then
pub data LeadsBySteps (text : List ℕ) (reads : Reads) (steps : List GrammarStep) (tokens : List LlvmToken) (holes : List Hole) : List GrammarStep → List LlvmToken → List Hole → Type 0 where
  Nowhere : LeadsBySteps text reads steps tokens holes steps tokens holes
  Past : {more : List GrammarStep} {left : List LlvmToken} {found : List Hole} (step : GrammarStep)
      → LeadsBySteps text reads steps tokens holes (step ∷ more) left found → move_of_step text reads step left ≡ Some Skipped
      → LeadsBySteps text reads steps tokens holes more left found
  Onward : {more : List GrammarStep} {left : List LlvmToken} {found : List Hole} (step : GrammarStep) (amount : Amount) (role : Role) (behind : List GrammarStep)
      → LeadsBySteps text reads steps tokens holes (step ∷ more) left found → move_of_step text reads step left ≡ Some (Taken amount role behind)
      → LeadsBySteps text reads steps tokens holes (behind ++ more) (behind_taken amount left)
      (holes_with role (first_start left (length text)) (end_of_taken amount left) found)

-- nothing of the first of these steps is there, up to the ones that are left
abbrev pub Skips : List ℕ → Reads → List GrammarStep → List LlvmToken → List GrammarStep → Type 0
Skips text reads steps tokens left = (holes : List Hole) → LeadsBySteps text reads steps tokens holes left tokens holes

-- nothing of the first of these steps is there, up to one for which this is taken
pub record IsNextTaken (text : List ℕ) (reads : Reads) (steps : List GrammarStep) (tokens : List LlvmToken) (taking : TakenStep) (left : List GrammarStep) : Type 0 where
  pub step : GrammarStep
  pub skips : Skips text reads steps tokens (step ∷ left)
  pub move : move_of_step text reads step tokens ≡ Some (Taken taking.amount taking.role (with_last taking.behind.now taking.last))

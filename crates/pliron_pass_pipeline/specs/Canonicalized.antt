-- What the pass of canonicalization makes of a tree.
use Rattle.std.specs.Prelude.{◌≡◌, ℕ, true, List, [], ◌∷◌, Result, Ok, Err}
use Rattle.pliron_core.specs.Tree.{Tree}
use Rattle.pliron_laws.specs.declared.fault.OptError.{OptError}
use Rattle.pliron_laws.specs.declared.fault.OptError.TheVariants.{Memory}
use Rattle.pliron_rewrite_operands.specs.Answers.{Folding}
use Rattle.pliron_opt_canonicalize.specs.Folds.{Fold, FoldInTurn, AreFolded, HasFolds, ReportsFolds}
use Rattle.pliron_pass_pipeline.specs.declared.optimisation.Effect.{Effect}

-- results and arguments were folded in turn and none folds any more; the status reports whether one folded, and all
-- edges stay; or allocation failed, and some were folded
abbrev pub Canonicalizes : Folding → (t t' : Tree) → ℕ → Result Effect OptError → Type 0
Canonicalizes x t t' root (Ok effect) = ((fs : List Fold) × FoldInTurn x root fs t t') × (HasFolds x t' root → ⊥) × ReportsFolds x t root effect.status × (effect.keeps_edges ≡ true)
Canonicalizes x t t' root (Err e) = (e ≡ Memory) × ((fs : List Fold) × AreFolded x root fs t t')

abbrev pub canonicalize_name : List ℕ
canonicalize_name = 0x63 ∷ 0x61 ∷ 0x6e ∷ 0x6f ∷ 0x6e ∷ 0x69 ∷ 0x63 ∷ 0x61 ∷ 0x6c ∷ 0x69 ∷ 0x7a ∷ 0x65 ∷ []

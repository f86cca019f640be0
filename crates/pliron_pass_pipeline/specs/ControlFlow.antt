-- What the pass of the simplification of control flow makes of a tree.
use Rattle.std.specs.Prelude.{◌≡◌, ℕ, Bool, false, List, [], ◌∷◌, Result, Ok, Err}
use Rattle.pliron_core.specs.Tree.{Tree}
use Rattle.pliron_laws.specs.Datum.{Head, Meaning}
use Rattle.pliron_laws.specs.Folding.{Constants}
use Rattle.pliron_laws.specs.InPlace.{Outcome}
use Rattle.pliron_laws.specs.declared.fault.OptError.{OptError}
use Rattle.pliron_opt_cfg.specs.Simplified.{Simplifies, SimplifyFails}
use Rattle.pliron_pass_pipeline.specs.declared.optimisation.Effect.{Effect}

-- the control flow was simplified, and nothing is said of edges; or it gave up after some whole rewrites
abbrev pub SimplifiesControlFlow : Meaning → (can_fold can_fold_branch : Head → Bool) → Constants → Outcome → (t t' : Tree) → ℕ → Result Effect OptError → Type 0
SimplifiesControlFlow m can_fold can_fold_branch constants outcome t t' root (Ok effect) = Simplifies m can_fold can_fold_branch constants outcome root t t' effect.status × (effect.keeps_edges ≡ false)
SimplifiesControlFlow m can_fold can_fold_branch constants outcome t t' root (Err e) = SimplifyFails m can_fold can_fold_branch constants outcome root t t' e

abbrev pub simplify_cfg_name : List ℕ
simplify_cfg_name = 0x73 ∷ 0x69 ∷ 0x6d ∷ 0x70 ∷ 0x6c ∷ 0x69 ∷ 0x66 ∷ 0x79 ∷ 0x2d ∷ 0x63 ∷ 0x66 ∷ 0x67 ∷ []

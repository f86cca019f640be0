-- What the pass of constant propagation makes of a tree.
use Rattle.std.specs.Prelude.{◌≡◌, ℕ, Bool, true, List, [], ◌∷◌, Some, Result, Ok, Err}
use Rattle.pliron_core.specs.declared.attrs.AttrObj.{AttrObj}
use Rattle.pliron_core.specs.Tree.{Tree}
use Rattle.pliron_laws.specs.Datum.{Head}
use Rattle.pliron_laws.specs.InPlace.{Outcome, ReportsChange}
use Rattle.pliron_laws.specs.declared.fault.OptError.{OptError}
use Rattle.pliron_laws.specs.declared.fault.OptError.TheVariants.{Memory}
use Rattle.pliron_theory.specs.LatticeValues.{Says}
use Rattle.pliron_opt_sccp.specs.Propagated.{IsPropagated, IsPartlyPropagated}
use Rattle.pliron_pass_pipeline.specs.declared.optimisation.Effect.{Effect}

-- the tree is made by closed lattice values, the most precise ones where they are owed; the status reports
-- whether it changed, and all edges stay; or an allocation failed, and the tree is one after a first part of
-- the rewrites
abbrev pub PropagatesConstants : Says → (AttrObj → Bool) → (AttrObj → Head) → Outcome → (t t' : Tree) → ℕ → Result Effect OptError → Type 0
PropagatesConstants x accepts head outcome t t' root (Ok effect) = ((pops : ℕ) × IsPropagated x accepts head outcome t root t' pops) × ReportsChange (Some effect.status) t t' × (effect.keeps_edges ≡ true)
PropagatesConstants x accepts head outcome t t' root (Err e) = (e ≡ Memory) × IsPartlyPropagated x accepts head outcome t root t'

abbrev pub sccp_name : List ℕ
sccp_name = 0x73 ∷ 0x63 ∷ 0x63 ∷ 0x70 ∷ []

-- What the pass of rules makes of a tree.
use Rattle.std.specs.Prelude.{◌≡◌, ◌⊎◌, ℕ, zero, suc, ◌*◌, ◌-◌, ◌^◌, min, true, List, [], ◌∷◌, length, Option, None, Result, Ok, Err}
use Rattle.pliron_core.specs.Tree.{Tree}
use Rattle.pliron_core.specs.Walks.{contents}
use Rattle.pliron_core.specs.declared.attrs.IRStatus.TheVariants.{Changed, Unchanged}
use Rattle.pliron_laws.specs.declared.fault.OptError.{OptError}
use Rattle.pliron_laws.specs.declared.fault.OptError.TheVariants.{Memory}
use Rattle.pliron_opt_combine.specs.Rewrites.{Rewrite, RewriteInTurn, AreRewritten, HasRewrites}
use Rattle.pliron_pass_pipeline.specs.declared.optimisation.Effect.{Effect}
use Rattle.pliron_rewrite_rules.specs.Tables.{RuleTables}
use Rattle.pliron_rewrite_rules.specs.declared.term.Term.{Term}
use Rattle.pliron_rewrite_rules.specs.declared.view.View.{View}

-- how many rewrites a run makes at most: so many for each operation inside
abbrev pub most_rewrites : Tree → ℕ → ℕ
most_rewrites t root = min (length (contents t root) * 16) (2 ^ 64 - 1)

-- what is reported of so many rewrites
abbrev pub effect_of_count : ℕ → Effect
effect_of_count zero = record { status = Unchanged; keeps_edges = true }
effect_of_count (suc n) = record { status = Changed; keeps_edges = true }

-- no rule
abbrev pub no_rules : View → Option Term
no_rules view = None

-- these rewrites were made in turn, and none is left, or as many were made as a run makes
pub record IsCombined (x : RuleTables) (rules : View → Option Term) (root : ℕ) (t t' : Tree) (effect : Effect) : Type 0 where
  pub rewrites : List Rewrite
  pub in_turn : RewriteInTurn x rules root rewrites t t'
  pub reported : effect ≡ effect_of_count (length rewrites)
  pub finished : (length rewrites ≡ most_rewrites t root) ⊎ (HasRewrites x rules t' root → ⊥)

-- rules were applied so; or allocation failed, and some were
abbrev pub AppliesRules : RuleTables → (View → Option Term) → (t t' : Tree) → ℕ → Result Effect OptError → Type 0
AppliesRules x rules t t' root (Ok effect) = IsCombined x rules root t t' effect
AppliesRules x rules t t' root (Err e) = (e ≡ Memory) × ((rs : List Rewrite) × AreRewritten x rules root (most_rewrites t root) rs t t')

abbrev pub combine_name : List ℕ
combine_name = 0x63 ∷ 0x6f ∷ 0x6d ∷ 0x62 ∷ 0x69 ∷ 0x6e ∷ 0x65 ∷ []

-- What the pass of common subexpression elimination makes of a tree.
use Rattle.std.specs.Prelude.{◌≡◌, ℕ, Bool, true, List, [], ◌∷◌, Option, Result, Ok, Err}
use Rattle.pliron_core.specs.Tree.{Tree}
use Rattle.pliron_laws.specs.Datum.{Head}
use Rattle.pliron_laws.specs.declared.fault.OptError.{OptError}
use Rattle.pliron_laws.specs.declared.fault.OptError.TheVariants.{Memory}
use Rattle.pliron_opt_cse.specs.Left.{LeavesNoRedundancy, ReportsEquivalent}
use Rattle.pliron_opt_cse.specs.Merges.{Pair, MergeInTurn, AreMergedSoFar}
use Rattle.pliron_pass_pipeline.specs.declared.optimisation.Effect.{Effect}

-- operations that do what one before them did were erased in turn, and where uses are behind definitions none is
-- left; the status reports whether there was one, and all edges stay; or allocation failed, and some are erased
abbrev pub EliminatesRedundancy : (Head → Option Bool) → (t t' : Tree) → ℕ → Result Effect OptError → Type 0
EliminatesRedundancy side_effects t t' root (Ok effect) = ((xs : List Pair) × MergeInTurn side_effects root xs t t') × LeavesNoRedundancy side_effects t t' root × ReportsEquivalent side_effects t root effect.status × (effect.keeps_edges ≡ true)
EliminatesRedundancy side_effects t t' root (Err e) = (e ≡ Memory) × ((xs : List Pair) × AreMergedSoFar side_effects root xs t t')

abbrev pub cse_name : List ℕ
cse_name = 0x63 ∷ 0x73 ∷ 0x65 ∷ []

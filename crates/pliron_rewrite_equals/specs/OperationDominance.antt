-- Operations that are before others on every path to them: dominance.
use Rattle.std.specs.Prelude.{◌≡◌, ℕ, List, ◌∷◌, ◌++◌, Some, None}
use Rattle.pliron_core.specs.declared.context.Def.TheVariants.{Result}
use Rattle.pliron_core.specs.Tree.{Tree, IsWithin, parent_of, body_of, block_parent_of, layout_of, first_of}
use Rattle.pliron_laws.specs.Paths.{Path}
use Rattle.pliron_laws.specs.Root.{HasPassed}

-- b, or an operation that it is inside, is in the region of a, and every path from the entry of that region to
-- it passes a first
pub record DominatesOperation (t : Tree) (a b : ℕ) : Type 0 where
  pub around : ℕ
  pub holds : IsWithin t around b
  pub home : ℕ
  pub in_home : parent_of t a ≡ Some home
  pub block : ℕ
  pub in_block : parent_of t around ≡ Some block
  pub region : ℕ
  pub home_region : block_parent_of t home ≡ Some region
  pub in_region : block_parent_of t block ≡ Some region
  pub passes : (entry : ℕ) (before done rest : List ℕ) → first_of (layout_of t region) None ≡ Some entry → Path t entry block before → body_of t block ≡ done ++ around ∷ rest → HasPassed t (Some (Result a 0)) before block done

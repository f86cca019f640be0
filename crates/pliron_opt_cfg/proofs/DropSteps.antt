-- Uses are dropped block by block.
use Rattle.std.proofs.Common.{◌≡◌, ℕ, List, [], ◌∷◌, ◌++◌, refl}
use Rattle.pliron_core.specs.Tree.{Tree}
use Rattle.pliron_core.specs.Erased.{uses_dropped}
use Rattle.pliron_rewrite_blocks.specs.Leaving.{DropsAll, DropsAll.Done, DropsAll.Then}

pub drops_more : (bs : List ℕ) (t u : Tree) (b : ℕ) → DropsAll bs t u → DropsAll (bs ++ b ∷ []) t (uses_dropped u b)
drops_more [] t u b Done = Then b [] Done
drops_more (x ∷ xs) t u b (Then _ _ more) = Then x (xs ++ b ∷ []) (drops_more xs (uses_dropped t x) u b more)

pub drops_blocks : (bs : List ℕ) (t u : Tree) → DropsAll bs t u → u.block_parents ≡ t.block_parents
drops_blocks [] t u Done = refl
drops_blocks (x ∷ xs) t u (Then _ _ more) = drops_blocks xs (uses_dropped t x) u more

-- Sums over halves.
use Rattle.std.specs.Prelude.{zero, suc, ◌≡◌, ◌≤◌, ◌<◌, ◌+◌, ◌-◌, ◌/◌, ℕ, List, [], ◌∷◌, length, slice_index_or, slice_set}
use Rattle.std.specs.List.{All}

-- the sums of neighbours, two by two: the last one, if it has no neighbour, stays
abbrev pub pairs : List ℕ → List ℕ
pairs [] = []
pairs (x ∷ []) = x ∷ []
pairs (x ∷ y ∷ zs) = (x + y) ∷ pairs zs

-- each entry is 1 or 0
abbrev pub AreMarks : List ℕ → Type 0
AreMarks xs = All (λ x. x ≤ 1) xs

-- the marks are level 0
abbrev pub level : List (List ℕ) → ℕ → List ℕ
level levels k = slice_index_or levels k []

-- each level has the sums of pairs of the one below it, and the top level has one entry at most
pub record AreSums (levels : List (List ℕ)) : Type 0 where
  pub some : 0 < length levels
  pub lowest : AreMarks (level levels 0)
  pub each : (k : ℕ) → suc k < length levels → level levels (suc k) ≡ pairs (level levels k)
  pub top : length (level levels (length levels - 1)) ≤ 1

-- the list with one entry lowered by one
abbrev pub one_less : List ℕ → ℕ → List ℕ
one_less xs i = slice_set xs i (slice_index_or xs i 0 - 1)

-- the entry at a level whose sum includes a place
abbrev pub above : ℕ → ℕ → ℕ
above place zero = place
above place (suc k) = above place k / 2

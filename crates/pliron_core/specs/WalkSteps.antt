-- Words of the steps of a walk.
pub use Rattle.pliron_core.specs.Edges.{blocks_in}
use Rattle.std.specs.Prelude.{◌≡◌, ℕ, nat_eq, if◌then◌else◌, List, [], ◌∷◌, ◌++◌, drop, Option, Some, None}
use Rattle.std.specs.List.{flat_map}
use Rattle.pliron_core.specs.Lists.{first_of}
use Rattle.pliron_core.specs.Tree.{Tree, body_of, regions_of, block_parent_of}
use Rattle.pliron_core.specs.Walks.{children_of_region}

-- what a list has after the first `at`
abbrev pub rest_after : ℕ → List ℕ → List ℕ
rest_after at [] = []
rest_after at (y ∷ ys) = if nat_eq at y then ys else rest_after at ys

-- what a list has from `at` on: nothing, where there is no such place
abbrev pub rest_from : Option ℕ → List ℕ → List ℕ
rest_from None xs = []
rest_from (Some at) xs = at ∷ rest_after at xs

-- a block and those after it in its region
abbrev pub blocks_from : Tree → Option ℕ → List ℕ
blocks_from t None = []
blocks_from t (Some b) = b ∷ rest_after b (blocks_in t (block_parent_of t b))

-- the first operation of these blocks
abbrev pub first_in_blocks : Tree → Option ℕ → Option ℕ
first_in_blocks t from = first_of (flat_map (λ b. body_of t b) (blocks_from t from)) None

-- the first operation of the regions of op from this index on
abbrev pub first_in_regions : Tree → ℕ → ℕ → Option ℕ
first_in_regions t op index = first_of (flat_map (λ r. children_of_region t r) (drop index (regions_of t op))) None

-- the list contains the part, directly followed by `next`
abbrev pub IsFollowedBy : List ℕ → List ℕ → Option ℕ → Type 0
IsFollowedBy whole part next = (front : List ℕ) × (back : List ℕ) × (whole ≡ front ++ (part ++ back)) × (first_of back None ≡ next)

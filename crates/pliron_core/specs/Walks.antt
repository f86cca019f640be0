-- The operations inside an operation, in the order of a text.
use Rattle.std.specs.Prelude.{zero, suc, ◌≡◌, ◌↔◌, ℕ, List, [], ◌∷◌, length, Some}
use Rattle.std.specs.List.{flat_map}
use Rattle.pliron_core.specs.Lists.{In, IsDistinct}
use Rattle.pliron_core.specs.Tree.{Tree, IsInside, regions_of, layout_of, body_of, parent_operation_of}

-- the operations in the blocks of a region
abbrev pub children_of_region : Tree → ℕ → List ℕ
children_of_region t r = flat_map (λ b. body_of t b) (layout_of t r)

-- the operations directly inside op
abbrev pub children : Tree → ℕ → List ℕ
children t op = flat_map (λ r. children_of_region t r) (regions_of t op)

-- what is below x, n levels deep, where `below` lists what is directly below: each is followed by what is below
-- it
abbrev pub descend : (ℕ → List ℕ) → ℕ → ℕ → List ℕ
descend below zero x = []
descend below (suc n) x = flat_map (λ c. c ∷ descend below n c) (below x)

-- all operations inside op, each followed by its own contents; nothing is nested deeper than there
-- are operations
abbrev pub contents : Tree → ℕ → List ℕ
contents t op = descend (λ k. children t k) (length t.operations) op

-- op and its contents
abbrev pub preorder : Tree → ℕ → List ℕ
preorder t op = op ∷ contents t op

-- the contents are exactly the operations inside op, each once, and none of them is op itself
pub record HasExactContents (t : Tree) (op : ℕ) : Type 0 where
  pub direct : (k : ℕ) → In k (children t op) ↔ (parent_operation_of t k ≡ Some op)
  pub exact : (k : ℕ) → In k (contents t op) ↔ IsInside t op k
  pub once : IsDistinct (preorder t op)
  pub nested : contents t op ≡ flat_map (λ c. preorder t c) (children t op)

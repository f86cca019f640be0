-- A search numbering: what depth-first search from a list of roots answers, said without the search.
use Rattle.std.specs.Prelude.{◌≡◌, ℕ, ◌<◌, ◌⊎◌, ◌↔◌, Bool, IsTrue, List, Contains, slice_get, Some, length}
use Rattle.std.specs.List.{position_or_len, list_any}
use Rattle.pliron_graph_traversal.specs.Digraph.{Digraph, IsReached}

module _ {N : Type 0} (pre post : N → ℕ) where
  -- u encloses v
  abbrev pub Encloses : N → N → Type 0
  Encloses u v = (pre u < pre v) × (post v < post u)

  -- v is wholly later than u
  abbrev pub IsWhollyLater : N → N → Type 0
  IsWhollyLater u v = (pre u < pre v) × (post u < post v)

-- each node that P names has a number below count, and each number below count is that of exactly one
pub record Numbers {N : Type 0} (P : N → Type 0) (number : N → ℕ) (count : ℕ) : Type 0 where
  pub within : (v : N) → P v → number v < count
  pub each : (k : ℕ) → k < count → (v : N) × P v × (number v ≡ k)
  pub once : (u v : N) → P u → P v → number u ≡ number v → u ≡ v

-- v is first at index k of xs
abbrev pub IsFirstAt : {N : Type 0} → List N → N → ℕ → Type 0
IsFirstAt xs v k = (slice_get xs k ≡ Some v) × ((j : ℕ) → j < k → slice_get xs j ≡ Some v → ⊥)

module _ {N : Type 0} (g : Digraph N) (roots : List N) (pre post : N → ℕ) where
  -- p encloses v, and so does whatever encloses v inside p alone
  pub record IsNearest (p v : N) : Type 0 where
    pub reached : IsReached g roots p
    pub around : Encloses pre post p v
    pub nearest : (q : N) → IsReached g roots q → Encloses pre post q v → (q ≡ p) ⊎ Encloses pre post q p

  -- nothing encloses v
  abbrev pub IsTop : N → Type 0
  IsTop v = (q : N) → IsReached g roots q → Encloses pre post q v → ⊥

  -- each item of xs before the first v has a smaller number
  abbrev pub IsTakenInOrder : List N → N → Type 0
  IsTakenInOrder xs v = (k j : ℕ) (w : N) → IsFirstAt xs v k → j < k → slice_get xs j ≡ Some w → pre w < pre v

  pub record IsSearchNumbering (count : ℕ) : Type 0 where
    pub pre_numbers : Numbers (IsReached g roots) pre count
    pub post_numbers : Numbers (IsReached g roots) post count
    -- of two nodes that enclose a third, one encloses the other
    pub nested : (u v w : N) → IsReached g roots u → IsReached g roots v → IsReached g roots w → Encloses pre post u w → Encloses pre post v w → (u ≡ v) ⊎ Encloses pre post u v ⊎ Encloses pre post v u
    -- a node that nothing encloses is a root, and any other a successor of its nearest encloser
    pub parents : (v : N) → IsReached g roots v → (IsTop v × Contains roots v) ⊎ ((p : N) × IsNearest p v × Contains (g.succ p) v)
    -- no edge goes to a node that is wholly later
    pub no_later : (u v : N) → IsReached g roots u → Contains (g.succ u) v → IsWhollyLater pre post u v → ⊥
    -- successors are taken in order, and so are roots
    pub in_order : (p v : N) → IsReached g roots v → IsNearest p v → IsTakenInOrder (g.succ p) v
    pub roots_in_order : (v : N) → IsReached g roots v → IsTop v → IsTakenInOrder roots v

-- the nodes in two orders: as the search came to them, and as it left them
pub record Orders (N : Type 0) : Type 0 where
  pub pre : List N
  pub post : List N

-- the place of v in an order
abbrev pub number_in : {N : Type 0} → (N → N → Bool) → List N → N → ℕ
number_in eq xs v = position_or_len (eq v) xs

-- v is in an order
abbrev pub IsListed : {N : Type 0} → (N → N → Bool) → List N → N → Type 0
IsListed eq xs v = IsTrue (list_any (eq v) xs)

-- u is before v in an order
abbrev pub ComesBefore : {N : Type 0} → (N → N → Bool) → List N → N → N → Type 0
ComesBefore eq xs u v = number_in eq xs u < number_in eq xs v

-- the two orders list what the roots reach, each node once, by search number
pub record IsSearch {N : Type 0} (eq : N → N → Bool) (g : Digraph N) (roots : List N) (o : Orders N) : Type 0 where
  pub pre_listed : (v : N) → IsListed eq o.pre v ↔ IsReached g roots v
  pub post_listed : (v : N) → IsListed eq o.post v ↔ IsReached g roots v
  pub equal_lengths : length o.post ≡ length o.pre
  pub numbering : IsSearchNumbering g roots (number_in eq o.pre) (number_in eq o.post) (length o.pre)

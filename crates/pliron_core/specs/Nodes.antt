-- How nodes with links represent lists.
use Rattle.std.specs.Prelude.{◌≡◌, ℕ, zero, suc, ◌<◌, ◌≤◌, List, [], ◌∷◌, length, map, Option, Some, None, slice_index_or, slice_set}
pub use Rattle.pliron_core.specs.Lists.{In, IsDistinct}
use Rattle.pliron_core.specs.declared.links.Node.{Node}
use Rattle.pliron_core.specs.declared.links.Ends.{Ends}
use Rattle.pliron_core.specs.Keys.{key_limit}
use Rattle.pliron_core.specs.Lists.{first_of, last_of}

-- a node in no list
abbrev pub no_node : Node
no_node = record { owner = None; prev = None; next = None }

-- the ends of a list without nodes
abbrev pub no_ends : Ends
no_ends = record { head = None; tail = None }

-- the node at a key
abbrev pub node_at : List Node → ℕ → Node
node_at nodes x = slice_index_or nodes x no_node

-- the ends of a list
abbrev pub ends_at : List Ends → ℕ → Ends
ends_at ends l = slice_index_or ends l no_ends

-- the nodes from this one on by their links, so many at most
abbrev pub walk : List Node → ℕ → Option ℕ → List ℕ
walk nodes zero at = []
walk nodes (suc n) None = []
walk nodes (suc n) (Some x) = x ∷ walk nodes n (node_at nodes x).next

-- the nodes of each list in order, by the links
abbrev pub lists_of : List Node → List Ends → List (List ℕ)
lists_of nodes ends = map (λ e. walk nodes (length nodes) e.head) ends

-- for each node the list that has it
abbrev pub owners_of : List Node → List (Option ℕ)
owners_of nodes = map (λ n. n.owner) nodes

-- a node that is there, if one is named
abbrev pub InRange : List Node → Option ℕ → Type 0
InRange nodes None = Unit {0}
InRange nodes (Some x) = x < length nodes

-- another next node after this one, if one is named
abbrev pub with_next : List Node → Option ℕ → Option ℕ → List Node
with_next nodes None v = nodes
with_next nodes (Some x) v = slice_set nodes x (record (node_at nodes x) { next = v })

-- another node before this one, if one is named
abbrev pub with_prev : List Node → Option ℕ → Option ℕ → List Node
with_prev nodes None v = nodes
with_prev nodes (Some x) v = slice_set nodes x (record (node_at nodes x) { prev = v })

-- these nodes of the list `l` follow each other, between `before` and `after`
abbrev pub IsRow : List Node → ℕ → Option ℕ → List ℕ → Option ℕ → Type 0
IsRow nodes l before [] after = Unit {0}
IsRow nodes l before (x ∷ xs) after =
    (x < length nodes)
    × (node_at nodes x ≡ record { owner = Some l; prev = before; next = first_of xs after })
    × IsRow nodes l (Some x) xs after

-- these nodes are the list `l`, and none is there twice
pub record IsList (nodes : List Node) (l : ℕ) (ends : Ends) (xs : List ℕ) : Type 0 where
  pub head : ends.head ≡ first_of xs None
  pub tail : ends.tail ≡ last_of None xs
  pub row : IsRow nodes l None xs None
  pub distinct : IsDistinct xs

-- nodes and ends represent these lists, only nodes in a list are owned, and each list and each node has a key
pub record AreSoundLists (nodes : List Node) (ends : List Ends) (lists : List (List ℕ)) : Type 0 where
  pub count : length ends ≡ length lists
  pub each : (l : ℕ) → l < length ends → IsList nodes l (ends_at ends l) (slice_index_or lists l [])
  pub owned : (x l : ℕ) → (node_at nodes x).owner ≡ Some l → (l < length ends) × In x (slice_index_or lists l [])
  pub few : length ends ≤ key_limit
  pub few_nodes : length nodes ≤ key_limit

-- the list's first node, where nothing is before it
abbrev pub with_first : Ends → Option ℕ → Option ℕ → Ends
with_first e None v = record e { head = v }
with_first e (Some x) v = e

-- the list's last node, where nothing is after it
abbrev pub with_tail : Ends → Option ℕ → Option ℕ → Ends
with_tail e None v = record e { tail = v }
with_tail e (Some x) v = e

-- The mathematical graph that a control flow graph means in a context, its paths, and when it is lawful.
use Rattle.std.specs.Prelude.{◌≡◌, Bool, true, List, [], ◌∷◌, Option, IfSome, Contains, ◌↔◌}
use Rattle.std.specs.List.{IsDistinct}

pub record Digraph (N : Type 0) : Type 0 where
  -- the nodes, in listed order
  pub nodes : List N
  pub entry : Option N
  -- the successors of a node, by index, and its predecessors
  pub succ : N → List N
  pub pred : N → List N

-- Equal nodes are one, nodes are distinct, all that is named is a node, and predecessors are the inverse of successors.
pub record IsLawful {N : Type 0} (eq : N → N → Bool) (g : Digraph N) : Type 0 where
  pub same : (x y : N) → eq x y ≡ true → x ≡ y
  pub distinct : IsDistinct eq g.nodes
  pub entry_in : IfSome g.entry (λ v. Contains g.nodes v)
  pub succ_in : (u v : N) → Contains g.nodes u → Contains (g.succ u) v → Contains g.nodes v
  pub pred_in : (u v : N) → Contains g.nodes v → Contains (g.pred v) u → Contains g.nodes u
  pub inverse : (u v : N) → Contains g.nodes u → Contains g.nodes v → (Contains (g.pred v) u ↔ Contains (g.succ u) v)

-- a path: each next node is a successor of the one before
abbrev pub IsPath : {N : Type 0} → Digraph N → N → List N → N → Type 0
IsPath g u [] v = u ≡ v
IsPath g u (w ∷ ws) v = Contains (g.succ u) w × IsPath g w ws v

-- u reaches v, by a path that may have no edge
abbrev pub Reaches : {N : Type 0} → Digraph N → N → N → Type 0
Reaches {N} g u v = (ws : List N) × IsPath g u ws v

-- some root reaches v
abbrev pub IsReached : {N : Type 0} → Digraph N → List N → N → Type 0
IsReached {N} g roots v = (r : N) × Contains roots r × Reaches g r v

-- a cycle that the roots reach: a path with an edge from a node to itself
abbrev pub HasCycle : {N : Type 0} → Digraph N → List N → Type 0
HasCycle {N} g roots = (u v : N) × (ws : List N) × IsReached g roots u × IsPath g u (v ∷ ws) u

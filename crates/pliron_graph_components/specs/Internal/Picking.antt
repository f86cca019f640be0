-- The places of nodes that were listed last, which contracts inside the crate cite.
use Rattle.std.specs.Prelude.{ℕ, ◌<◌, ◌≤◌, Bool, List, length}
use Rattle.pliron_graph_traversal.specs.Search.{number_in}

-- v is at the place `first` or behind it
abbrev pub IsListedFrom : {N : Type 0} → (N → N → Bool) → List N → ℕ → N → Type 0
IsListedFrom eq xs first v = (first ≤ number_in eq xs v) × (number_in eq xs v < length xs)

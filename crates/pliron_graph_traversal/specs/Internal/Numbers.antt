-- Nodes by the numbers that they hash as, and a table of their places.
use Rattle.std.specs.Prelude.{◌≡◌, ⊤, ℕ, ◌+◌, ◌<◌, List, [], ◌∷◌, fold, get_or, if◌then◌else◌, length, nat_lt, slice_index}
use Rattle.std.specs.Int.{w32, from_le_bytes}
use Rattle.pliron_graph_traversal.specs.declared.node_set.LastNumber.{LastNumber}
use Rattle.pliron_graph_traversal.specs.declared.node_set.NodePlaces.{NodePlaces}
use Rattle.pliron_graph_traversal.specs.declared.node_set.NodePlaces.TheVariants.{Numbered, Hashed}

-- the first four bytes as a number, the lowest first; 0 of fewer
abbrev pub number_in_bytes : List ℕ → ℕ
number_in_bytes bytes = if nat_lt (length bytes) 4 then 0
    else from_le_bytes w32 (slice_index bytes 0 ∷ slice_index bytes 1 ∷ slice_index bytes 2 ∷ slice_index bytes 3 ∷ [])

abbrev pub after_write : LastNumber → List ℕ → LastNumber
after_write last bytes = record { number = number_in_bytes bytes }

-- the number that these writes of a hash end with
abbrev pub number_hashed : List (List ℕ) → ℕ
number_hashed writes = (fold after_write (record { number = 0 }) writes).number

-- at the number of each node one more than its place
abbrev pub GivesPlaces : {N : Type 0} → (N → List (List ℕ)) → List N → List ℕ → Type 0
GivesPlaces {N} input nodes marks = (k : ℕ) (d : N) → k < length nodes → get_or marks (number_hashed (input (get_or nodes k d))) 0 ≡ k + 1

abbrev pub nodes_of : {N : Type 0} → NodePlaces N → List N
nodes_of (Numbered nodes marks) = nodes.items
nodes_of (Hashed set) = set.keys

abbrev pub AreGiven : {N : Type 0} → (N → List (List ℕ)) → NodePlaces N → Type 0
AreGiven input (Numbered nodes marks) = GivesPlaces input nodes.items marks.items
AreGiven input (Hashed set) = ⊤

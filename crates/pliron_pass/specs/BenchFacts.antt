-- Facts of the blocks and operations inside an operation.
use Rattle.std.specs.Prelude.{◌≡◌, ℕ, zero, suc, ◌+◌, List, [], ◌∷◌, length, map, Bool, true, false, Option, Some, None, nat_eq, if◌then◌else◌}
use Rattle.std.specs.List.{flat_map}
use Rattle.pliron_core.specs.Lists.{first_of}
use Rattle.pliron_core.specs.Tree.{Tree, body_of, parent_of}
use Rattle.pliron_core.specs.Edges.{succs_of}
use Rattle.pliron_core.specs.Walks.{contents}
use Rattle.pliron_theory.specs.Edges.{edges_inside}
use Rattle.pliron_pass.specs.declared.bench_facts.BenchFactKind.{BenchFactKind}
use Rattle.pliron_pass.specs.declared.bench_facts.BenchFactKind.TheVariants.{Edges as KindEdges, Size as KindSize, Total as KindTotal}
use Rattle.pliron_pass.specs.declared.bench_facts.BenchFacts.{BenchFacts}
use Rattle.pliron_pass.specs.declared.bench_facts.BenchFacts.TheVariants.{Edges, Size, Total}

-- a block with each of its successors
abbrev pub pairs_of : ℕ × List ℕ → List (ℕ × ℕ)
pairs_of p = map (λ s. (p.0, s)) p.1

-- each block inside the operation with each of its successors, in pre-order and index order
abbrev pub edge_pairs : Tree → ℕ → List (ℕ × ℕ)
edge_pairs t op = flat_map pairs_of (edges_inside t op)

abbrev pub fact_kind : BenchFacts → BenchFactKind
fact_kind (Edges pairs) = KindEdges
fact_kind (Size count) = KindSize
fact_kind (Total count) = KindTotal

-- what a fact says of an operation in a tree
abbrev pub HoldsFact : BenchFacts → ℕ → Tree → Type 0
HoldsFact (Edges pairs) op t = pairs.items ≡ edge_pairs t op
HoldsFact (Size count) op t = count ≡ length (contents t op)
HoldsFact (Total count) op t = count ≡ length (edge_pairs t op) + length (contents t op)

abbrev pub fact_rank : BenchFactKind → ℕ
fact_rank KindEdges = 0
fact_rank KindSize = 0
fact_rank KindTotal = 1

abbrev pub fact_reads_edges_alone : BenchFactKind → Bool
fact_reads_edges_alone KindEdges = true
fact_reads_edges_alone KindSize = false
fact_reads_edges_alone KindTotal = false

-- a total is computed from the edges and then the size
abbrev pub fact_needs : BenchFactKind → ℕ
fact_needs KindEdges = 0
fact_needs KindSize = 0
fact_needs KindTotal = 2

abbrev pub fact_need : BenchFactKind → ℕ → BenchFactKind
fact_need k zero = KindEdges
fact_need k (suc i) = KindSize

-- how many pairs a fact lists, and how many operations it counts
abbrev pub pairs_in : Option BenchFacts → ℕ
pairs_in None = 0
pairs_in (Some (Edges pairs)) = length pairs.items
pairs_in (Some (Size count)) = 0
pairs_in (Some (Total count)) = 0

abbrev pub operations_in : Option BenchFacts → ℕ
operations_in None = 0
operations_in (Some (Edges pairs)) = 0
operations_in (Some (Size count)) = count
operations_in (Some (Total count)) = 0

-- whether a list begins with k
abbrev pub begins_with : ℕ → List ℕ → Bool
begins_with k [] = false
begins_with k (x ∷ xs) = nat_eq k x

-- the pairs of the block that an operation is the first of
abbrev pub pairs_led : Tree → ℕ → Option ℕ → List (ℕ × ℕ)
pairs_led t k None = []
pairs_led t k (Some b) = if begins_with k (body_of t b) then pairs_of (b, succs_of t b) else []

abbrev pub pairs_at : Tree → ℕ → List (ℕ × ℕ)
pairs_at t k = pairs_led t k (parent_of t k)

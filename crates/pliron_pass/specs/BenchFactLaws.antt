-- Laws of the facts of blocks and operations.
use Rattle.std.proofs.Common.{◌≡◌, ℕ, zero, suc, ◌<◌, ◌+◌, Bool, true, false, length, refl, sym, ap, ◌∙◌, arith}
use Rattle.std.proofs.lemmas.Bool.{false≢true}
use Rattle.std.specs.List.{flat_map}
use Rattle.pliron_core.specs.Tree.{Tree, IsLive}
use Rattle.pliron_core.specs.Invariant.{IsTree}
use Rattle.pliron_core.specs.Changes.{IsSameTree}
use Rattle.pliron_core.specs.Walks.{contents}
use Rattle.pliron_core.proofs.SameReadLemmas.{same_contents}
use Rattle.pliron_theory.specs.Edges.{edges_inside}
use Rattle.pliron_theory.proofs.EdgeLemmas.{edges_same}
use Rattle.pliron_pass.specs.BenchFacts.{pairs_of, edge_pairs, fact_kind, HoldsFact, fact_rank, fact_reads_edges_alone, fact_needs, fact_need}
use Rattle.pliron_pass.specs.declared.bench_facts.BenchFactKind.{BenchFactKind}
use Rattle.pliron_pass.specs.declared.bench_facts.BenchFactKind.TheVariants.{Edges as KindEdges, Size as KindSize, Total as KindTotal}
use Rattle.pliron_pass.specs.declared.bench_facts.BenchFacts.{BenchFacts}
use Rattle.pliron_pass.specs.declared.bench_facts.BenchFacts.TheVariants.{Edges, Size, Total}
use Rattle.pliron_pass.specs.contracts.bench_facts.BenchFactKindPartialEq.TheImpl.{ghosts as equality}

-- equal kinds are one
pub one_kind : (a b : BenchFactKind) → equality.eq a b ≡ true → a ≡ b
one_kind KindEdges KindEdges h = refl
one_kind KindEdges KindSize h = absurd (false≢true h)
one_kind KindEdges KindTotal h = absurd (false≢true h)
one_kind KindSize KindEdges h = absurd (false≢true h)
one_kind KindSize KindSize h = refl
one_kind KindSize KindTotal h = absurd (false≢true h)
one_kind KindTotal KindEdges h = absurd (false≢true h)
one_kind KindTotal KindSize h = absurd (false≢true h)
one_kind KindTotal KindTotal h = refl

-- a fact doesn't depend on erased handles
pub fact_stays : (e : BenchFacts) (o : ℕ) (t u : Tree) → IsTree t → IsTree u → IsSameTree t u → IsLive u o → HoldsFact e o t → HoldsFact e o u
fact_stays (Edges pairs) o t u wt wu s live h = h ∙ ap (flat_map pairs_of) (sym (edges_same t u o wt wu s))
fact_stays (Size count) o t u wt wu s live h = h ∙ ap length (sym (same_contents t u wt wu s o))
fact_stays (Total count) o t u wt wu s live h =
    h ∙ ap (λ es. length (flat_map pairs_of es) + length (contents t o)) (sym (edges_same t u o wt wu s)) ∙ ap (λ cs. length (edge_pairs u o) + length cs) (sym (same_contents t u wt wu s o))

-- facts of edges still hold while the edges stay
pub fact_keeps : (e : BenchFacts) (o : ℕ) (t u : Tree) → IsTree t → IsTree u → fact_reads_edges_alone (fact_kind e) ≡ true → IsLive t o → IsLive u o → edges_inside u o ≡ edges_inside t o → HoldsFact e o t → HoldsFact e o u
fact_keeps (Edges pairs) o t u wt wu reads before live s h = h ∙ ap (flat_map pairs_of) (sym s)
fact_keeps (Size count) o t u wt wu reads before live s h = absurd (false≢true reads)
fact_keeps (Total count) o t u wt wu reads before live s h = absurd (false≢true reads)

-- what is needed has a lower rank
pub needs_are_lower : (k : BenchFactKind) (i : ℕ) → i < fact_needs k → fact_rank (fact_need k i) < fact_rank k
needs_are_lower KindEdges i h = absurd (omega (arith, h))
needs_are_lower KindSize i h = absurd (omega (arith, h))
needs_are_lower KindTotal zero h = omega arith
needs_are_lower KindTotal (suc i) h = omega arith

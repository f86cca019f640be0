-- Edges inside an operation, and those inside one that it holds.
use Rattle.std.proofs.Common.{inl, inr, ℕ, sym, subst}
use Rattle.pliron_core.specs.Tree.{Tree, IsInside, IsWithin}
use Rattle.pliron_core.proofs.HoldingLemmas.{deeper}
use Rattle.pliron_laws.specs.Linked.{EdgesLast}

within_within : (t : Tree) (root h p : ℕ) → IsWithin t root h → IsWithin t h p → IsWithin t root p
within_within t root h p u (inl e) = subst (IsWithin t root) (sym e) u
within_within t root h p (inl e) (inr i) = inr (subst (λ z. IsInside t z p) e i)
within_within t root h p (inr j) (inr i) = inr (deeper j i)

pub edges_within : (t : Tree) (root h : ℕ) → EdgesLast t root → IsWithin t root h → EdgesLast t h
edges_within t root h edges (inl e) k s i u = subst (EdgesLast t) (sym e) edges k s i u
edges_within t root h edges (inr j) k s i (inl u) = edges k s i (inl (deeper j u))
edges_within t root h edges (inr j) k s i (inr held) = edges k s i (inr (held.0, held.1, within_within t root h held.0 (inr j) held.2))

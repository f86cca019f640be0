-- The work that is left of a search, which falls at each step.
use Rattle.std.proofs.Common.{◌≡◌, ℕ, ◌+◌, ◌<◌, ◌≤◌, Bool, true, false, ◌||◌, cond, List, [], ◌∷◌, ◌++◌, length, sym, subst, arith, inl, inr, Contains, sum_by}
use Rattle.std.specs.List.{list_any}
use Rattle.std.proofs.lemmas.List.Sums.{sum_by-cons, sum_by_push}
use Rattle.pliron_graph_traversal.specs.Digraph.{Digraph}
use Rattle.pliron_graph_traversal.specs.Internal.Steps.{weight, stacked, work}
use Rattle.pliron_graph_traversal.specs.Internal.Membership.{HasMember, in_from, any_append}

module _ {N : Type 0} (eq : N → N → Bool) (g : Digraph N) where
  weight_le : (seen : List N) (w v : N) → weight eq g (seen ++ w ∷ []) v ≤ weight eq g seen v
  weight_le seen w v = rw (any_append eq v seen (w ∷ [])) (by (list_any (eq v) seen) (eq v w))
    where
      by : (a b : Bool) → cond (a || (b || false)) 0 (length (g.succ v) + 2) ≤ cond a 0 (length (g.succ v) + 2)
      by true b = omega arith
      by false true = omega arith
      by false false = omega arith

  pub total_le : (seen : List N) (w : N) (ns : List N) → sum_by (weight eq g (seen ++ w ∷ [])) ns ≤ sum_by (weight eq g seen) ns
  total_le seen w [] = omega arith
  total_le seen w (n ∷ ns) = omega (arith, sum_by-cons (weight eq g seen) n ns, sum_by-cons (weight eq g (seen ++ w ∷ [])) n ns, weight_le seen w n, total_le seen w ns)

  weight_new : (seen : List N) (w : N) → list_any (eq w) seen ≡ false → eq w w ≡ true → weight eq g (seen ++ w ∷ []) w + (length (g.succ w) + 2) ≤ weight eq g seen w
  weight_new seen w unseen e = rw (any_append eq w seen (w ∷ []), unseen, e) (omega arith)

  pub total_new : (seen : List N) (w : N) (ns : List N) → HasMember ns w → list_any (eq w) seen ≡ false → eq w w ≡ true
      → sum_by (weight eq g (seen ++ w ∷ [])) ns + (length (g.succ w) + 2) ≤ sum_by (weight eq g seen) ns
  total_new seen w [] h unseen e = absurd h
  total_new seen w (n ∷ ns) (inl same) unseen e =
      let k : weight eq g (seen ++ w ∷ []) n + (length (g.succ w) + 2) ≤ weight eq g seen n =
      subst (λ x. weight eq g (seen ++ w ∷ []) x + (length (g.succ w) + 2) ≤ weight eq g seen x) (sym same) (weight_new seen w unseen e) in
      omega (arith, sum_by-cons (weight eq g seen) n ns, sum_by-cons (weight eq g (seen ++ w ∷ [])) n ns, k, total_le seen w ns)
  total_new seen w (n ∷ ns) (inr h) unseen e =
      omega (arith, sum_by-cons (weight eq g seen) n ns, sum_by-cons (weight eq g (seen ++ w ∷ [])) n ns, weight_le seen w n, total_new seen w ns h unseen e)

  pub falls_skipped : (es : List (N × ℕ)) (v : N) (i : ℕ) (seen : List N) → i < length (g.succ v) → work eq g (es ++ (v, i + 1) ∷ []) seen < work eq g (es ++ (v, i) ∷ []) seen
  unfolding work
  falls_skipped es v i seen l = omega (arith, sum_by_push (stacked eq g) es (v, i), sum_by_push (stacked eq g) es (v, i + 1))

  pub falls_visited : (es : List (N × ℕ)) (v w : N) (i : ℕ) (seen : List N) → i < length (g.succ v) → Contains g.nodes w → list_any (eq w) seen ≡ false → eq w w ≡ true
      → work eq g ((es ++ (v, i + 1) ∷ []) ++ (w, 0) ∷ []) (seen ++ w ∷ []) < work eq g (es ++ (v, i) ∷ []) seen
  unfolding work
  falls_visited es v w i seen l m unseen e = omega (arith, sum_by_push (stacked eq g) es (v, i), sum_by_push (stacked eq g) es (v, i + 1), sum_by_push (stacked eq g) (es ++ (v, i + 1) ∷ []) (w, 0), total_new seen w g.nodes (in_from g.nodes w m) unseen e)

  pub falls_left : (es : List (N × ℕ)) (v : N) (i : ℕ) (seen : List N) → work eq g es seen < work eq g (es ++ (v, i) ∷ []) seen
  unfolding work
  falls_left es v i seen = omega (arith, sum_by_push (stacked eq g) es (v, i))

-- Reading the graph of a region off the tree.
use Rattle.std.proofs.Common.{◌≡◌, ◌⊎◌, ℕ, suc, ◌+◌, ◌<◌, ◌≤◌, Bool, true, ◌&&◌, List, [], ◌∷◌, ◌++◌, length, Option, Some, None, refl, sym, ap, ◌∙◌, subst, inl, inr, arith, Contains, nat_eq, append_assoc}
use Rattle.std.proofs.Math.Bool.{and-true}
use Rattle.std.specs.List.{slice_get, dedup, AllPairs}
use Rattle.std.specs.List.Sorted.{IsPermutation, IsSorted}
use Rattle.std.specs.List.Retain.{IsFiltered, DiffersFromLast}
use Rattle.std.specs.Ordering.{nat_cmp}
use Rattle.std.specs.Cmp.{IsEquivalence, unsigned_tied}
use Rattle.std.proofs.lemmas.Bool.{cases_order}
use Rattle.std.proofs.lemmas.Cmp.{nat_cmp_total, nat_eq_equiv}
use Rattle.std.proofs.lemmas.List.Filters.{dedup_is}
use Rattle.std.proofs.lemmas.List.Kept.{Contains-dedup, Contains-from_dedup, IsStrictlySortedBy-dedup, AllPairs-from_increasing}
use Rattle.std.proofs.lemmas.Map.Keys.{IsStrictlyIncreasing-from_sorted}
use Rattle.std.proofs.lemmas.List.Sorted.{Contains-permutation, IsPermutation-sym}
use Rattle.std.proofs.lemmas.Option.{none-some, same_Some, slice_get_within}
use Rattle.pliron_core.specs.declared.uses.Use.{Use}
use Rattle.pliron_laws.specs.Linked.{EdgesLast}
use Rattle.pliron_laws.proofs.RisingLemmas.{rising_same}
use Rattle.pliron_core.specs.Tree.{Tree, View, In, IsRising, IsBlock, IsRegion, IsWithin, uses_of, up_from, successors_of, parent_of, block_parent_of, layout_of, region_parent_of, first_of, last_of, body_of, block_parent_operation_of}
use Rattle.pliron_core.specs.Invariant.{IsTree, HaveUses}
use Rattle.pliron_core.specs.Reads.{next_block_of}
use Rattle.pliron_core.specs.Edges.{preds_of}
use Rattle.pliron_core.specs.WalkSteps.{rest_from}
use Rattle.pliron_core.proofs.ListLemmas.{In-left, In-right, In-cases}
use Rattle.pliron_core.proofs.MemberLemmas.{in_slice, in_at}
use Rattle.pliron_core.proofs.NextLemmas.{rest_from-first, rest_from-step}
use Rattle.pliron_core.proofs.WalkLemmas.{inside_within}
use Rattle.pliron_core.proofs.ContainedLemmas.{next_in_layout}
use Rattle.pliron_core.proofs.EdgeLemmas.{preds-rising, pred-source, source-pred}
use Rattle.pliron_graph_traversal.specs.Regions.{IsLawfulRegion}
use Rattle.pliron_graph_traversal.specs.Internal.Sources.{HasEdgeTo, AreSources, AreSourcesSoFar}
use Rattle.pliron_graph_traversal.specs.Internal.RegionLawful.{in_keys, keys_have, owned, same_key}

-- a list that is gone through by what comes next: what is done, and the rest from here on
pub listed_first : (xs : List ℕ) (o : Option ℕ) → o ≡ first_of xs None → [] ++ rest_from o xs ≡ xs
listed_first [] o e = ap (λ z. rest_from z []) e
listed_first (x ∷ xs) o e = ap (λ z. rest_from z (x ∷ xs)) e ∙ rest_from-first x xs

pub listed_in : (xs done : List ℕ) (x : ℕ) → done ++ rest_from (Some x) xs ≡ xs → In x xs
listed_in xs done x e = subst (In x) e (In-right x done (rest_from (Some x) xs) (inl refl))

module _ (t : Tree) (w : IsTree t) (r b : ℕ) (done : List ℕ) (o : Option ℕ) (e : done ++ rest_from (Some b) (layout_of t r) ≡ layout_of t r) (next : o ≡ next_block_of t b) where
  step : rest_from (Some b) (layout_of t r) ≡ b ∷ rest_from o (layout_of t r)
  step =
      let i = listed_in (layout_of t r) done b e in
      rest_from-step (layout_of t r) b o (w.layouts.distinct r) i (next ∙ next_in_layout t w b r i)

  pub listed_next : (done ++ b ∷ []) ++ rest_from o (layout_of t r) ≡ layout_of t r
  listed_next = append_assoc done (b ∷ []) (rest_from o (layout_of t r)) ∙ ap (λ ys. done ++ ys) (sym step) ∙ e

  pub listed_smaller : length (rest_from o (layout_of t r)) < length (rest_from (Some b) (layout_of t r))
  listed_smaller = omega (arith, ap length step)

-- the sources of a block, by its uses
pub found_none : (v : View) (b : ℕ) → AreSourcesSoFar v b 0 []
found_none v b = record { lead = λ a i. absurd i; all = λ k a one lt e p. absurd (omega arith) }

module _ (v : View) (b i user place : ℕ) (xs : List ℕ) (u : HaveUses v) (f : AreSourcesSoFar v b i xs) (listed : slice_get (uses_of v.block_uses b) i ≡ Some (record { user = user; place = place })) where
  -- each use before the next one is one before this one, or this one
  cases : (k a : ℕ) (one : Use) → k < i + 1 → slice_get (uses_of v.block_uses b) k ≡ Some one → parent_of v.tree one.user ≡ Some a → In a xs ⊎ (parent_of v.tree user ≡ Some a)
  cases k a one lt e p =
      elim (cases_order k i) [
        | inl same ↦
            let this : one ≡ record { user = user; place = place } = same_Some one (record { user = user; place = place }) (sym e ∙ ap (slice_get (uses_of v.block_uses b)) same ∙ listed) in
            inr (subst (λ z. parent_of v.tree z.user ≡ Some a) this p)
        | inr h ↦ elim h [ inl below ↦ inl (f.all k a one below e p) | inr above ↦ absurd (omega arith) ]
      ]

  pub found_same : (o : Option ℕ) → o ≡ None → o ≡ parent_of v.tree user → AreSourcesSoFar v b (i + 1) xs
  found_same o none e = record {
    lead = f.lead;
    all = λ k a one lt g p. elim (cases k a one lt g p) [ inl j ↦ j | inr q ↦ absurd (none-some a (sym none ∙ e ∙ q)) ];
  }

  pub found_more : (s : ℕ) → Some s ≡ parent_of v.tree user → AreSourcesSoFar v b (i + 1) (xs ++ s ∷ [])
  found_more s e = record {
    lead = λ a j.
        elim (In-cases a xs (s ∷ []) j) [
          | inl old ↦ f.lead a old
          | inr new ↦
              elim new [
                | inl same ↦ (user, sym e ∙ ap Some (sym same), in_slice (successors_of v.tree user) place b (u.block_uses.listed b i (record { user = user; place = place }) listed))
                | inr out ↦ absurd out
              ]
        ];
    all = λ k a one lt g p.
        elim (cases k a one lt g p) [ inl j ↦ In-left a xs (s ∷ []) j | inr q ↦ In-right a xs (s ∷ []) (inl (same_Some a s (sym q ∙ sym e))) ];
  }

pub found_all : (v : View) (b n : ℕ) (xs : List ℕ) → HaveUses v → AreSourcesSoFar v b n xs → length (uses_of v.block_uses b) ≤ n → AreSources v.tree b xs
found_all v b n xs u f whole a = (
  f.lead a,
  λ l.
      let at = in_at (successors_of v.tree l.0) b l.2 in
      let one : Use = record { user = l.0; place = at.0 } in
      let listed = u.block_uses.complete l.0 at.0 b at.1 in
      let within : listed.0 < length (uses_of v.block_uses b) = slice_get_within (uses_of v.block_uses b) listed.0 one listed.1 in
      let below : listed.0 < n = omega arith in
      f.all listed.0 a one below listed.1 l.1,
)

-- in a lawful region the sources are the predecessors
module _ (t : Tree) (r : ℕ) (h : IsLawfulRegion t r) (b : ℕ) (node : Contains (layout_of t r) b) where
  pub pred_leads : (a : ℕ) → In a (preds_of t b) → HasEdgeTo t a b
  pred_leads a i = let s = pred-source t h.tree b a i in (s.0, s.2.parent, in_slice (successors_of t s.0) s.1 b s.3)

  pub source_pred : (a : ℕ) → IsBlock t b → HasEdgeTo t a b → In a (preds_of t b)
  source_pred a live l =
      let own = owned t r h b node in
      let up : block_parent_operation_of t b ≡ Some h.holder = ap (λ o. up_from o (λ z. region_parent_of t z)) own ∙ h.held in
      let ends = h.edges l.0 b l.2 (inr (h.holder, up, inl refl)) in
      let here : ends.block ≡ a = same_Some ends.block a (sym ends.in_block ∙ l.1) in
      let at = in_at (successors_of t l.0) b l.2 in
      source-pred t h.tree b l.0 at.0 a live (record {
        parent = l.1;
        last = subst (λ z. last_of None (body_of t z) ≡ Some l.0) here ends.last;
        beside = subst (λ z. block_parent_of t z ≡ block_parent_of t b) here (sym (ends.own_region b l.2));
      }) at.1

-- keys that are sorted, each once
abbrev pub key_eq : ℕ → ℕ → Bool
key_eq x y = nat_eq x y && true

key_equivalence : IsEquivalence key_eq
key_equivalence = record {
  refl = λ x. and-true (nat_eq x x) ∙ nat_eq_equiv.refl x;
  symm = λ x y. and-true (nat_eq x y) ∙ nat_eq_equiv.symm x y ∙ sym (and-true (nat_eq y x));
  congr = λ x y z e. and-true (nat_eq x z) ∙ nat_eq_equiv.congr x y z (sym (and-true (nat_eq x y)) ∙ e) ∙ sym (and-true (nat_eq y z));
}

rising_of : (xs : List ℕ) → AllPairs (λ x y. x < y) xs → IsRising xs
rising_of [] p = tt
rising_of (x ∷ xs) p = (
  λ y i. let at = keys_have xs y i in subst (λ z. x < z) at.2 (p 0 (suc at.0) y (omega arith) (omega (arith, at.1))),
  rising_of xs (λ i j d l m. p (suc i) (suc j) d (omega (arith, l)) (omega (arith, m))),
)

once_rising : (ys : List ℕ) → IsSorted nat_cmp ys → IsRising (dedup key_eq ys)
once_rising ys sorted =
    rising_of (dedup key_eq ys) (AllPairs-from_increasing (dedup key_eq ys) (IsStrictlyIncreasing-from_sorted (dedup key_eq ys) (IsStrictlySortedBy-dedup nat_cmp_total (λ x y. and-true (nat_eq x y) ∙ sym (unsigned_tied x y)) ys sorted)))

once_same : (xs ys : List ℕ) → IsPermutation xs ys → (z : ℕ) → In z (dedup key_eq ys) → In z xs
once_same xs ys p z i =
    in_keys xs z (Contains-permutation ys xs z (IsPermutation-sym xs ys p) (Contains-from_dedup key_eq ys z (keys_have (dedup key_eq ys) z i)))

same_once : (xs ys : List ℕ) → IsPermutation xs ys → (z : ℕ) → In z xs → In z (dedup key_eq ys)
same_once xs ys p z i =
    in_keys (dedup key_eq ys) z (Contains-dedup key_equivalence same_key ys z (Contains-permutation xs ys z p (keys_have xs z i)))

-- the sources of a block of a lawful region, sorted and each once, are its predecessors
pub sorted_preds : (t : Tree) (r : ℕ) → IsLawfulRegion t r → (b : ℕ) → Contains (layout_of t r) b → IsBlock t b → (xs ys zs : List ℕ) → AreSources t b xs → IsPermutation xs ys → IsSorted nat_cmp ys → IsFiltered (DiffersFromLast key_eq) [] ys zs → zs ≡ preds_of t b
sorted_preds t r h b node live xs ys zs sources moved sorted kept =
    dedup_is key_eq ys zs kept
    ∙ rising_same (dedup key_eq ys) (preds_of t b) (once_rising ys sorted) (preds-rising t h.tree b)
    (λ z i. source_pred t r h b node z live ((sources z).0 (once_same xs ys moved z i)))
    (λ z i. same_once xs ys moved z ((sources z).1 (pred_leads t r h b node z i)))

-- for callers: where edges stand last in a root, they do in each operation within it, so that each of
-- its regions may be read as a graph
edges_within : (t : Tree) (root op : ℕ) → IsWithin t root op → EdgesLast t root → EdgesLast t op
edges_within t root op within edges k s i held =
    edges k s i (elim held [ inl u ↦ inl (inside_within t root op k within u) | inr b ↦ inr (b.0, b.1, wider b.0 b.2) ])
  where
    wider : (x : ℕ) → IsWithin t op x → IsWithin t root x
    wider x (inl e) = subst (IsWithin t root) (sym e) within
    wider x (inr u) = inr (inside_within t root op x within u)

pub lawful_within : (t : Tree) → IsTree t → (root r p : ℕ) → IsRegion t r → region_parent_of t r ≡ Some p → IsWithin t root p → EdgesLast t root → IsLawfulRegion t r
lawful_within t w root r p liveness held within edges =
    record { tree = w; liveness = liveness; holder = p; held = held; edges = edges_within t root p within edges }

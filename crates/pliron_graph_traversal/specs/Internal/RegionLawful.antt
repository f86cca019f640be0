-- The graph of a region is lawful.
use Rattle.std.proofs.Common.{◌≡◌, ℕ, zero, suc, Bool, true, false, List, [], ◌∷◌, Option, Some, None, refl, sym, ap, ◌∙◌, subst, inl, inr, arith, Contains, IfSome, nat_eq, ◌&&◌}
use Rattle.std.specs.List.{AllByRecursion, IsDistinct}
use Rattle.std.proofs.lemmas.Bool.{eqb-true, and_parts, cases_Bool}
use Rattle.std.proofs.lemmas.Option.{same_Some}
use Rattle.pliron_core.specs.Tree.{Tree, In, IsBlock, up_from, parent_of, body_of, block_parent_of, layout_of, first_of, last_of, region_parent_of, block_parent_operation_of, parent_operation_of}
use Rattle.pliron_core.specs.Tree.IsInside.{Directly}
use Rattle.pliron_core.specs.Lists.{IsDistinct as Distinct}
use Rattle.pliron_core.specs.Edges.{succs_from, succs_of, preds_of, leads_to, blocks_in}
use Rattle.pliron_core.proofs.ReadLemmas.{In-last, In-block}
use Rattle.pliron_core.proofs.MemberLemmas.{in_slice, in_at}
use Rattle.pliron_core.proofs.FilterLemmas.{In-filter, In-filtered, any_at, at_any}
use Rattle.pliron_graph_traversal.specs.Digraph.{IsLawful}
use Rattle.pliron_graph_traversal.specs.Regions.{graph_of_region, IsLawfulRegion}

-- members of a list of handles
pub in_keys : (xs : List ℕ) (v : ℕ) → Contains xs v → In v xs
in_keys [] v (k, l, e) = absurd (omega (arith, l))
in_keys (x ∷ xs) v (zero, l, e) = inl (sym e)
in_keys (x ∷ xs) v (suc k, l, e) = inr (in_keys xs v (k, omega (arith, l), e))

pub keys_have : (xs : List ℕ) (v : ℕ) → In v xs → Contains xs v
keys_have [] v i = absurd i
keys_have (x ∷ xs) v (inl e) = (zero, omega arith, sym e)
keys_have (x ∷ xs) v (inr i) = let r = keys_have xs v i in (suc r.0, omega (arith, r.1), r.2)

-- equal handles are one
pub same_key : (x y : ℕ) → (nat_eq x y && true) ≡ true → x ≡ y
same_key x y e = eqb-true x y (and_parts (nat_eq x y) true e).0

first_in : (xs : List ℕ) → IfSome (first_of xs None) (λ v. Contains xs v)
first_in [] = tt
first_in (x ∷ xs) = keys_have (x ∷ xs) x (inl refl)

-- a block is led to exactly if it is a successor
pub led : (t : Tree) (b a : ℕ) → leads_to t b a ≡ true → In b (succs_of t a)
led t b a e = let q = any_at (succs_of t a) b e in in_slice (succs_of t a) q.0 b q.1

pub leads_to_target : (t : Tree) (b a : ℕ) → In b (succs_of t a) → leads_to t b a ≡ true
leads_to_target t b a i = let q = in_at (succs_of t a) b i in at_any (succs_of t a) b q.0 q.1

module _ (eq : ℕ → ℕ → Bool) (same : (x y : ℕ) → eq x y ≡ true → x ≡ y) where
  apart : (x : ℕ) (ys : List ℕ) → (In x ys → ⊥) → AllByRecursion (λ y. eq x y ≡ false) ys
  apart x [] out = tt
  apart x (y ∷ ys) out = (
    elim (cases_Bool (eq x y)) [ inl e ↦ absurd (out (inl (same x y e))) | inr e ↦ e ],
    apart x ys (λ i. out (inr i)),
  )

  distinct : (xs : List ℕ) → Distinct xs → IsDistinct eq xs
  unfolding IsDistinct
  distinct [] d = tt
  distinct (x ∷ xs) d = (apart x xs d.0, distinct xs d.1)

module _ (t : Tree) (r : ℕ) (h : IsLawfulRegion t r) where
  pub owned : (b : ℕ) → Contains (layout_of t r) b → block_parent_of t b ≡ Some r
  owned b c = h.tree.layouts.owned b r (in_keys (layout_of t r) b c)

  -- a node is a live block
  pub node_is_live : (b : ℕ) → Contains (layout_of t r) b → IsBlock t b
  node_is_live b c = In-block t h.tree r b (in_keys (layout_of t r) b c)

  -- the successors of a block of the region are blocks of the region
  succ_owned : (u v : ℕ) → block_parent_of t u ≡ Some r → In v (succs_of t u) → block_parent_of t v ≡ Some r
  succ_owned u v p i = go (last_of None (body_of t u)) refl i
    where
      go : (o : Option ℕ) → last_of None (body_of t u) ≡ o → In v (succs_from t o) → block_parent_of t v ≡ Some r
      go None e i = absurd i
      go (Some k) e i =
          let placed : parent_of t k ≡ Some u = h.tree.bodies.owned k u (In-last (body_of t u) k e) in
          let up : parent_operation_of t k ≡ Some h.holder = ap (λ o. up_from o (λ b. block_parent_operation_of t b)) placed ∙ ap (λ o. up_from o (λ z. region_parent_of t z)) p ∙ h.held in
          let ends = h.edges k v i (inl (Directly up)) in
          let here : ends.block ≡ u = same_Some ends.block u (sym ends.in_block ∙ placed) in
          ends.own_region v i ∙ ap (λ b. block_parent_of t b) here ∙ p

  -- the predecessors are among the blocks of the region
  pub preds_among : (v : ℕ) → Contains (layout_of t r) v → blocks_in t (block_parent_of t v) ≡ layout_of t r
  preds_among v c = ap (λ o. blocks_in t o) (owned v c)

  pred_in : (u v : ℕ) → Contains (layout_of t r) v → Contains (preds_of t v) u → Contains (layout_of t r) u
  pred_in u v c p =
      let i = In-filter (λ a. leads_to t v a) (blocks_in t (block_parent_of t v)) u (in_keys (preds_of t v) u p) in
      keys_have (layout_of t r) u (subst (λ xs. In u xs) (preds_among v c) i.0)

  led_to : (u v : ℕ) → Contains (preds_of t v) u → Contains (succs_of t u) v
  led_to u v p =
      keys_have (succs_of t u) v (led t v u (In-filter (λ a. leads_to t v a) (blocks_in t (block_parent_of t v)) u (in_keys (preds_of t v) u p)).1)

  leads_from : (u v : ℕ) → Contains (layout_of t r) u → Contains (layout_of t r) v → Contains (succs_of t u) v → Contains (preds_of t v) u
  leads_from u v a c s =
      let here : In u (blocks_in t (block_parent_of t v)) = subst (λ xs. In u xs) (sym (preds_among v c)) (in_keys (layout_of t r) u a) in
      keys_have (preds_of t v) u (In-filtered (λ z. leads_to t v z) (blocks_in t (block_parent_of t v)) u here (leads_to_target t v u (in_keys (succs_of t u) v s)))

  pub region_lawful : (eq : ℕ → ℕ → Bool) → ((x y : ℕ) → eq x y ≡ true → x ≡ y) → IsLawful eq (graph_of_region t r)
  region_lawful eq same = record {
    same = same;
    distinct = distinct eq same (layout_of t r) (h.tree.layouts.distinct r);
    entry_in = first_in (layout_of t r);
    succ_in = λ u v a s. keys_have (layout_of t r) v (h.tree.layouts.listed v r (succ_owned u v (owned u a) (in_keys (succs_of t u) v s)));
    pred_in = pred_in;
    inverse = λ u v a c. (led_to u v, leads_from u v a c);
  }

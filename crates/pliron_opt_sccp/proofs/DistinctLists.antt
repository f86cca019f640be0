-- The blocks inside an operation, and the values that these and the operations inside it list.
pub use Rattle.pliron_opt_sccp.specs.Inside.{block_values}
use Rattle.std.proofs.Common.{◌≡◌, ◌⊎◌, ℕ, zero, suc, ◌<◌, List, ◌∷◌, length, Option, Some, None, is_some, refl, sym, ap, ◌∙◌, subst, inl, inr, arith}
use Rattle.std.specs.List.{flat_map}
use Rattle.pliron_core.specs.declared.context.Def.TheVariants.{Result, Argument}
use Rattle.pliron_core.specs.Lists.{In, IsDistinct}
use Rattle.pliron_core.specs.Tree.{Tree, IsLive, IsBlock, IsInside, IsWithin, up_from, regions_of, results_of, parent_of, body_of, arguments_of, block_parent_of, layout_of, region_parent_of, op_of_slot, block_parent_operation_of, parent_operation_of, definition_of}
use Rattle.pliron_core.specs.Tree.IsInside.{Directly, Deeper}
use Rattle.pliron_core.specs.Walks.{contents, preorder}
use Rattle.pliron_core.specs.Invariant.{IsTree}
use Rattle.pliron_core.proofs.ListLemmas.{In-cases, distinct-join, distinct-length}
use Rattle.pliron_core.proofs.FlatLemmas.{flat_map-In, flat_map-same, distinct-flat_map, slice_get-In, distinct-indices}
use Rattle.pliron_core.proofs.WalkLemmas.{inside_from, not_inside-itself, children_apart, distinct-regions, contents-shorter, distinct-preorder, In-preorder, within_live, live_within}
use Rattle.pliron_opt_sccp.specs.Chain.{blocks_to_depth, blocks_inside}

-- a block, and the blocks n levels deep inside its operations
abbrev pub from_block : Tree → ℕ → ℕ → List ℕ
from_block t n b = b ∷ flat_map (λ k. blocks_to_depth t n k) (body_of t b)

-- these of each block of a region
abbrev pub from_region : Tree → ℕ → ℕ → List ℕ
from_region t n r = flat_map (λ b. from_block t n b) (layout_of t r)

some_is : {a b : ℕ} → Some a ≡ Some b → a ≡ b
some_is e = cc

-- what holds a block that stands here: an operation at or inside the one that is asked
abbrev IsHeldWithin : Tree → ℕ → ℕ → Type 0
IsHeldWithin t x z = (m : ℕ) × (block_parent_operation_of t z ≡ Some m) × IsWithin t x m

module _ (t : Tree) (w : IsTree t) where
  -- a block of a region of x is held by x
  pub held_directly : (x r b : ℕ) → In r (regions_of t x) → In b (layout_of t r) → block_parent_operation_of t b ≡ Some x
  held_directly x r b i j =
      let s = slice_get-In r (regions_of t x) i in
      ap (λ o. up_from o (λ q. region_parent_of t q)) (w.layouts.owned b r j) ∙ ap op_of_slot (w.joined.regions x s.0 r s.1)

  -- an operation of a block is held by what holds the block
  pub held_by : (b k : ℕ) (x : ℕ) → block_parent_operation_of t b ≡ Some x → In k (body_of t b) → parent_operation_of t k ≡ Some x
  held_by b k x e i = ap (λ o. up_from o (λ q. block_parent_operation_of t q)) (w.bodies.owned k b i) ∙ e

  up_within : (x k m : ℕ) → parent_operation_of t k ≡ Some x → IsWithin t k m → IsInside t x m
  up_within x k m e (inl s) = subst (IsInside t x) (sym s) (inside_from t x k x e (inl refl))
  up_within x k m e (inr u) = go m u
    where
      go : (m : ℕ) → IsInside t k m → IsInside t x m
      go m (Directly f) = Deeper k f (inside_from t x k x e (inl refl))
      go m (Deeper p f v) = Deeper p f (go p v)

  -- where a block in the part of b stands: it is b, or an operation of b holds it at some depth
  abbrev IsFrom : ℕ → ℕ → Type 0
  IsFrom b z = (z ≡ b) ⊎ ((k : ℕ) × In k (body_of t b) × IsHeldWithin t k z)

  from_is : (n b z : ℕ) → ((k y : ℕ) → In y (blocks_to_depth t n k) → IsHeldWithin t k y) → In z (from_block t n b) → IsFrom b z
  from_is n b z held (inl e) = inl e
  from_is n b z held (inr i) = let r = flat_map-In (λ k. blocks_to_depth t n k) (body_of t b) z i in inr (r.0, r.1, held r.0 z r.2)

  -- a block inside x is held by x or by what is inside it
  pub below_held : (n x z : ℕ) → In z (blocks_to_depth t n x) → IsHeldWithin t x z
  below_held zero x z i = absurd i
  below_held (suc n) x z i =
      let r = flat_map-In (λ r. from_region t n r) (regions_of t x) z i in
      let b = flat_map-In (λ b. from_block t n b) (layout_of t r.0) z r.2 in
      let held = held_directly x r.0 b.0 r.1 b.1 in
      elim (from_is n b.0 z (below_held n) b.2) [
        | inl e ↦ (x, subst (λ y. block_parent_operation_of t y ≡ Some x) (sym e) held, inl refl)
        | inr f ↦ (f.2.0, f.2.1, inr (up_within x f.0 f.2.0 (held_by b.0 f.0 x held f.1) f.2.2))
      ]

  pub inside_block : (x z : ℕ) → In z (blocks_inside t x) → IsBlock t z
  inside_block x z i = let r = below_held (length t.operations) x z i in liveness (block_parent_of t z) refl r.0 r.1
    where
      liveness : (o : Option ℕ) → block_parent_of t z ≡ o → (m : ℕ) → block_parent_operation_of t z ≡ Some m → IsBlock t z
      liveness None e m h = absurd (let f : None ≡ Some m = sym (ap (λ q. up_from q (λ r. region_parent_of t r)) e) ∙ h in cc)
      liveness (Some r) e m h = ap is_some e

  -- an operation of a block of x does not hold another block of x, at any depth
  not_deeper : (x b c k m : ℕ) → block_parent_operation_of t b ≡ Some x → block_parent_operation_of t c ≡ Some x → In k (body_of t c) → block_parent_operation_of t b ≡ Some m → IsWithin t k m → ⊥
  not_deeper x b c k m e f i g u =
      not_inside-itself t w x (subst (IsInside t x) (some_is (sym g ∙ e)) (up_within x k m (held_by c k x f i) u))

  -- two blocks of x have nothing in common
  from_one : (x b c z : ℕ) → block_parent_operation_of t b ≡ Some x → block_parent_operation_of t c ≡ Some x → IsFrom b z → IsFrom c z → b ≡ c
  from_one x b c z e f (inl s) (inl r) = sym s ∙ r
  from_one x b c z e f (inl s) (inr q) =
      absurd (not_deeper x b c q.0 q.2.0 e f q.1 (ap (block_parent_operation_of t) (sym s) ∙ q.2.1) q.2.2)
  from_one x b c z e f (inr p) (inl r) =
      absurd (not_deeper x c b p.0 p.2.0 f e p.1 (ap (block_parent_operation_of t) (sym r) ∙ p.2.1) p.2.2)
  from_one x b c z e f (inr p) (inr q) =
      let m : p.2.0 ≡ q.2.0 = some_is (sym p.2.1 ∙ q.2.1) in
      let same : p.0 ≡ q.0 = children_apart t w p.0 q.0 x p.2.0 (held_by b p.0 x e p.1) (held_by c q.0 x f q.1) p.2.2 (subst (IsWithin t q.0) (sym m) q.2.2) in
      some_is (sym (w.bodies.owned p.0 b p.1) ∙ ap (parent_of t) same ∙ w.bodies.owned q.0 c q.1)

  distinct_from : (n x b : ℕ) → ((k : ℕ) → IsDistinct (blocks_to_depth t n k)) → block_parent_operation_of t b ≡ Some x → IsDistinct (from_block t n b)
  distinct_from n x b each e = (
    λ i. let r = flat_map-In (λ k. blocks_to_depth t n k) (body_of t b) b i in let h = below_held n r.0 b r.2 in not_deeper x b b r.0 h.0 e e r.1 h.1 h.2,
    distinct-flat_map (λ k. blocks_to_depth t n k) (body_of t b) (w.bodies.distinct b) (λ k i. each k) (λ k l z i j p q.
        let h = below_held n k z p in
        let g = below_held n l z q in
        children_apart t w k l x h.0 (held_by b k x e i) (held_by b l x e j) h.2 (subst (IsWithin t l) (some_is (sym g.1 ∙ h.1)) g.2)),
  )

  -- no block is listed twice
  pub distinct-below : (n x : ℕ) → IsDistinct (blocks_to_depth t n x)
  distinct-below zero x = tt
  distinct-below (suc n) x =
      distinct-flat_map (λ r. from_region t n r) (regions_of t x) (distinct-regions t w x) (λ r i.
      distinct-flat_map (λ b. from_block t n b) (layout_of t r) (w.layouts.distinct r) (λ b j. distinct_from n x b (distinct-below n) (held_directly x r b i j)) (λ b c z j k p q.
      from_one x b c z (held_directly x r b i j) (held_directly x r c i k) (from_is n b z (below_held n) p) (from_is n c z (below_held n) q))) (λ r s z i j p q.
      let b = flat_map-In (λ b. from_block t n b) (layout_of t r) z p in
      let c = flat_map-In (λ b. from_block t n b) (layout_of t s) z q in
      let same : b.0 ≡ c.0 = from_one x b.0 c.0 z (held_directly x r b.0 i b.1) (held_directly x s c.0 j c.1) (from_is n b.0 z (below_held n) b.2) (from_is n c.0 z (below_held n) c.2) in
      some_is (sym (w.layouts.owned b.0 r b.1) ∙ ap (block_parent_of t) same ∙ w.layouts.owned c.0 s c.1))

  pub distinct-blocks : (root : ℕ) → IsDistinct (blocks_inside t root)
  distinct-blocks root = distinct-below (length t.operations) root

  argument_index : {b c i j : ℕ} → Some (Argument b i) ≡ Some (Argument c j) → (b ≡ c) × (i ≡ j)
  argument_index e = (cc, cc)

  result_index : {b c i j : ℕ} → Some (Result b i) ≡ Some (Result c j) → (b ≡ c) × (i ≡ j)
  result_index e = (cc, cc)

  distinct_arguments : (b : ℕ) → IsDistinct (arguments_of t b)
  distinct_arguments b = distinct-indices (arguments_of t b) (λ i j v e f. (argument_index (sym (w.joined.arguments b i v e) ∙ w.joined.arguments b j v f)).1)

  distinct_results : (k : ℕ) → IsDistinct (results_of t k)
  distinct_results k = distinct-indices (results_of t k) (λ i j v e f. (result_index (sym (w.joined.results k i v e) ∙ w.joined.results k j v f)).1)

  -- what makes a value that a block lists
  abbrev IsMadeIn : ℕ → ℕ → Type 0
  IsMadeIn b v = ((i : ℕ) × (definition_of t v ≡ Some (Argument b i))) ⊎ ((k : ℕ) × In k (body_of t b) × ((i : ℕ) × (definition_of t v ≡ Some (Result k i))))

  made_of : (b v : ℕ) → In v (block_values t b) → IsMadeIn b v
  made_of b v i = elim (In-cases v (arguments_of t b) (flat_map (λ k. results_of t k) (body_of t b)) i) [
    | inl a ↦ let s = slice_get-In v (arguments_of t b) a in inl (s.0, w.joined.arguments b s.0 v s.1)
    | inr r ↦ let k = flat_map-In (λ k. results_of t k) (body_of t b) v r in let s = slice_get-In v (results_of t k.0) k.2 in inr (k.0, k.1, (s.0, w.joined.results k.0 s.0 v s.1))
  ]

  argument_result : {b k i j : ℕ} → Some (Argument b i) ≡ Some (Result k j) → ⊥
  argument_result e = absurd (cc)

  -- no value is listed by two blocks
  pub values_apart : (b c v : ℕ) → In v (block_values t b) → In v (block_values t c) → b ≡ c
  values_apart b c v i j = go (made_of b v i) (made_of c v j)
    where
      go : IsMadeIn b v → IsMadeIn c v → b ≡ c
      go (inl p) (inl q) = (argument_index (sym p.1 ∙ q.1)).0
      go (inl p) (inr q) = absurd (argument_result (sym p.1 ∙ q.2.1))
      go (inr p) (inl q) = absurd (argument_result (sym q.1 ∙ p.2.1))
      go (inr p) (inr q) =
          let same : p.0 ≡ q.0 = (result_index (sym p.2.1 ∙ q.2.1)).0 in
          some_is (sym (w.bodies.owned p.0 b p.1) ∙ ap (parent_of t) same ∙ w.bodies.owned q.0 c q.1)

  -- no value is listed twice by a block
  pub distinct_values : (b : ℕ) → IsDistinct (block_values t b)
  distinct_values b =
      distinct-join (arguments_of t b) (flat_map (λ k. results_of t k) (body_of t b)) (distinct_arguments b) (distinct-flat_map (λ k. results_of t k) (body_of t b) (w.bodies.distinct b) (λ k i. distinct_results k) (λ k l v i j p q.
      let a = slice_get-In v (results_of t k) p in
      let c = slice_get-In v (results_of t l) q in
      (result_index (sym (w.joined.results k a.0 v a.1) ∙ w.joined.results l c.0 v c.1)).0)) (λ v i j.
      let a = slice_get-In v (arguments_of t b) i in
      let k = flat_map-In (λ k. results_of t k) (body_of t b) v j in
      let r = slice_get-In v (results_of t k.0) k.2 in
      argument_result (sym (w.joined.arguments b a.0 v a.1) ∙ w.joined.results k.0 r.0 v r.1))

  -- no value is listed twice by the blocks inside an operation
  pub distinct-values : (root : ℕ) → IsDistinct (flat_map (λ b. block_values t b) (blocks_inside t root))
  distinct-values root =
      distinct-flat_map (λ b. block_values t b) (blocks_inside t root) (distinct-blocks root) (λ b i. distinct_values b) (λ b c v i j p q. values_apart b c v p q)

  -- with as many levels as operations nothing is left out
  below_more : (n x : ℕ) → length (contents t x) < n → blocks_to_depth t (suc n) x ≡ blocks_to_depth t n x
  below_more zero x lt = absurd (omega (arith, lt))
  below_more (suc n) x lt =
      flat_map-same (λ r. from_region t (suc n) r) (λ r. from_region t n r) (regions_of t x) (λ r i.
      flat_map-same (λ b. from_block t (suc n) b) (λ b. from_block t n b) (layout_of t r) (λ b j.
      ap (λ zs. b ∷ zs) (flat_map-same (λ k. blocks_to_depth t (suc n) k) (λ k. blocks_to_depth t n k) (body_of t b) (λ k q.
      let less = contents-shorter t w k x (held_by b k x (held_directly x r b i j) q) in below_more n k (omega (arith, less, lt))))))

  -- each block of the operation is followed by those inside its operations, to any depth
  pub inside_nested : (x : ℕ) → IsLive t x → blocks_inside t x ≡ flat_map (λ r. flat_map (λ b. b ∷ flat_map (λ k. blocks_inside t k) (body_of t b)) (layout_of t r)) (regions_of t x)
  inside_nested x live =
      let long = distinct-length (length t.operations) (preorder t x) (distinct-preorder t w x) (λ k i. live_within t w k (within_live t w x k live ((In-preorder t w x k).0 i))) in
      sym (below_more (length t.operations) x (omega (arith, long)))

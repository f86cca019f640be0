-- The blocks and edges inside an operation.
use Rattle.std.proofs.Common.{◌≡◌, ℕ, zero, suc, ◌<◌, ◌≤◌, List, [], ◌∷◌, ◌++◌, length, Option, Some, None, refl, sym, ap, ◌∙◌, subst, inl, inr, arith, Bool, true, false, cond, filter}
use Rattle.std.proofs.lemmas.Bool.{false≢true}
use Rattle.std.specs.List.{flat_map}
use Rattle.pliron_core.specs.Lists.{In, last_of}
use Rattle.pliron_core.specs.Tree.{Tree, IsLive, regions_of, layout_of, body_of}
use Rattle.pliron_core.specs.Edges.{succs_of, succs_from}
use Rattle.pliron_core.specs.Invariant.{IsTree}
use Rattle.pliron_core.specs.Walks.{children_of_region, contents}
use Rattle.pliron_core.specs.Changes.{IsSameTree}
use Rattle.pliron_core.proofs.FlatLemmas.{In-flat_map}
use Rattle.pliron_core.proofs.WalkLemmas.{children-holder, contents-shorter, length-contents, children-same, contents-same}
use Rattle.pliron_theory.specs.Edges.{edges_to_depth, edges_inside, KeepsEdges, has_entries, has_regions, EdgesAlike}

flat_same : {A : Type 0} (f g : ℕ → List A) (xs : List ℕ) → ((x : ℕ) → In x xs → f x ≡ g x) → flat_map f xs ≡ flat_map g xs
flat_same f g [] h = refl
flat_same f g (x ∷ xs) h = ap (λ z. z ++ flat_map f xs) (h x (inl refl)) ∙ ap (λ z. g x ++ z) (flat_same f g xs (λ y i. h y (inr i)))

-- deep enough is deep enough
module _ (t : Tree) (w : IsTree t) where
  inner : (op r b k : ℕ) → In r (regions_of t op) → In b (layout_of t r) → In k (body_of t b) → length (contents t k) < length (contents t op)
  inner op r b k i j l = contents-shorter t w k op (children-holder t w k op (In-flat_map (λ r. children_of_region t r) (regions_of t op) r k i (In-flat_map (λ b. body_of t b) (layout_of t r) b k j l)))

  pub deep_enough : (n m op : ℕ) → length (contents t op) < n → length (contents t op) < m → edges_to_depth t n op ≡ edges_to_depth t m op
  deep_enough zero m op h k = absurd (omega (arith, h))
  deep_enough (suc n) zero op h k = absurd (omega (arith, k))
  deep_enough (suc n) (suc m) op h k =
      flat_same _ _ (regions_of t op) (λ r i. flat_same _ _ (layout_of t r) (λ b j. ap (λ z. (b, succs_of t b) ∷ z) (flat_same (λ x. edges_to_depth t n x) (λ x. edges_to_depth t m x) (body_of t b) (λ x l. let less = inner op r b x i j l in deep_enough n m x (omega (arith, less, h)) (omega (arith, less, k))))))

-- the same tree but for erased handles
module _ (t u : Tree) (s : IsSameTree t u) where
  regions_same : (op : ℕ) → regions_of u op ≡ regions_of t op
  regions_same op = ap (λ r. r.regions) (s.operations op)

  succs_same : (b : ℕ) → succs_of u b ≡ succs_of t b
  succs_same b = ap (λ xs. succs_from u (last_of None xs)) (s.bodies b) ∙ go (last_of None (body_of t b))
    where
      go : (o : Option ℕ) → succs_from u o ≡ succs_from t o
      go None = refl
      go (Some k) = s.successors k

  blocks_same : (n op : ℕ) → edges_to_depth u n op ≡ edges_to_depth t n op
  blocks_same zero op = refl
  blocks_same (suc n) op =
      ap (λ rs. flat_map (λ r. flat_map (λ b. (b, succs_of u b) ∷ flat_map (λ k. edges_to_depth u n k) (body_of u b)) (layout_of u r)) rs) (regions_same op)
      ∙ flat_same _ _ (regions_of t op) (λ r i.
      ap (λ bs. flat_map (λ b. (b, succs_of u b) ∷ flat_map (λ k. edges_to_depth u n k) (body_of u b)) bs) (s.layouts r)
      ∙ flat_same _ _ (layout_of t r) (λ b j.
      ap (λ z. (b, z) ∷ flat_map (λ k. edges_to_depth u n k) (body_of u b)) (succs_same b)
      ∙ ap (λ ks. (b, succs_of t b) ∷ flat_map (λ k. edges_to_depth u n k) ks) (s.bodies b)
      ∙ ap (λ z. (b, succs_of t b) ∷ z) (flat_same (λ k. edges_to_depth u n k) (λ k. edges_to_depth t n k) (body_of t b) (λ k l. blocks_same n k))))

pub edges_same : (t u : Tree) (op : ℕ) → IsTree t → IsTree u → IsSameTree t u → edges_inside u op ≡ edges_inside t op
edges_same t u op wt wu s =
    let lists : contents u op ≡ contents t op = contents-same t u wt wu op (λ k i. children-same t u k (regions_same t u s k) s.layouts s.bodies) in
    let here = length-contents t wt op in
    let there : length (contents t op) ≤ length u.operations = subst (λ z. length z ≤ length u.operations) lists (length-contents u wu op) in
    blocks_same t u s (suc (length u.operations)) op ∙ deep_enough t wt (suc (length u.operations)) (suc (length t.operations)) op (omega (arith, there)) (omega (arith, here))

-- regions alike, and the same operations with regions in each block
module _ (t u : Tree) (a : EdgesAlike t u) where
  none_below : (n k : ℕ) → has_regions t k ≡ false → edges_to_depth u n k ≡ []
  none_below zero k e = refl
  none_below (suc n) k e = ap (λ rs. flat_map (λ r. flat_map (λ b. (b, succs_of u b) ∷ flat_map (λ k. edges_to_depth u n k) (body_of u b)) (layout_of u r)) rs) (a.regions k ∙ empty (regions_of t k) e)
    where
      empty : (rs : List ℕ) → has_entries rs ≡ false → rs ≡ []
      empty [] e = refl
      empty (r ∷ rs) e = absurd (false≢true (sym e))

  -- only operations with regions matter
  with_regions : (n : ℕ) (ks : List ℕ) → flat_map (λ k. edges_to_depth u n k) ks ≡ flat_map (λ k. edges_to_depth u n k) (filter (λ k. has_regions t k) ks)
  with_regions n [] = refl
  with_regions n (k ∷ ks) = go (with_regions n ks) (has_regions t k) refl
    where
      go : flat_map (λ k. edges_to_depth u n k) ks ≡ flat_map (λ k. edges_to_depth u n k) (filter (λ k. has_regions t k) ks) → (b : Bool) → has_regions t k ≡ b → edges_to_depth u n k ++ flat_map (λ k. edges_to_depth u n k) ks ≡ flat_map (λ k. edges_to_depth u n k) (cond b (k ∷ filter (λ k. has_regions t k) ks) (filter (λ k. has_regions t k) ks))
      go rest true e = ap (λ z. edges_to_depth u n k ++ z) rest
      go rest false e = ap (λ z. z ++ flat_map (λ k. edges_to_depth u n k) ks) (none_below n k e) ∙ rest

itself_alike : (t : Tree) → EdgesAlike t t
itself_alike t = record { grows = omega arith; regions = λ op. refl; layouts = λ r. refl; successors = λ b. refl; bodies = λ b. refl }

module _ (t u : Tree) (a : EdgesAlike t u) where
  blocks_alike : (n op : ℕ) → edges_to_depth u n op ≡ edges_to_depth t n op
  blocks_alike zero op = refl
  blocks_alike (suc n) op =
      ap (λ rs. flat_map (λ r. flat_map (λ b. (b, succs_of u b) ∷ flat_map (λ k. edges_to_depth u n k) (body_of u b)) (layout_of u r)) rs) (a.regions op)
      ∙ flat_same _ _ (regions_of t op) (λ r i.
      ap (λ bs. flat_map (λ b. (b, succs_of u b) ∷ flat_map (λ k. edges_to_depth u n k) (body_of u b)) bs) (a.layouts r)
      ∙ flat_same _ _ (layout_of t r) (λ b j.
      ap (λ z. (b, z) ∷ flat_map (λ k. edges_to_depth u n k) (body_of u b)) (a.successors b)
      ∙ ap (λ z. (b, succs_of t b) ∷ z)
      (with_regions t u a n (body_of u b)
      ∙ ap (λ ks. flat_map (λ k. edges_to_depth u n k) ks) (a.bodies b)
      ∙ flat_same (λ k. edges_to_depth u n k) (λ k. edges_to_depth t n k) (filter (λ k. has_regions t k) (body_of t b)) (λ k l. blocks_alike n k)
      ∙ sym (with_regions t t (itself_alike t) n (body_of t b)))))

pub edges_alike : (t u : Tree) → IsTree t → IsTree u → EdgesAlike t u → KeepsEdges t u
edges_alike t u wt wu a op before after =
    let here = length-contents t wt op in
    let grows = a.grows in
    blocks_alike t u a (suc (length u.operations)) op ∙ deep_enough t wt (suc (length u.operations)) (suc (length t.operations)) op (omega (arith, here, grows)) (omega (arith, here))

pub edges_transitive : (t u v : Tree) → ((op : ℕ) → IsLive t op → IsLive v op → IsLive u op) → KeepsEdges t u → KeepsEdges u v → KeepsEdges t v
edges_transitive t u v mid a b op before after = let m = mid op before after in b op m after ∙ a op before m

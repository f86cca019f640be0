-- A walk over the operations inside an operation meets each edge there once, in order.
use Rattle.std.proofs.Common.{◌≡◌, ◌≢◌, ℕ, zero, suc, ◌+◌, ◌<◌, List, [], ◌∷◌, ◌++◌, length, map, take, Bool, true, false, if◌then◌else◌, cond, Option, Some, None, nat_eq, slice_get, refl, sym, ap, ◌∙◌, subst, inl, inr, append_assoc, append-nil, add-one, arith}
use Rattle.std.specs.List.{flat_map}
use Rattle.std.proofs.lemmas.List.Concat.{flat_map-append}
use Rattle.std.specs.Option.{IsSome}
use Rattle.std.proofs.lemmas.Bool.{false≢true}
use Rattle.pliron_core.specs.Lists.{In, IsDistinct, first_of, last_of}
use Rattle.pliron_core.specs.Tree.{Tree, IsLive, regions_of, layout_of, body_of, parent_of}
use Rattle.pliron_core.specs.Edges.{succs_of, succs_from}
use Rattle.pliron_core.specs.Invariant.{IsTree}
use Rattle.pliron_core.specs.Walks.{children, children_of_region, contents, descend}
use Rattle.pliron_core.proofs.ArgumentLemmas.{take_more}
use Rattle.pliron_core.proofs.WalkLemmas.{contents-children}
use Rattle.pliron_theory.specs.Edges.{edges_to_depth, edges_inside}
use Rattle.pliron_pass.specs.BenchFacts.{pairs_of, edge_pairs, begins_with, pairs_led, pairs_at, fact_kind, HoldsFact, fact_needs, fact_need, pairs_in, operations_in}
use Rattle.pliron_pass.specs.BenchFactLaws.{one_kind}
use Rattle.pliron_pass.specs.Cache.{IsFresh}
use Rattle.pliron_pass.specs.Grown.{cached_at, HasNeeds}
use Rattle.pliron_pass.specs.declared.bench_facts.BenchFactKind.{BenchFactKind}
use Rattle.pliron_pass.specs.declared.bench_facts.BenchFactKind.TheVariants.{Edges as KindEdges, Size as KindSize, Total as KindTotal}
use Rattle.pliron_pass.specs.declared.bench_facts.BenchFacts.{BenchFacts}
use Rattle.pliron_pass.specs.declared.bench_facts.BenchFacts.TheVariants.{Edges, Size, Total}
use Rattle.pliron_pass.specs.contracts.bench_facts.BenchFactKindPartialEq.TheImpl.{ghosts as equality}
use Rattle.pliron_pass.proofs.FreshLemmas.{fresh_at}

-- one pair more
pub pair_added : (b i s : ℕ) (succs : List ℕ) → slice_get succs i ≡ Some s → pairs_of (b, take (i + 1) succs) ≡ pairs_of (b, take i succs) ++ (b, s) ∷ []
pair_added b i s succs e = ap (λ n. pairs_of (b, take n succs)) (add-one i) ∙ ap (λ xs. pairs_of (b, xs)) (take_more succs i s e) ∙ mapped (take i succs)
  where
    mapped : (xs : List ℕ) → pairs_of (b, xs ++ s ∷ []) ≡ pairs_of (b, xs) ++ (b, s) ∷ []
    mapped [] = refl
    mapped (x ∷ xs) = ap (λ z. (b, x) ∷ z) (mapped xs)

-- the pairs at one operation more
pub pairs_added : (t : Tree) (ks : List ℕ) (k : ℕ) → flat_map (pairs_at t) (ks ++ k ∷ []) ≡ flat_map (pairs_at t) ks ++ pairs_at t k
pairs_added t ks k = flat_map-append (pairs_at t) ks (k ∷ []) ∙ ap (λ z. flat_map (pairs_at t) ks ++ z) (append-nil (pairs_at t k))

flat_flat : {A B C : Type 0} (g : B → List C) (f : A → List B) (xs : List A) → flat_map g (flat_map f xs) ≡ flat_map (λ x. flat_map g (f x)) xs
flat_flat g f [] = refl
flat_flat g f (x ∷ xs) = flat_map-append g (f x) (flat_map f xs) ∙ ap (λ z. flat_map g (f x) ++ z) (flat_flat g f xs)

flat_same : {A : Type 0} (f g : ℕ → List A) (xs : List ℕ) → ((x : ℕ) → In x xs → f x ≡ g x) → flat_map f xs ≡ flat_map g xs
flat_same f g [] h = refl
flat_same f g (x ∷ xs) h = ap (λ z. z ++ flat_map f xs) (h x (inl refl)) ∙ ap (λ z. g x ++ z) (flat_same f g xs (λ y i. h y (inr i)))

key_alike : (n : ℕ) → nat_eq n n ≡ true
key_alike n = grind arith

other_key : (n m : ℕ) → n ≢ m → nat_eq n m ≡ false
other_key n m ne = grind (arith, ne)

-- where an operation is the first of its block, and where it isn't
pub pairs_first : (t : Tree) (k b : ℕ) → parent_of t k ≡ Some b → first_of (body_of t b) None ≡ Some k → pairs_at t k ≡ pairs_of (b, succs_of t b)
pairs_first t k b e f = ap (pairs_led t k) e ∙ ap (λ c. if c then pairs_of (b, succs_of t b) else []) (begins (body_of t b) f)
  where
    begins : (xs : List ℕ) → first_of xs None ≡ Some k → begins_with k xs ≡ true
    begins [] g = absurd (cc)
    begins (x ∷ xs) g = let s : x ≡ k = cc in subst (λ z. nat_eq k z ≡ true) (sym s) (key_alike k)

pub pairs_later : (t : Tree) (k b : ℕ) → parent_of t k ≡ Some b → first_of (body_of t b) None ≢ Some k → pairs_at t k ≡ []
pairs_later t k b e f = ap (pairs_led t k) e ∙ ap (λ c. if c then pairs_of (b, succs_of t b) else []) (begins (body_of t b) f)
  where
    begins : (xs : List ℕ) → first_of xs None ≢ Some k → begins_with k xs ≡ false
    begins [] g = refl
    begins (x ∷ xs) g = other_key k x (λ s. g (ap Some (sym s)))

-- the two that a total needs, in a fresh cache
module _ (t : Tree) (op : ℕ) where
  pairs_found : (o : Option BenchFacts) → IsSome o → ((e : BenchFacts) → o ≡ Some e → (fact_kind e ≡ KindEdges) × HoldsFact e op t) → pairs_in o ≡ length (edge_pairs t op)
  pairs_found None some f = absurd (false≢true some)
  pairs_found (Some (Edges pairs)) some f = ap length (f (Edges pairs) refl).1
  pairs_found (Some (Size count)) some f = let e : KindSize ≡ KindEdges = (f (Size count) refl).0 in absurd (cc)
  pairs_found (Some (Total count)) some f = let e : KindTotal ≡ KindEdges = (f (Total count) refl).0 in absurd (cc)

  operations_found : (o : Option BenchFacts) → IsSome o → ((e : BenchFacts) → o ≡ Some e → (fact_kind e ≡ KindSize) × HoldsFact e op t) → operations_in o ≡ length (contents t op)
  operations_found None some f = absurd (false≢true some)
  operations_found (Some (Size count)) some f = (f (Size count) refl).1
  operations_found (Some (Edges pairs)) some f = let e : KindEdges ≡ KindSize = (f (Edges pairs) refl).0 in absurd (cc)
  operations_found (Some (Total count)) some f = let e : KindTotal ≡ KindSize = (f (Total count) refl).0 in absurd (cc)

  pub total_of_needs : (es : List ((BenchFactKind × ℕ) × BenchFacts)) → IsLive t op → HasNeeds equality.eq fact_needs fact_need KindTotal op es → IsFresh equality.eq fact_kind HoldsFact t es → pairs_in (cached_at equality.eq es KindEdges op) + operations_in (cached_at equality.eq es KindSize op) ≡ length (edge_pairs t op) + length (contents t op)
  total_of_needs es live needs fresh =
      ap (λ n. n + operations_in (cached_at equality.eq es KindSize op)) (pairs_found (cached_at equality.eq es KindEdges op) (needs 0 (omega arith)) (λ e h. fresh_at equality.eq fact_kind HoldsFact one_kind t es KindEdges op e fresh live h))
      ∙ ap (λ n. length (edge_pairs t op) + n) (operations_found (cached_at equality.eq es KindSize op) (needs 1 (omega arith)) (λ e h. fresh_at equality.eq fact_kind HoldsFact one_kind t es KindSize op e fresh live h))

module _ (t : Tree) (w : IsTree t) where
  -- the first operation of a block has the block's pairs, and the others have none
  led_by_first : (b y : ℕ) (ys : List ℕ) → body_of t b ≡ y ∷ ys → pairs_at t y ≡ pairs_of (b, succs_of t b)
  led_by_first b y ys e =
      ap (λ o. pairs_led t y o) (w.bodies.owned y b (subst (In y) (sym e) (inl refl)))
      ∙ ap (λ zs. if begins_with y zs then pairs_of (b, succs_of t b) else []) e
      ∙ ap (λ c. if c then pairs_of (b, succs_of t b) else []) (key_alike y)

  led_by_none : (b y k : ℕ) (ys : List ℕ) → body_of t b ≡ y ∷ ys → In k ys → pairs_at t k ≡ []
  led_by_none b y k ys e i =
      let apart : IsDistinct (y ∷ ys) = subst IsDistinct e (w.bodies.distinct b) in
      ap (λ o. pairs_led t k o) (w.bodies.owned k b (subst (In k) (sym e) (inr i)))
      ∙ ap (λ zs. if begins_with k zs then pairs_of (b, succs_of t b) else []) e
      ∙ ap (λ c. if c then pairs_of (b, succs_of t b) else []) (other_key k y (λ s. apart.0 (subst (λ z. In z ys) s i)))

  block_pairs : (F : ℕ → List (ℕ × ℕ)) (b : ℕ) (ys : List ℕ) → body_of t b ≡ ys → flat_map (λ k. pairs_at t k ++ F k) ys ≡ pairs_of (b, succs_of t b) ++ flat_map F ys
  block_pairs F b [] e = sym (ap (λ zs. pairs_of (b, succs_from t (last_of None zs)) ++ []) e)
  block_pairs F b (y ∷ ys) e =
      ap (λ z. (z ++ F y) ++ flat_map (λ k. pairs_at t k ++ F k) ys) (led_by_first b y ys e)
      ∙ ap (λ z. (pairs_of (b, succs_of t b) ++ F y) ++ z) (flat_same (λ k. pairs_at t k ++ F k) F ys (λ k i. ap (λ z. z ++ F k) (led_by_none b y k ys e i)))
      ∙ append_assoc (pairs_of (b, succs_of t b)) (F y) (flat_map F ys)

  walked_below : (n x : ℕ) → flat_map (pairs_at t) (descend (λ k. children t k) n x) ≡ flat_map pairs_of (edges_to_depth t n x)
  walked_below zero x = refl
  walked_below (suc n) x =
      flat_flat (pairs_at t) (λ c. c ∷ descend (λ k. children t k) n c) (children t x)
      ∙ flat_flat here (λ r. children_of_region t r) (regions_of t x)
      ∙ flat_same (λ r. flat_map here (children_of_region t r)) (λ r. flat_map pairs_of (blocks r)) (regions_of t x) (λ r i. region (λ c. walked_below n c) r)
      ∙ sym (flat_flat pairs_of blocks (regions_of t x))
    where
      here : ℕ → List (ℕ × ℕ)
      here c = pairs_at t c ++ flat_map (pairs_at t) (descend (λ k. children t k) n c)

      blocks : ℕ → List (ℕ × List ℕ)
      blocks r = flat_map (λ b. (b, succs_of t b) ∷ flat_map (λ k. edges_to_depth t n k) (body_of t b)) (layout_of t r)

      Below : Type 0
      Below = (c : ℕ) → flat_map (pairs_at t) (descend (λ k. children t k) n c) ≡ flat_map pairs_of (edges_to_depth t n c)

      block : Below → (b : ℕ) → flat_map here (body_of t b) ≡ flat_map pairs_of ((b, succs_of t b) ∷ flat_map (λ k. edges_to_depth t n k) (body_of t b))
      block below b =
          block_pairs (λ c. flat_map (pairs_at t) (descend (λ k. children t k) n c)) b (body_of t b) refl
          ∙ ap (λ z. pairs_of (b, succs_of t b) ++ z) (flat_same (λ c. flat_map (pairs_at t) (descend (λ k. children t k) n c)) (λ c. flat_map pairs_of (edges_to_depth t n c)) (body_of t b) (λ c i. below c) ∙ sym (flat_flat pairs_of (λ k. edges_to_depth t n k) (body_of t b)))

      region : Below → (r : ℕ) → flat_map here (children_of_region t r) ≡ flat_map pairs_of (blocks r)
      region below r =
          flat_flat here (λ b. body_of t b) (layout_of t r)
          ∙ flat_same (λ b. flat_map here (body_of t b)) (λ b. flat_map pairs_of ((b, succs_of t b) ∷ flat_map (λ k. edges_to_depth t n k) (body_of t b))) (layout_of t r) (λ b i. block below b)
          ∙ sym (flat_flat pairs_of (λ b. (b, succs_of t b) ∷ flat_map (λ k. edges_to_depth t n k) (body_of t b)) (layout_of t r))

  pub edges_walked : (op : ℕ) → flat_map (pairs_at t) (contents t op) ≡ edge_pairs t op
  edges_walked op = ap (flat_map (pairs_at t)) (contents-children t w op) ∙ walked_below (suc (length t.operations)) op

-- A graph and the same graph by numbers: the second's search is that of the first.
use Rattle.std.proofs.Common.{◌≡◌, ℕ, zero, suc, ◌+◌, ◌<◌, Bool, true, false, true≢false, ◌||◌, Option, None, is_some, List, [], ◌∷◌, ◌++◌, length, drop, map, get_or, slice_get, Some, refl, sym, ◌∙◌, ap, subst, arith, inl, inr, ◌⊎◌, nat_eq}
use Rattle.std.specs.Cmp.{IsEquivalence}
use Rattle.std.specs.List.{All, AllByRecursion, list_any}
use Rattle.std.proofs.lemmas.Bool.Decides.{eqb_tells}
use Rattle.std.proofs.lemmas.List.{drop_more, drop_all, map-append, map_push}
use Rattle.std.proofs.lemmas.List.Elements.{All-contains, All-get_or, All-from_recursion, Contains-get_or}
use Rattle.std.proofs.lemmas.Option.{same_Some, slice_get-get_or, slice_get_within, get_or_from_slice_get}
use Rattle.pliron_graph_traversal.specs.Digraph.{Digraph, IsLawful}
use Rattle.pliron_graph_traversal.specs.Adjacency.{Adjacency, graph_of, count_from, row}
use Rattle.pliron_graph_traversal.specs.ByNumber.{IsByNumber}
use Rattle.pliron_graph_traversal.specs.Search.{number_in}
use Rattle.pliron_graph_traversal.specs.Internal.AdjacencyLawful.{counted}
use Rattle.pliron_graph_traversal.specs.Internal.Forest.{Forest, leaf, grow, forest_preorder, postorder, ForestGrows, done, skip, visit, Grew}
use Rattle.pliron_graph_traversal.specs.Internal.Walked.{trees, AreFoundWalks, AreNamedLists}
use Rattle.pliron_graph_traversal.specs.Internal.Membership.{HasMember, in_from, contains_from, in_cases}
use Rattle.pliron_graph_traversal.proofs.TreeLemmas.{InF, pre_in, post_in}
use Rattle.pliron_graph_traversal.proofs.ItemLemmas.{in_from_item, item_from_in, stands_once}

first_part : {X : Type 0} (a b : X) (xs ys : List X) → a ∷ xs ≡ b ∷ ys → a ≡ b
first_part a b xs ys e = cc e

later_part : {X : Type 0} (a b : X) (xs ys : List X) → a ∷ xs ≡ b ∷ ys → xs ≡ ys
later_part a b xs ys e = cc e

not_empty : {X : Type 0} (a : X) (xs : List X) → a ∷ xs ≡ [] → ⊥
not_empty a xs e = absurd (cc e)

pub in_map : {X Y : Type 0} (f : X → Y) (xs : List X) (x : X) → HasMember xs x → HasMember (map f xs) (f x)
in_map f [] x i = absurd i
in_map f (y ∷ ys) x (inl e) = inl (ap f e)
in_map f (y ∷ ys) x (inr i) = inr (in_map f ys x i)

pub of_map : {X Y : Type 0} (f : X → Y) (xs : List X) (y : Y) → HasMember (map f xs) y → (x : X) × HasMember xs x × (f x ≡ y)
of_map f [] y i = absurd i
of_map f (x ∷ xs) y (inl e) = (x, inl refl, e)
of_map f (x ∷ xs) y (inr i) = let r = of_map f xs y i in (r.0, inr r.1, r.2)

order : (k j : ℕ) → (k < j) ⊎ ((k ≡ j) ⊎ (j < k))
order k j = grind arith

-- these are the nodes with these numbers
pub named_items : {N : Type 0} (nodes : List N) (d : N) (vs : List N) (ks : List ℕ) → map Some vs ≡ map (λ j. slice_get nodes j) ks → ((k : ℕ) → HasMember ks k → k < length nodes) → vs ≡ map (λ j. get_or nodes j d) ks
named_items nodes d [] [] e low = refl
named_items nodes d [] (k ∷ ks) e low = absurd (not_empty (slice_get nodes k) (map (λ j. slice_get nodes j) ks) (sym e))
named_items nodes d (v ∷ vs) [] e low = absurd (not_empty (Some v) (map Some vs) e)
named_items nodes d (v ∷ vs) (k ∷ ks) e low =
    let head : Some v ≡ slice_get nodes k = first_part (Some v) (slice_get nodes k) (map Some vs) (map (λ j. slice_get nodes j) ks) e in
    let tail : map Some vs ≡ map (λ j. slice_get nodes j) ks = later_part (Some v) (slice_get nodes k) (map Some vs) (map (λ j. slice_get nodes j) ks) e in
    let here : v ≡ get_or nodes k d = same_Some v (get_or nodes k d) (head ∙ slice_get-get_or nodes k d (low k (inl refl))) in
    ap (λ z. z ∷ vs) here ∙ ap (λ zs. get_or nodes k d ∷ zs) (named_items nodes d vs ks tail (λ j i. low j (inr i)))

-- each number of the list is below n
abbrev pub AreLow : ℕ → List ℕ → Type 0
AreLow n w = (k : ℕ) → HasMember w k → k < n

trees_low : (n : ℕ) (f : Forest ℕ) → ((v : ℕ) → InF f v → v < n) → AllByRecursion (AreLow n) (trees f)
trees_low n leaf h = tt
trees_low n (grow v c s) h = (
  λ k i. elim (in_cases (postorder c) (v ∷ []) k i) [
    | inl a ↦ h k (inr (inl (post_in c k a)))
    | inr b ↦ elim b [ inl e ↦ h k (inl e) | inr z ↦ absurd z ]
  ],
  trees_low n s (λ x i. h x (inr (inr i))),
)

no_trees : (g : Digraph ℕ) {seen todo : List ℕ} {f : Forest ℕ} → ForestGrows nat_eq g seen todo f → todo ≡ [] → trees f ≡ []
no_trees g done e = refl
no_trees g (skip {v = v} {vs = vs} k gr) e = absurd (not_empty v vs e)
no_trees g (visit {v = v} {vs = vs} n gc gs) e = absurd (not_empty v vs e)

pub all_low : {A : Type 0} (f : A → List ℕ) (xs : List A) (n m : ℕ) → m ≡ n → AllByRecursion (AreLow m) (map f xs) → All (λ x. All (λ k. k < n) (f x)) xs
all_low {A = A} f xs n m is h = All-from_recursion (λ x. All (λ k. k < n) (f x)) xs (each xs h)
  where
    each : (ys : List A) → AllByRecursion (AreLow m) (map f ys) → AllByRecursion (λ x. All (λ k. k < n) (f x)) ys
    each [] l = tt
    each (y ∷ ys) l = ((λ i d w. omega (arith, is, l.0 (get_or (f y) i d) (in_from (f y) (get_or (f y) i d) (Contains-get_or (f y) i d w)))), each ys l.1)

-- one more list has its nodes
pub lists_named_more : {A B N : Type 0} (fa : A → List N) (fb : B → List ℕ) (nodes : List N) (all : List A) (before : List B) (a : A) (b : B) → AreNamedLists nodes (map fb before) (map fa all)
    → map Some (fa a) ≡ map (λ k. slice_get nodes k) (fb b) → AreNamedLists nodes (map fb (before ++ b ∷ [])) (map fa (all ++ a ∷ []))
lists_named_more fa fb nodes all before a b old new =
    ap (map (map Some)) (map_push fa all a) ∙ map_push (map Some) (map fa all) (fa a) ∙ ap (λ z. z ++ map Some (fa a) ∷ []) old
    ∙ ap (λ z. map (map (λ k. slice_get nodes k)) (map fb before) ++ z ∷ []) new
    ∙ sym (ap (map (map (λ k. slice_get nodes k))) (map_push fb before b) ∙ map_push (map (λ k. slice_get nodes k)) (map fb before) (fb b))

module _ {N : Type 0} (eq : N → N → Bool) (laws : IsEquivalence eq) (g : Digraph N) (lists : Adjacency) (lawful : IsLawful eq g) (by : IsByNumber g lists) (d : N) where
  -- the node with this number
  abbrev pub node : ℕ → N
  node k = get_or g.nodes k d

  pub node_at : (k : ℕ) → k < length lists.succ → slice_get g.nodes k ≡ Some (node k)
  node_at k l = slice_get-get_or g.nodes k d (omega (arith, l, by.same_count))

  pub node_in : (k : ℕ) → k < length lists.succ → HasMember g.nodes (node k)
  node_in k l = in_from_item g.nodes k (node k) (node_at k l)

  pub number_of : (v : N) → HasMember g.nodes v → (k : ℕ) × (k < length lists.succ) × (node k ≡ v)
  number_of v i = let r = item_from_in g.nodes v i in (r.0, omega (arith, slice_get_within g.nodes r.0 v r.1, by.same_count), get_or_from_slice_get g.nodes r.0 v d r.1)

  pub one_number : (k j : ℕ) → k < length lists.succ → j < length lists.succ → node k ≡ node j → k ≡ j
  one_number k j lk lj e = elim (order k j) [
    | inl l ↦ absurd (stands_once eq laws lawful.same g.nodes k j (node k) lawful.distinct l (node_at k lk) (node_at j lj ∙ ap Some (sym e)))
    | inr y ↦ elim y [
      | inl s ↦ s
      | inr l ↦ absurd (stands_once eq laws lawful.same g.nodes j k (node j) lawful.distinct l (node_at j lj) (node_at k lk ∙ ap Some e))
    ]
  ]

  same_test : (k j : ℕ) → k < length lists.succ → j < length lists.succ → eq (node k) (node j) ≡ nat_eq k j
  same_test k j lk lj = elim (eqb_tells k j) [
    | inl t ↦ ap (λ z. eq (node k) (node z)) (sym t.1) ∙ laws.refl (node k) ∙ sym t.0
    | inr t ↦ apart (eq (node k) (node j)) refl t.1 ∙ sym t.0
  ]
    where
      apart : (b : Bool) → eq (node k) (node j) ≡ b → (k ≡ j → ⊥) → b ≡ false
      apart true e n = absurd (n (one_number k j lk lj (lawful.same (node k) (node j) e)))
      apart false e n = refl

  any_named : (v : ℕ) (xs : List ℕ) → v < length lists.succ → ((x : ℕ) → HasMember xs x → x < length lists.succ) → list_any (eq (node v)) (map node xs) ≡ list_any (nat_eq v) xs
  any_named v [] l low = refl
  any_named v (x ∷ xs) l low =
      ap (λ b. b || list_any (eq (node v)) (map node xs)) (same_test v x l (low x (inl refl))) ∙ ap (λ b. nat_eq v x || b) (any_named v xs l (λ y i. low y (inr i)))

  pub row_below : (k x : ℕ) → k < length lists.succ → HasMember (row lists.succ k) x → x < length lists.succ
  row_below k x l i = All-contains (λ z. z < length lists.succ) (row lists.succ k) x (All-get_or (λ r. All (λ z. z < length lists.succ) r) lists.succ k [] l by.inverse.succ_below) (contains_from (row lists.succ k) x i)

  pub succ_named : (k : ℕ) → k < length lists.succ → g.succ (node k) ≡ map node (row lists.succ k)
  succ_named k l = named_items g.nodes d (g.succ (node k)) (row lists.succ k) (by.edges k (node k) (node_at k l)) (λ x i. omega (arith, row_below k x l i, by.same_count))

  abbrev pub mapped : Forest ℕ → Forest N
  mapped leaf = leaf
  mapped (grow v c s) = grow (node v) (mapped c) (mapped s)

  pre_mapped : (f : Forest ℕ) → forest_preorder (mapped f) ≡ map node (forest_preorder f)
  pre_mapped leaf = refl
  pre_mapped (grow v c s) =
      ap (λ z. node v ∷ z) (ap (λ z. z ++ forest_preorder (mapped s)) (pre_mapped c) ∙ ap (λ z. map node (forest_preorder c) ++ z) (pre_mapped s) ∙ sym (map-append node (forest_preorder c) (forest_preorder s)))

  post_mapped : (f : Forest ℕ) → postorder (mapped f) ≡ map node (postorder f)
  post_mapped leaf = refl
  post_mapped (grow v c s) =
      ap (λ z. z ++ (node v ∷ postorder (mapped s))) (post_mapped c) ∙ ap (λ z. map node (postorder c) ++ (node v ∷ z)) (post_mapped s) ∙ sym (map-append node (postorder c) (v ∷ postorder s))

  found_below : {seen todo : List ℕ} {f : Forest ℕ} → ForestGrows nat_eq (graph_of lists) seen todo f → ((v : ℕ) → HasMember todo v → v < length lists.succ) → (v : ℕ) → InF f v → v < length lists.succ
  found_below done low v i = absurd i
  found_below (skip k gr) low v i = found_below gr (λ x j. low x (inr j)) v i
  found_below (visit {v = r} n gc gs) low v (inl e) = subst (λ z. z < length lists.succ) e (low r (inl refl))
  found_below (visit {v = r} n gc gs) low v (inr (inl i)) = found_below gc (λ x j. row_below r x (low r (inl refl)) j) v i
  found_below (visit {v = r} n gc gs) low v (inr (inr i)) = found_below gs (λ x j. low x (inr j)) v i

  grows_named : {seen todo : List ℕ} {f : Forest ℕ} → ForestGrows nat_eq (graph_of lists) seen todo f → ((v : ℕ) → HasMember seen v → v < length lists.succ) → ((v : ℕ) → HasMember todo v → v < length lists.succ)
      → ForestGrows eq g (map node seen) (map node todo) (mapped f)
  grows_named done old low = done
  grows_named (skip {seen = p} {v = r} k gr) old low = skip (any_named r p (low r (inl refl)) old ∙ k) (grows_named gr old (λ v i. low v (inr i)))
  grows_named (visit {seen = p} {v = r} {vs = vs} {c = c} {s = s} k gc gs) old low =
      let here : r < length lists.succ = low r (inl refl) in
      let new : (v : ℕ) → HasMember (p ++ r ∷ []) v → v < length lists.succ = λ v i. elim (in_cases p (r ∷ []) v i) [
        | inl a ↦ old v a
        | inr b ↦ elim b [ inl e ↦ subst (λ z. z < length lists.succ) e here | inr z ↦ absurd z ]
      ] in
      let more : (v : ℕ) → HasMember ((p ++ r ∷ []) ++ forest_preorder c) v → v < length lists.succ = λ v i. elim (in_cases (p ++ r ∷ []) (forest_preorder c) v i) [
        | inl a ↦ new v a
        | inr b ↦ found_below gc (λ x j. row_below r x here j) v (pre_in c v b)
      ] in
      let seen_is : map node (p ++ r ∷ []) ≡ map node p ++ node r ∷ [] = map-append node p (r ∷ []) in
      let all_is : map node ((p ++ r ∷ []) ++ forest_preorder c) ≡ (map node p ++ node r ∷ []) ++ forest_preorder (mapped c) =
      map-append node (p ++ r ∷ []) (forest_preorder c) ∙ ap (λ z. z ++ map node (forest_preorder c)) seen_is ∙ ap (λ z. (map node p ++ node r ∷ []) ++ z) (sym (pre_mapped c)) in
      visit (any_named r p here old ∙ k)
      (subst (λ z. ForestGrows eq g z (g.succ (node r)) (mapped c)) seen_is (subst (λ z. ForestGrows eq g (map node (p ++ r ∷ [])) z (mapped c)) (sym (succ_named r here)) (grows_named gc new (λ x j. row_below r x here j))))
      (subst (λ z. ForestGrows eq g z (map node vs) (mapped s)) all_is (grows_named gs more (λ x j. low x (inr j))))

  -- all nodes, from the i-th on
  pub nodes_from : (i m : ℕ) → i + m ≡ length g.nodes → map node (count_from i m) ≡ drop i g.nodes
  nodes_from i zero e = sym (drop_all i g.nodes (omega (arith, e)))
  nodes_from i (suc m) e = ap (λ z. node i ∷ z) (nodes_from (i + 1) m (omega (arith, e))) ∙ sym (drop_more g.nodes i d (omega (arith, e)))

  -- the search by numbers is that of the nodes
  pub grew_named : (roots p q : List ℕ) → ((v : ℕ) → HasMember roots v → v < length lists.succ) → Grew nat_eq (graph_of lists) roots [] [] p q → Grew eq g (map node roots) [] [] (map node p) (map node q)
  grew_named roots p q low grew = record {
    forest = mapped grew.forest;
    grows = grows_named grew.grows (λ v i. absurd i) low;
    pre_is = ap (map node) grew.pre_is ∙ sym (pre_mapped grew.forest);
    post_is = ap (map node) grew.post_is ∙ sym (post_mapped grew.forest);
  }

  pub pre_low : (roots p q : List ℕ) → ((v : ℕ) → HasMember roots v → v < length lists.succ) → Grew nat_eq (graph_of lists) roots [] [] p q → (v : ℕ) → HasMember p v → v < length lists.succ
  pre_low roots p q low grew v i = found_below grew.grows low v (pre_in grew.forest v (subst (λ z. HasMember z v) grew.pre_is i))

  pub post_low : (roots p q : List ℕ) → ((v : ℕ) → HasMember roots v → v < length lists.succ) → Grew nat_eq (graph_of lists) roots [] [] p q → (v : ℕ) → HasMember q v → v < length lists.succ
  post_low roots p q low grew v i = found_below grew.grows low v (post_in grew.forest v (subst (λ z. HasMember z v) grew.post_is i))

  trees_mapped : (f : Forest ℕ) → trees (mapped f) ≡ map (map node) (trees f)
  trees_mapped leaf = refl
  trees_mapped (grow v c s) =
      let head : postorder (mapped c) ++ node v ∷ [] ≡ map node (postorder c ++ v ∷ []) = ap (λ z. z ++ node v ∷ []) (post_mapped c) ∙ sym (map-append node (postorder c) (v ∷ [])) in
      ap (λ z. z ∷ trees (mapped s)) head ∙ ap (λ z. map node (postorder c ++ v ∷ []) ∷ z) (trees_mapped s)

  lists_named : (vs : List (List N)) (ws : List (List ℕ)) → AreNamedLists g.nodes ws vs → AllByRecursion (AreLow (length lists.succ)) ws → vs ≡ map (map node) ws
  lists_named [] [] e low = refl
  lists_named [] (w ∷ ws) e low = absurd (not_empty (map (λ j. slice_get g.nodes j) w) (map (map (λ j. slice_get g.nodes j)) ws) (sym e))
  lists_named (v ∷ vs) [] e low = absurd (not_empty (map Some v) (map (map Some) vs) e)
  lists_named (v ∷ vs) (w ∷ ws) e low =
      let head : map Some v ≡ map (λ j. slice_get g.nodes j) w = first_part (map Some v) (map (λ j. slice_get g.nodes j) w) (map (map Some) vs) (map (map (λ j. slice_get g.nodes j)) ws) e in
      let tail : map (map Some) vs ≡ map (map (λ j. slice_get g.nodes j)) ws = later_part (map Some v) (map (λ j. slice_get g.nodes j) w) (map (map Some) vs) (map (map (λ j. slice_get g.nodes j)) ws) e in
      let here : v ≡ map node w = named_items g.nodes d v w head (λ k i. omega (arith, low.0 k i, by.same_count)) in
      ap (λ z. z ∷ vs) here ∙ ap (λ zs. map node w ∷ zs) (lists_named vs ws tail low.1)

  nodes_below : (v : ℕ) → HasMember (count_from 0 (length lists.succ)) v → v < length lists.succ
  nodes_below v i = let r = counted 0 (length lists.succ) v i in omega (arith, r.1)

  pub walks_low : (ws : List (List ℕ)) → AreFoundWalks nat_eq (graph_of lists) ws → AllByRecursion (AreLow (length lists.succ)) ws
  walks_low ws found = subst (AllByRecursion (AreLow (length lists.succ))) (sym found.1.walks_are) (trees_low (length lists.succ) found.1.forest (found_below found.1.grows nodes_below))

  -- the walks by numbers are those of the nodes
  found_named : (ws : List (List ℕ)) (vs : List (List N)) → AreFoundWalks nat_eq (graph_of lists) ws → AreNamedLists g.nodes ws vs → AreFoundWalks eq g vs
  found_named ws vs found named =
      let f = found.1.forest in
      let all : map node (count_from 0 (length lists.succ)) ≡ g.nodes = nodes_from 0 (length lists.succ) (omega (arith, by.same_count)) in (
        forest_preorder (mapped found.1.forest),
        record {
          forest = mapped f;
          grows = subst (λ z. ForestGrows eq g [] z (mapped f)) all (grows_named found.1.grows (λ v i. absurd i) nodes_below);
          seen_is = refl;
          walks_are = lists_named vs ws named (walks_low ws found) ∙ ap (map (map node)) found.1.walks_are ∙ sym (trees_mapped f);
        },
      )

  -- a node has the place of its number
  pub place_named : (xs : List ℕ) (v : ℕ) → v < length lists.succ → ((x : ℕ) → HasMember xs x → x < length lists.succ) → number_in eq (map node xs) (node v) ≡ number_in nat_eq xs v
  place_named [] v l low = refl
  place_named (x ∷ xs) v l low = rw (same_test v x l (low x (inl refl)), place_named xs v l (λ y i. low y (inr i))) refl

module _ {N : Type 0} (eq : N → N → Bool) (laws : IsEquivalence eq) (g : Digraph N) (lists : Adjacency) (lawful : IsLawful eq g) (by : IsByNumber g lists) (e : N) (entry : g.entry ≡ Some e) where
  first : slice_get g.nodes 0 ≡ Some e
  first = sym by.entry ∙ entry

  -- the entry is node 0
  pub entry_low : 0 < length lists.succ
  entry_low = omega (arith, slice_get_within g.nodes 0 e first, by.same_count)

  entries_low : (v : ℕ) → HasMember (0 ∷ []) v → v < length lists.succ
  entries_low v (inl z) = subst (λ k. k < length lists.succ) z entry_low
  entries_low v (inr n) = absurd n

  module _ (p q : List ℕ) (grew : Grew nat_eq (graph_of lists) (0 ∷ []) [] [] p q) where
    p_low : (v : ℕ) → HasMember p v → v < length lists.succ
    p_low = pre_low eq laws g lists lawful by e (0 ∷ []) p q entries_low grew

    q_low : (v : ℕ) → HasMember q v → v < length lists.succ
    q_low = post_low eq laws g lists lawful by e (0 ∷ []) p q entries_low grew

    -- a search from node 0 by numbers is that from the entry
    pub grew_found : (ps : List N) → map Some ps ≡ map (λ k. slice_get g.nodes k) p → Grew eq g (e ∷ []) [] [] ps (map (λ k. get_or g.nodes k e) q)
    grew_found ps is =
        let root : get_or g.nodes 0 e ≡ e = get_or_from_slice_get g.nodes 0 e e first in
        let named : Grew eq g (get_or g.nodes 0 e ∷ []) [] [] (map (λ k. get_or g.nodes k e) p) (map (λ k. get_or g.nodes k e) q) = grew_named eq laws g lists lawful by e (0 ∷ []) p q entries_low grew in
        let pre : ps ≡ map (λ k. get_or g.nodes k e) p = named_items g.nodes e ps p is (λ k i. omega (arith, p_low k i, by.same_count)) in
        subst (λ z. Grew eq g (e ∷ []) [] [] z (map (λ k. get_or g.nodes k e) q)) (sym pre)
        (subst (λ r. Grew eq g (r ∷ []) [] [] (map (λ k. get_or g.nodes k e) p) (map (λ k. get_or g.nodes k e) q)) root named)

    pub grew_from_entry : (ps qs : List N) → map Some ps ≡ map (λ k. slice_get g.nodes k) p → map Some qs ≡ map (λ k. slice_get g.nodes k) q → Grew eq g (e ∷ []) [] [] ps qs
    grew_from_entry ps qs is_p is_q =
        let post : qs ≡ map (λ k. get_or g.nodes k e) q = named_items g.nodes e qs q is_q (λ k i. omega (arith, q_low k i, by.same_count)) in
        subst (λ z. Grew eq g (e ∷ []) [] [] ps z) (sym post) (grew_found ps is_p)

    -- places by numbers are those of the nodes
    pub places_of_nodes : (ps qs : List N) → map Some ps ≡ map (λ k. slice_get g.nodes k) p → map Some qs ≡ map (λ k. slice_get g.nodes k) q → (places : List ℕ)
        → All (λ k. get_or places (number_in nat_eq p k) 0 ≡ number_in nat_eq q k) q → (v : N) → HasMember qs v → get_or places (number_in eq ps v) 0 ≡ number_in eq qs v
    places_of_nodes ps qs is_p is_q places gives v h =
        let pre : ps ≡ map (λ k. get_or g.nodes k e) p = named_items g.nodes e ps p is_p (λ k i. omega (arith, p_low k i, by.same_count)) in
        let post : qs ≡ map (λ k. get_or g.nodes k e) q = named_items g.nodes e qs q is_q (λ k i. omega (arith, q_low k i, by.same_count)) in
        let m = of_map (λ k. get_or g.nodes k e) q v (subst (λ z. HasMember z v) post h) in
        let low : m.0 < length lists.succ = q_low m.0 m.1 in
        let in_pre : number_in eq ps v ≡ number_in nat_eq p m.0 = ap (λ z. number_in eq z v) pre ∙ ap (number_in eq (map (λ k. get_or g.nodes k e) p)) (sym m.2) ∙ place_named eq laws g lists lawful by e p m.0 low p_low in
        let in_post : number_in eq qs v ≡ number_in nat_eq q m.0 = ap (λ z. number_in eq z v) post ∙ ap (number_in eq (map (λ k. get_or g.nodes k e) q)) (sym m.2) ∙ place_named eq laws g lists lawful by e q m.0 low q_low in
        let at = contains_from q m.0 m.1 in
        let here : get_or places (number_in nat_eq p m.0) 0 ≡ number_in nat_eq q m.0 = subst (λ k. get_or places (number_in nat_eq p k) 0 ≡ number_in nat_eq q k) at.2 (gives at.0 m.0 at.1) in
        ap (λ n. get_or places n 0) in_pre ∙ here ∙ sym in_post

    pub all_pre_low : (n : ℕ) → n ≡ length g.nodes → All (λ k. k < n) p
    all_pre_low n is i d l = omega (arith, p_low (get_or p i d) (in_from p (get_or p i d) (Contains-get_or p i d l)), is, by.same_count)

    pub all_post_low : (n : ℕ) → n ≡ length g.nodes → All (λ k. k < n) q
    all_post_low n is i d l = omega (arith, q_low (get_or q i d) (in_from q (get_or q i d) (Contains-get_or q i d l)), is, by.same_count)

module _ {N : Type 0} (eq : N → N → Bool) (laws : IsEquivalence eq) (g : Digraph N) (lists : Adjacency) (lawful : IsLawful eq g) (by : IsByNumber g lists) where
  walks_none : g.nodes ≡ [] → (ws : List (List ℕ)) → AreFoundWalks nat_eq (graph_of lists) ws → ws ≡ []
  walks_none none ws found =
      let count : length lists.succ ≡ 0 = by.same_count ∙ ap length none in
      found.1.walks_are ∙ no_trees (graph_of lists) found.1.grows (ap (count_from 0) count)

  empty : (xs : List (List N)) → map (map Some) xs ≡ [] → xs ≡ []
  empty [] e = refl
  empty (x ∷ xs) e = absurd (not_empty (map Some x) (map (map Some) xs) e)

  no_walks : g.nodes ≡ [] → (ws : List (List ℕ)) (vs : List (List N)) → AreFoundWalks nat_eq (graph_of lists) ws → AreNamedLists g.nodes ws vs → AreFoundWalks eq g vs
  no_walks none ws vs found named = (
    [],
    record {
      forest = leaf;
      grows = subst (λ z. ForestGrows eq g [] z leaf) (sym none) done;
      seen_is = refl;
      walks_are = empty vs (named ∙ ap (map (map (λ k. slice_get g.nodes k))) (walks_none none ws found));
    },
  )

  -- the numbers in the walks are below the number of nodes
  pub low_walks : (ws : List (List ℕ)) → AreFoundWalks nat_eq (graph_of lists) ws → AllByRecursion (AreLow (length lists.succ)) ws
  low_walks ws found = cases g.nodes refl
    where
      cases : (xs : List N) → g.nodes ≡ xs → AllByRecursion (AreLow (length lists.succ)) ws
      cases [] e = subst (AllByRecursion (AreLow (length lists.succ))) (sym (walks_none e ws found)) tt
      cases (x ∷ xs) e = walks_low eq laws g lists lawful by x ws found

  pub walks_named : (ws : List (List ℕ)) (vs : List (List N)) → AreFoundWalks nat_eq (graph_of lists) ws → AreNamedLists g.nodes ws vs → AreFoundWalks eq g vs
  walks_named ws vs found named = cases g.nodes refl
    where
      cases : (xs : List N) → g.nodes ≡ xs → AreFoundWalks eq g vs
      cases [] e = no_walks e ws vs found named
      cases (x ∷ xs) e = found_named eq laws g lists lawful by x ws vs found named

-- what is there is something
pub some_is : {N : Type 0} (o : Option N) → is_some o ≡ true → (x : N) × (o ≡ Some x)
some_is None h = absurd (true≢false (sym h))
some_is (Some x) h = (x, refl)

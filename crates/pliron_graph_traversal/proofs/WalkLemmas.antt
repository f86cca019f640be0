-- The walks of a search from a list of nodes, one after the other.
use Rattle.std.proofs.Common.{◌≡◌, ℕ, zero, suc, ◌+◌, ◌<◌, ◌≤◌, Bool, true, false, List, [], ◌∷◌, ◌++◌, length, refl, sym, ◌∙◌, ap, subst, arith, inl, inr, ◌⊎◌, true≢false, append_assoc, append-nil, take, drop, set, map, reverse, get_or, add-one}
use Rattle.std.proofs.lemmas.List.{take_more, take_all}
use Rattle.std.specs.List.{list_any, All, AllByRecursion}
use Rattle.std.proofs.lemmas.List.Elements.{All-from_recursion}
use Rattle.pliron_graph_traversal.specs.Digraph.{Digraph}
use Rattle.pliron_graph_traversal.specs.Internal.Forest.{Forest, leaf, grow, forest_preorder, postorder, ForestGrows, done, skip, visit, Grew}
use Rattle.pliron_graph_traversal.specs.Search.{number_in}
use Rattle.pliron_graph_traversal.specs.Walks.{concatenation, IsWalk, AreWalks}
use Rattle.pliron_graph_traversal.specs.Internal.Walked.{trees, Walked}
use Rattle.pliron_graph_traversal.specs.Internal.Membership.{in_from, contains_from}
use Rattle.pliron_graph_traversal.proofs.TreeLemmas.{size, InF, Above, Top, Placed, top_in, lower_in, upper_in, post_in, in_post, apart, root_apart_below, root_apart_later, top_free}
use Rattle.pliron_graph_traversal.proofs.NumberingLemmas as numbering
use Rattle.pliron_graph_traversal.proofs.NumberingLemmas.{search_from_growth}

pub joined_push : {N : Type 0} (ws : List (List N)) (w : List N) → concatenation (ws ++ w ∷ []) ≡ concatenation ws ++ w
joined_push [] w = append-nil w
joined_push (x ∷ ws) w = ap (λ z. x ++ z) (joined_push ws w) ∙ sym (append_assoc x (concatenation ws) w)

-- one more list is reversed
reversed_next : {A N : Type 0} (f : A → List N) (first now : List A) (i : ℕ) (w d : A) → i < length first → length now ≡ length first → f w ≡ reverse (f (get_or now i d))
    → map f now ≡ map reverse (take i (map f first)) ++ drop i (map f first)
    → map f (set now i w) ≡ map reverse (take (suc i) (map f first)) ++ drop (suc i) (map f first)
reversed_next f [] now i w d l same is h = absurd (omega (arith, l))
reversed_next f (x ∷ xs) [] i w d l same is h = absurd (omega (arith, same))
reversed_next f (x ∷ xs) (y ∷ ys) zero w d l same is h =
    let here : f y ≡ f x = cc in let rest : map f ys ≡ map f xs = cc in
    let there : f w ≡ reverse (f x) = is ∙ ap reverse here in cc
reversed_next f (x ∷ xs) (y ∷ ys) (suc i) w d l same is h =
    let here : f y ≡ reverse (f x) = cc in
    let rest : map f ys ≡ map reverse (take i (map f xs)) ++ drop i (map f xs) = cc in
    let more = reversed_next f xs ys i w d (omega (arith, l)) (omega (arith, same)) is rest in cc

pub reversed_more : {A N : Type 0} (f : A → List N) (first now : List A) (i : ℕ) (w d : A) → i < length first → length now ≡ length first → f w ≡ reverse (f (get_or now i d))
    → map f now ≡ map reverse (take i (map f first)) ++ drop i (map f first)
    → map f (set now i w) ≡ map reverse (take (i + 1) (map f first)) ++ drop (i + 1) (map f first)
reversed_more f first now i w d l same is h = rw add-one (reversed_next f first now i w d l same is h)

module _ {N : Type 0} where
  abbrev pub plus : Forest N → Forest N → Forest N
  plus leaf h = h
  plus (grow r c s) h = grow r c (plus s h)

  trees_plus : (f h : Forest N) → trees (plus f h) ≡ trees f ++ trees h
  trees_plus leaf h = refl
  trees_plus (grow r c s) h = ap (λ x. (postorder c ++ r ∷ []) ∷ x) (trees_plus s h)

  pub pre_plus : (f h : Forest N) → forest_preorder (plus f h) ≡ forest_preorder f ++ forest_preorder h
  pre_plus leaf h = refl
  pre_plus (grow r c s) h = ap (λ x. r ∷ (forest_preorder c ++ x)) (pre_plus s h) ∙ simp append_assoc

  joined_trees : (f : Forest N) → concatenation (trees f) ≡ postorder f
  joined_trees leaf = refl
  joined_trees (grow r c s) = ap (λ x. (postorder c ++ r ∷ []) ++ x) (joined_trees s) ∙ simp append_assoc

  -- r with c below it is one of the trees
  abbrev pub IsTree : Forest N → N → Forest N → Type 0
  IsTree leaf r c = ⊥
  IsTree (grow t d s) r c = ((r ≡ t) × (c ≡ d)) ⊎ IsTree s r c

  tree_top : (f : Forest N) (r : N) (c : Forest N) → IsTree f r c → Top f r
  tree_top leaf r c h = absurd h
  tree_top (grow t d s) r c (inl h) = inl (sym h.0)
  tree_top (grow t d s) r c (inr h) = inr (tree_top s r c h)

  below_tree : (f : Forest N) (r : N) (c : Forest N) (v : N) → IsTree f r c → InF c v → Above f r v
  below_tree leaf r c v h i = absurd h
  below_tree (grow t d s) r c v (inl h) i = inl (h.0, subst (λ x. InF x v) h.1 i)
  below_tree (grow t d s) r c v (inr h) i = inr (inr (below_tree s r c v h i))

  module _ (pre post : N → ℕ) where
    tree_below : (a b : ℕ) (f : Forest N) (r : N) (c : Forest N) (v : N) → Placed pre post a b f → IsTree f r c → Above f r v → InF c v
    tree_below a b leaf r c v p h i = absurd h
    tree_below a b (grow t d s) r c v p (inl h) (inl i) = subst (λ x. InF x v) (sym h.1) i.1
    tree_below a b (grow t d s) r c v p (inl h) (inr (inl i)) = absurd (root_apart_below pre post a b t d s p (subst (InF d) h.0 (upper_in d r v i)))
    tree_below a b (grow t d s) r c v p (inl h) (inr (inr i)) = absurd (root_apart_later pre post a b t d s p (subst (InF s) h.0 (upper_in s r v i)))
    tree_below a b (grow t d s) r c v p (inr h) (inl i) = absurd (root_apart_later pre post a b t d s p (subst (InF s) i.0 (top_in s r (tree_top s r c h))))
    tree_below a b (grow t d s) r c v p (inr h) (inr (inl i)) = absurd (apart pre post a b t d s r p (upper_in d r v i) (top_in s r (tree_top s r c h)))
    tree_below a b (grow t d s) r c v p (inr h) (inr (inr i)) = tree_below (a + 1 + size d) (b + size d + 1) s r c v p.3 h i

module _ {N : Type 0} (eq : N → N → Bool) (g : Digraph N) where
  pub grows_plus : {seen xs ys : List N} {f h : Forest N} → ForestGrows eq g seen xs f → ForestGrows eq g (seen ++ forest_preorder f) ys h → ForestGrows eq g seen (xs ++ ys) (plus f h)
  grows_plus {seen = p} {ys = ys} {h = h} done k = subst (λ x. ForestGrows eq g x ys h) (append-nil p) k
  grows_plus (skip e gr) k = skip e (grows_plus gr k)
  grows_plus {ys = ys} {h = h} (visit {seen = p} {v = r} {c = c} {s = s} n gc gs) k =
      visit n gc (grows_plus gs (subst (λ x. ForestGrows eq g x ys h) (simp append_assoc) k))

  single : {seen : List N} {v : N} {h : Forest N} → ForestGrows eq g seen (v ∷ []) h → list_any (eq v) seen ≡ false → trees h ≡ postorder h ∷ []
  single (skip e gr) unseen = absurd (true≢false (sym e ∙ unseen))
  single (visit n gc done) unseen = refl

  pub walked_none : Walked eq g [] [] []
  walked_none = record { forest = leaf; grows = done; seen_is = refl; walks_are = refl }

  pub walked_past : (xs seen : List N) (walks : List (List N)) (v : N) → list_any (eq v) seen ≡ true → Walked eq g xs seen walks → Walked eq g (xs ++ v ∷ []) seen walks
  walked_past xs seen walks v there w = record {
    forest = plus w.forest leaf;
    grows = grows_plus w.grows (skip (subst (λ x. list_any (eq v) x ≡ true) w.seen_is there) done);
    seen_is = w.seen_is ∙ sym (pre_plus w.forest leaf ∙ append-nil (forest_preorder w.forest));
    walks_are = w.walks_are ∙ sym (trees_plus w.forest leaf ∙ append-nil (trees w.forest));
  }

  pub walked_more : (xs seen seen' post : List N) (walks : List (List N)) (v : N) → list_any (eq v) seen ≡ false → Grew eq g (v ∷ []) seen [] seen' post → Walked eq g xs seen walks
      → Walked eq g (xs ++ v ∷ []) seen' (walks ++ post ∷ [])
  walked_more xs seen seen' post walks v unseen new w = record {
    forest = plus w.forest new.forest;
    grows = grows_plus w.grows (subst (λ x. ForestGrows eq g x (v ∷ []) new.forest) w.seen_is new.grows);
    seen_is = new.pre_is ∙ ap (λ x. x ++ forest_preorder new.forest) w.seen_is ∙ sym (pre_plus w.forest new.forest);
    walks_are = ap (λ x. x ++ post ∷ []) w.walks_are ∙ ap (λ x. trees w.forest ++ x) (ap (λ x. x ∷ []) new.post_is ∙ sym (single new.grows unseen)) ∙ sym (trees_plus w.forest new.forest);
  }

  module _ (same : (x y : N) → eq x y ≡ true → x ≡ y) (reflexive : (x : N) → eq x x ≡ true) where
    all_trees : (xs : List N) (f : Forest N) (gr : ForestGrows eq g [] xs f) (part : Forest N) → ((r : N) (c : Forest N) → IsTree part r c → IsTree f r c)
        → AllByRecursion (IsWalk eq g xs (record { pre = forest_preorder f; post = postorder f })) (trees part)
    all_trees xs f gr leaf within = tt
    all_trees xs f gr (grow r c s) within =
        let tree = within r c (inl (refl, refl)) in
        let pre = number_in eq (forest_preorder f) in
        let post = number_in eq (postorder f) in
        let places = numbering.at_places eq same reflexive g xs f gr in
        let root = top_in f r (tree_top f r c tree) in (
          record {
            top = r;
            others = postorder c;
            last = refl;
            is_top = λ q hq e. top_free pre post 0 0 f q r places (tree_top f r c tree) (numbering.above eq same reflexive g xs f gr q r hq (numbering.reached eq same reflexive g xs f gr r root) e);
            enclosed = λ v. (
              λ h.
                  let below = below_tree f r c v tree (post_in c v (in_from (postorder c) v h)) in
                  (numbering.reached eq same reflexive g xs f gr v (lower_in f r v below), numbering.encloses eq same reflexive g xs f gr r v below),
              λ e. contains_from (postorder c) v (in_post c v (tree_below pre post 0 0 f r c v places tree
                  (numbering.above eq same reflexive g xs f gr r v (numbering.reached eq same reflexive g xs f gr r root) e.0 e.1))),
            );
          },
          all_trees xs f gr s (λ t d h. within t d (inr h)),
        )

    pub are_walks : (seen : List N) (walks : List (List N)) → Walked eq g g.nodes seen walks → AreWalks eq g walks
    are_walks seen walks w = subst (AreWalks eq g) (sym w.walks_are) (record {
      pre = forest_preorder w.forest;
      search = search_from_growth eq same reflexive g g.nodes (forest_preorder w.forest) (concatenation (trees w.forest)) (record { forest = w.forest; grows = w.grows; pre_is = refl; post_is = joined_trees w.forest });
      each = subst (λ x. All (IsWalk eq g g.nodes (record { pre = forest_preorder w.forest; post = x })) (trees w.forest)) (sym (joined_trees w.forest))
          (All-from_recursion (IsWalk eq g g.nodes (record { pre = forest_preorder w.forest; post = postorder w.forest })) (trees w.forest) (all_trees g.nodes w.forest w.grows w.forest (λ r c h. h)));
    })

pub next_take : {N : Type 0} (items ns : List N) (i : ℕ) (v : N) → items ≡ ns → i < length items → v ≡ get_or items i v → take (i + 1) ns ≡ take i ns ++ v ∷ []
next_take items ns i v same l e = subst (λ x. take (i + 1) x ≡ take i x ++ v ∷ []) same (take_more items i v l ∙ ap (λ x. take i items ++ x ∷ []) (sym e))

pub walked_all : {N : Type 0} (eq : N → N → Bool) (g : Digraph N) (items seen : List N) (walks : List (List N)) (i : ℕ) → items ≡ g.nodes → length items ≤ i → Walked eq g (take i g.nodes) seen walks → Walked eq g g.nodes seen walks
walked_all eq g items seen walks i same l w = subst (λ x. Walked eq g x seen walks) (let k : length g.nodes ≤ i = omega (arith, l, ap length same) in take_all i g.nodes k) w

-- The reverse of a lawful graph is lawful.
use Rattle.std.proofs.Common.{◌≡◌, Bool, true, false, List, [], ◌∷◌, refl, sym, ◌∙◌, ap, inl, inr, Contains, true≢false, map, if◌then◌else◌}
use Rattle.std.specs.List.{All, list_any, IsDistinct, AllByRecursion}
use Rattle.std.proofs.lemmas.List.Elements.{All-contains}
use Rattle.pliron_graph_traversal.specs.Digraph.{Digraph, IsLawful}
use Rattle.pliron_graph_components.specs.Reverse.{reverse_of, reverse_succ, reverse_pred}
use Rattle.pliron_graph_components.specs.declared.reverse_node.ReverseNode.{ReverseNode}
use Rattle.pliron_graph_components.specs.declared.reverse_node.ReverseNode.TheVariants.{Sentinel, Real}
use Rattle.pliron_graph_traversal.specs.Internal.Membership.{HasMember, in_from, contains_from, in_left, in_right, in_cases, in_from_any, any_from_in}

pub in_map : {A B : Type 0} (f : A → B) (xs : List A) (x : A) → HasMember xs x → HasMember (map f xs) (f x)
in_map f [] x h = absurd h
in_map f (y ∷ ys) x (inl e) = inl (ap f e)
in_map f (y ∷ ys) x (inr h) = inr (in_map f ys x h)

pub real_in : {N : Type 0} (xs : List N) (x : N) → HasMember (map Real xs) (Real x) → HasMember xs x
real_in [] x h = absurd h
real_in (y ∷ ys) x (inl e) = inl (cc)
real_in (y ∷ ys) x (inr h) = inr (real_in ys x h)

pub no_sentinel : {N : Type 0} (xs : List N) → HasMember (map Real xs) Sentinel → ⊥
no_sentinel [] h = h
no_sentinel (y ∷ ys) (inl e) = absurd (cc)
no_sentinel (y ∷ ys) (inr h) = no_sentinel ys h

only_sentinel : {N : Type 0} (t : Bool) (u : N) → HasMember (if t then Sentinel ∷ [] else []) (Real u) → ⊥
only_sentinel true u (inl e) = absurd (cc)
only_sentinel true u (inr n) = n
only_sentinel false u n = n

sentinel_then : (N : Type 0) (t : Bool) → HasMember {N = ReverseNode N} (if t then Sentinel ∷ [] else []) Sentinel → t ≡ true
sentinel_then N true h = refl
sentinel_then N false h = absurd h

module _ {N : Type 0} (eq : N → N → Bool) (req : ReverseNode N → ReverseNode N → Bool)
    (real : (x y : N) → req (Real x) (Real y) ≡ eq x y) (left : (y : N) → req Sentinel (Real y) ≡ false) (right : (x : N) → req (Real x) Sentinel ≡ false)
    (reflexive : (x : N) → eq x x ≡ true) (g : Digraph N) (starts : List N) (lawful : IsLawful eq g) (inside : All (λ v. Contains g.nodes v) starts) where
  same_real : (x y : ReverseNode N) → req x y ≡ true → x ≡ y
  same_real Sentinel Sentinel h = refl
  same_real Sentinel (Real y) h = absurd (true≢false (sym h ∙ left y))
  same_real (Real x) Sentinel h = absurd (true≢false (sym h ∙ right x))
  same_real (Real x) (Real y) h = ap Real (lawful.same x y (sym (real x y) ∙ h))

  apart_from : (x : N) (xs : List N) → AllByRecursion (λ y. eq x y ≡ false) xs → AllByRecursion (λ y. req (Real x) y ≡ false) (map Real xs)
  apart_from x [] h = tt
  apart_from x (y ∷ ys) h = (real x y ∙ h.0, apart_from x ys h.1)

  sentinel_apart : (xs : List N) → AllByRecursion (λ y. req Sentinel y ≡ false) (map Real xs)
  sentinel_apart [] = tt
  sentinel_apart (y ∷ ys) = (left y, sentinel_apart ys)

  distinct_real : (xs : List N) → IsDistinct eq xs → IsDistinct req (map Real xs)
  unfolding IsDistinct
  distinct_real [] h = tt
  distinct_real (x ∷ xs) h = (apart_from x xs h.0, distinct_real xs h.1)

  all_distinct : IsDistinct req (Sentinel ∷ map Real g.nodes)
  unfolding IsDistinct
  all_distinct = (sentinel_apart g.nodes, distinct_real g.nodes lawful.distinct)

  start_node : (v : N) → HasMember starts v → HasMember g.nodes v
  start_node v h = in_from g.nodes v (All-contains (λ x. Contains g.nodes x) starts v inside (contains_from starts v h))

  succ_in : (u v : ReverseNode N) → HasMember (Sentinel ∷ map Real g.nodes) u → HasMember (reverse_succ g starts u) v → HasMember (Sentinel ∷ map Real g.nodes) v
  succ_in Sentinel Sentinel hu h = inl refl
  succ_in Sentinel (Real v) hu h = inr (in_map Real g.nodes v (start_node v (real_in starts v h)))
  succ_in (Real u) Sentinel hu h = inl refl
  succ_in (Real u) (Real v) (inl e) h = absurd (cc)
  succ_in (Real u) (Real v) (inr hu) h =
      inr (in_map Real g.nodes v (in_from g.nodes v (lawful.pred_in v u (contains_from g.nodes u (real_in g.nodes u hu)) (contains_from (g.pred u) v (real_in (g.pred u) v h)))))

  pred_in : (u v : ReverseNode N) → HasMember (Sentinel ∷ map Real g.nodes) v → HasMember (reverse_pred eq g starts v) u → HasMember (Sentinel ∷ map Real g.nodes) u
  pred_in u Sentinel hv h = absurd h
  pred_in Sentinel (Real v) hv h = inl refl
  pred_in (Real u) (Real v) (inl e) h = absurd (cc)
  pred_in (Real u) (Real v) (inr hv) h = elim (in_cases (map Real (g.succ v)) (if list_any (eq v) starts then Sentinel ∷ [] else []) (Real u) h) [
    | inl a ↦ inr (in_map Real g.nodes u (in_from g.nodes u (lawful.succ_in v u (contains_from g.nodes v (real_in g.nodes v hv)) (contains_from (g.succ v) u (real_in (g.succ v) u a)))))
    | inr b ↦ absurd (only_sentinel (list_any (eq v) starts) u b)
  ]

  pred_succ : (u v : ReverseNode N) → HasMember (Sentinel ∷ map Real g.nodes) u → HasMember (Sentinel ∷ map Real g.nodes) v → HasMember (reverse_pred eq g starts v) u → HasMember (reverse_succ g starts u) v
  pred_succ u Sentinel hu hv h = absurd h
  pred_succ Sentinel (Real v) hu hv h = elim (in_cases (map Real (g.succ v)) (if list_any (eq v) starts then Sentinel ∷ [] else []) Sentinel h) [
    | inl a ↦ absurd (no_sentinel (g.succ v) a)
    | inr b ↦ in_map Real starts v (in_from_any eq lawful.same reflexive starts v (sentinel_then N (list_any (eq v) starts) b))
  ]
  pred_succ (Real u) (Real v) (inl e) hv h = absurd (cc)
  pred_succ (Real u) (Real v) (inr hu) (inl e) h = absurd (cc)
  pred_succ (Real u) (Real v) (inr hu) (inr hv) h = elim (in_cases (map Real (g.succ v)) (if list_any (eq v) starts then Sentinel ∷ [] else []) (Real u) h) [
    | inl a ↦ in_map Real (g.pred u) v (in_from (g.pred u) v ((lawful.inverse v u (contains_from g.nodes v (real_in g.nodes v hv)) (contains_from g.nodes u (real_in g.nodes u hu))).1 (contains_from (g.succ v) u (real_in (g.succ v) u a))))
    | inr b ↦ absurd (only_sentinel (list_any (eq v) starts) u b)
  ]

  succ_pred : (u v : ReverseNode N) → HasMember (Sentinel ∷ map Real g.nodes) u → HasMember (Sentinel ∷ map Real g.nodes) v → HasMember (reverse_succ g starts u) v → HasMember (reverse_pred eq g starts v) u
  succ_pred Sentinel Sentinel hu hv h = absurd (no_sentinel starts h)
  succ_pred (Real u) Sentinel hu hv h = absurd (no_sentinel (g.pred u) h)
  succ_pred Sentinel (Real v) hu hv h =
      let k : list_any (eq v) starts ≡ true = any_from_in eq lawful.same reflexive starts v (real_in starts v h) in
      in_right (map Real (g.succ v)) (if list_any (eq v) starts then Sentinel ∷ [] else []) Sentinel (rw k (inl refl))
  succ_pred (Real u) (Real v) (inl e) hv h = absurd (cc)
  succ_pred (Real u) (Real v) (inr hu) (inl e) h = absurd (cc)
  succ_pred (Real u) (Real v) (inr hu) (inr hv) h =
      in_left (map Real (g.succ v)) (if list_any (eq v) starts then Sentinel ∷ [] else []) (Real u)
      (in_map Real (g.succ v) u (in_from (g.succ v) u ((lawful.inverse v u (contains_from g.nodes v (real_in g.nodes v hv)) (contains_from g.nodes u (real_in g.nodes u hu))).0 (contains_from (g.pred u) v (real_in (g.pred u) v h)))))

  abbrev all : List (ReverseNode N)
  all = Sentinel ∷ map Real g.nodes

  pub reverse_lawful : IsLawful req (reverse_of eq g starts)
  reverse_lawful = record {
    same = same_real;
    distinct = all_distinct;
    entry_in = contains_from (Sentinel ∷ map Real g.nodes) Sentinel (inl refl);
    succ_in = λ u v hu h. contains_from all v (succ_in u v (in_from all u hu) (in_from (reverse_succ g starts u) v h));
    pred_in = λ u v hv h. contains_from all u (pred_in u v (in_from all v hv) (in_from (reverse_pred eq g starts v) u h));
    inverse = λ u v hu hv. (
      λ h. contains_from (reverse_succ g starts u) v (pred_succ u v (in_from all u hu) (in_from all v hv) (in_from (reverse_pred eq g starts v) u h)),
      λ h. contains_from (reverse_pred eq g starts v) u (succ_pred u v (in_from all u hu) (in_from all v hv) (in_from (reverse_succ g starts u) v h)),
    );
  }

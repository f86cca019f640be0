-- What is left to do of a search whose stack has nodes with the index of the next successor, the newest last.
use Rattle.std.proofs.Common.{◌≡◌, ℕ, zero, suc, ◌+◌, ◌≤◌, Bool, true, false, List, [], ◌∷◌, ◌++◌, length, drop, take, slice_get, Some, refl, sym, ◌∙◌, ap, subst, append_assoc, add-one, append-nil, Contains}
use Rattle.pliron_graph_traversal.specs.Internal.Steps.{Finishes, Unwinds, IsWalkStep}
use Rattle.std.proofs.lemmas.List.{drop_all, take_more}
use Rattle.std.specs.List.{All}
use Rattle.std.proofs.lemmas.List.Elements.{All-push, All-pop, Contains-get_or}
use Rattle.pliron_graph_traversal.proofs.WorkLemmas.{falls_skipped, falls_visited, falls_left}
use Rattle.std.proofs.lemmas.Option.{slice_get_within, get_or_from_slice_get}
use Rattle.std.specs.List.{list_any}
use Rattle.pliron_graph_traversal.specs.Digraph.{Digraph}
use Rattle.pliron_graph_traversal.specs.Internal.Forest.{leaf, grow, forest_preorder, postorder, ForestGrows, done, skip, visit, Grew}

pub drop_at : {X : Type 0} (xs : List X) (i : ℕ) (x : X) → slice_get xs i ≡ Some x → drop i xs ≡ x ∷ drop (suc i) xs
drop_at [] i x e = absurd (cc)
drop_at (y ∷ ys) zero x e = let h : y ≡ x = cc in ap (λ z. z ∷ ys) h
drop_at (y ∷ ys) (suc i) x e = drop_at ys i x e

pub drop_next : {X : Type 0} (xs : List X) (i : ℕ) (x : X) → slice_get xs i ≡ Some x → drop i xs ≡ x ∷ drop (i + 1) xs
drop_next xs i x e = rw add-one (drop_at xs i x e)

pub take_next : {X : Type 0} (xs : List X) (i : ℕ) (x : X) → slice_get xs i ≡ Some x → take (i + 1) xs ≡ take i xs ++ x ∷ []
take_next xs i x e = take_more xs i x (slice_get_within xs i x e) ∙ ap (λ y. take i xs ++ y ∷ []) (get_or_from_slice_get xs i x x e)

pub last_in : {N : Type 0} (ns : List N) (es all : List (N × ℕ)) (e : N × ℕ) → all ≡ es ++ e ∷ [] → All (λ x. Contains ns x.0) all → Contains ns e.0
last_in {N} ns es all e is h = (All-pop (λ (x : N × ℕ). Contains ns x.0) all es (Some e) is h).1

module _ {N : Type 0} (eq : N → N → Bool) (g : Digraph N) where
  pub from_push : (es : List (N × ℕ)) (e : N × ℕ) (p q p' q' : List N) → Unwinds eq g (es ++ e ∷ []) p q p' q'
      → (pm : List N) × (qm : List N) × Finishes eq g e p q pm qm × Unwinds eq g es pm qm p' q'
  from_push [] e p q p' q' (pm, qm, (pe, qe), f) = (p', q', subst (λ x. Finishes eq g e x q p' q') pe (subst (λ x. Finishes eq g e pm x p' q') qe f), (refl, refl))
  from_push (d ∷ es) e p q p' q' (pm, qm, u, f) =
      let r = from_push es e p q pm qm u in (r.0, r.1, r.2, (pm, qm, r.3, f))

  pub to_push : (es : List (N × ℕ)) (e : N × ℕ) (p q pm qm p' q' : List N) → Finishes eq g e p q pm qm → Unwinds eq g es pm qm p' q' → Unwinds eq g (es ++ e ∷ []) p q p' q'
  to_push [] e p q pm qm p' q' f (pe, qe) = (p, q, (refl, refl), subst (λ x. Finishes eq g e p q x q') (sym pe) (subst (λ x. Finishes eq g e p q pm x) (sym qe) f))
  to_push (d ∷ es) e p q pm qm p' q' f (pn, qn, u, fd) = (pn, qn, to_push es e p q pm qm pn qn f u, fd)

  -- what was found from w, w itself, and what was found from the later roots
  pub joined : (w : N) (vs p q pm qm fa pn fb : List N) → list_any (eq w) p ≡ false → Grew eq g (g.succ w) (p ++ w ∷ []) q pm fa → qm ≡ fa ++ w ∷ [] → Grew eq g vs pm qm pn fb → Grew eq g (w ∷ vs) p q pn fb
  joined w vs p q pm qm fa pn fb unseen a e b = record {
    forest = grow w a.forest b.forest;
    grows = visit unseen a.grows (subst (λ x. ForestGrows eq g x vs b.forest) a.pre_is b.grows);
    pre_is = b.pre_is ∙ ap (λ x. x ++ forest_preorder b.forest) a.pre_is ∙ simp append_assoc;
    post_is = b.post_is ∙ ap (λ x. x ++ postorder b.forest) (e ∙ ap (λ x. x ++ w ∷ []) a.post_is) ∙ simp append_assoc;
  }

  -- a successor that was seen is passed over
  pub skipped : (es : List (N × ℕ)) (v w : N) (i : ℕ) (p q p' q' : List N) → slice_get (g.succ v) i ≡ Some w → list_any (eq w) p ≡ true
      → Unwinds eq g (es ++ (v, i + 1) ∷ []) p q p' q' → Unwinds eq g (es ++ (v, i) ∷ []) p q p' q'
  skipped es v w i p q p' q' at seen u =
      let r = from_push es (v, i + 1) p q p' q' u in
      let f : Finishes eq g (v, i + 1) p q r.0 r.1 = r.2 in
      to_push es (v, i) p q r.0 r.1 p' q' (record {
        found = f.found;
        grew = record {
          forest = f.grew.forest;
          grows = subst (λ vs. ForestGrows eq g p vs f.grew.forest) (sym (drop_next (g.succ v) i w at)) (skip seen f.grew.grows);
          pre_is = f.grew.pre_is;
          post_is = f.grew.post_is;
        };
        last = f.last;
      }) r.3

  -- one that was not is gone through first
  pub visited : (es : List (N × ℕ)) (v w : N) (i : ℕ) (p q p' q' : List N) → slice_get (g.succ v) i ≡ Some w → list_any (eq w) p ≡ false
      → Unwinds eq g ((es ++ (v, i + 1) ∷ []) ++ (w, 0) ∷ []) (p ++ w ∷ []) q p' q' → Unwinds eq g (es ++ (v, i) ∷ []) p q p' q'
  visited es v w i p q p' q' at unseen u =
      let r = from_push (es ++ (v, i + 1) ∷ []) (w, 0) (p ++ w ∷ []) q p' q' u in
      let s = from_push es (v, i + 1) r.0 r.1 p' q' r.3 in
      let a : Finishes eq g (w, 0) (p ++ w ∷ []) q r.0 r.1 = r.2 in
      let b : Finishes eq g (v, i + 1) r.0 r.1 s.0 s.1 = s.2 in
      to_push es (v, i) p q s.0 s.1 p' q' (record {
        found = b.found;
        grew = subst (λ vs. Grew eq g vs p q s.0 b.found) (sym (drop_next (g.succ v) i w at))
            (joined w (drop (i + 1) (g.succ v)) p q r.0 r.1 a.found s.0 b.found unseen a.grew a.last b.grew);
        last = b.last;
      }) s.3

  -- a node whose successors are all done is finished
  pub left : (es : List (N × ℕ)) (v : N) (i : ℕ) (p q p' q' : List N) → length (g.succ v) ≤ i
      → Unwinds eq g es p (q ++ v ∷ []) p' q' → Unwinds eq g (es ++ (v, i) ∷ []) p q p' q'
  left es v i p q p' q' past u = to_push es (v, i) p q p (q ++ v ∷ []) p' q' (record {
    found = q;
    grew = record {
      forest = leaf;
      grows = subst (λ vs. ForestGrows eq g p vs leaf) (sym (drop_all i (g.succ v) past)) done;
      pre_is = sym (append-nil p);
      post_is = sym (append-nil q);
    };
    last = refl;
  }) u

  pub started : (v : N) (p q p' q' : List N) → list_any (eq v) p ≡ false → Unwinds eq g ((v, 0) ∷ []) (p ++ v ∷ []) q p' q' → Grew eq g (v ∷ []) p q p' q'
  started v p q p' q' unseen u =
      let r = from_push [] (v, 0) (p ++ v ∷ []) q p' q' u in
      let a : Finishes eq g (v, 0) (p ++ v ∷ []) q r.0 r.1 = r.2 in
      joined v [] p q r.0 r.1 a.found p' q' unseen a.grew a.last (record {
        forest = leaf;
        grows = done;
        pre_is = r.3.0 ∙ sym (append-nil r.0);
        post_is = r.3.1 ∙ sym (append-nil r.1);
      })

  module _ (reflexive : (x : N) → eq x x ≡ true) (closed : (u v : N) → Contains g.nodes u → Contains (g.succ u) v → Contains g.nodes v) where
    all_pushed : (es : List (N × ℕ)) (e d : N × ℕ) → All (λ x. Contains g.nodes x.0) (es ++ e ∷ []) → Contains g.nodes d.0 → All (λ x. Contains g.nodes x.0) (es ++ d ∷ [])
    all_pushed es e d all here = All-push (λ x. Contains g.nodes x.0) es d (All-pop (λ (x : N × ℕ). Contains g.nodes x.0) (es ++ e ∷ []) es (Some e) refl all).0 here

    all_last : (es : List (N × ℕ)) (e : N × ℕ) → All (λ x. Contains g.nodes x.0) (es ++ e ∷ []) → Contains g.nodes e.0
    all_last es e all = (All-pop (λ (x : N × ℕ). Contains g.nodes x.0) (es ++ e ∷ []) es (Some e) refl all).1

    pub step_skipped : (es : List (N × ℕ)) (v w : N) (i : ℕ) (p q : List N) → slice_get (g.succ v) i ≡ Some w → list_any (eq w) p ≡ true
        → IsWalkStep eq g (es ++ (v, i) ∷ []) p q (es ++ (v, i + 1) ∷ []) p q
    step_skipped es v w i p q at seen = record {
      rest = λ pe qe u. skipped es v w i p q pe qe at seen u;
      descends = falls_skipped eq g es v i p (slice_get_within (g.succ v) i w at);
      nodes = λ all. all_pushed es (v, i) (v, i + 1) all (all_last es (v, i) all);
    }

    pub step_visited : (es : List (N × ℕ)) (v w : N) (i : ℕ) (p q : List N) → Contains g.nodes v → slice_get (g.succ v) i ≡ Some w → list_any (eq w) p ≡ false
        → IsWalkStep eq g (es ++ (v, i) ∷ []) p q ((es ++ (v, i + 1) ∷ []) ++ (w, 0) ∷ []) (p ++ w ∷ []) q
    step_visited es v w i p q member at unseen =
        let within = slice_get_within (g.succ v) i w at in
        let is : Contains (g.succ v) w = subst (Contains (g.succ v)) (get_or_from_slice_get (g.succ v) i w w at) (Contains-get_or (g.succ v) i w within) in
        let there : Contains g.nodes w = closed v w member is in
        record {
          rest = λ pe qe u. visited es v w i p q pe qe at unseen u;
          descends = falls_visited eq g es v w i p within there unseen (reflexive w);
          nodes = λ all. All-push (λ x. Contains g.nodes x.0) (es ++ (v, i + 1) ∷ []) (w, 0) (all_pushed es (v, i) (v, i + 1) all (all_last es (v, i) all)) there;
        }

    pub step_left : (es : List (N × ℕ)) (v : N) (i : ℕ) (p q : List N) → length (g.succ v) ≤ i
        → IsWalkStep eq g (es ++ (v, i) ∷ []) p q es p (q ++ v ∷ [])
    step_left es v i p q past = record {
      rest = λ pe qe u. left es v i p q pe qe past u;
      descends = falls_left eq g es v i p;
      nodes = λ all. (All-pop (λ (x : N × ℕ). Contains g.nodes x.0) (es ++ (v, i) ∷ []) es (Some (v, i)) refl all).0;
    }

  pub before_step : (es all : List (N × ℕ)) (e : N × ℕ) (p q : List N) (es' : List (N × ℕ)) (p' q' : List N) → all ≡ es ++ e ∷ [] → IsWalkStep eq g (es ++ e ∷ []) p q es' p' q' → IsWalkStep eq g all p q es' p' q'
  before_step es all e p q es' p' q' is s = subst (λ x. IsWalkStep eq g x p q es' p' q') (sym is) s

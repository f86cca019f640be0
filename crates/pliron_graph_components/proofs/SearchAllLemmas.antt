-- A search from a list of roots, one after the other.
use Rattle.std.proofs.Common.{◌≡◌, ℕ, ◌+◌, ◌≤◌, Bool, true, List, [], ◌∷◌, ◌++◌, length, take, slice_get, Some, sym, ◌∙◌, ap, subst, refl, append_assoc, append-nil}
use Rattle.std.specs.List.{list_any}
use Rattle.std.proofs.lemmas.List.{take_all}
use Rattle.pliron_graph_traversal.specs.Digraph.{Digraph}
use Rattle.pliron_graph_traversal.specs.Internal.Forest.{Forest, leaf, grow, forest_preorder, postorder, ForestGrows, done, skip, Grew}
use Rattle.pliron_graph_traversal.proofs.WalkLemmas.{plus, pre_plus, grows_plus}
use Rattle.pliron_graph_traversal.proofs.UnwindingLemmas.{take_next}

module _ {N : Type 0} (eq : N → N → Bool) (g : Digraph N) where
  post_plus : (f h : Forest N) → postorder (plus f h) ≡ postorder f ++ postorder h
  post_plus leaf h = refl
  post_plus (grow r c s) h = ap (λ x. postorder c ++ (r ∷ x)) (post_plus s h) ∙ simp append_assoc

  -- one search after another
  pub grew_plus : (xs ys p q p' q' p'' q'' : List N) → Grew eq g xs p q p' q' → Grew eq g ys p' q' p'' q'' → Grew eq g (xs ++ ys) p q p'' q''
  grew_plus xs ys p q p' q' p'' q'' a b = record {
    forest = plus a.forest b.forest;
    grows = grows_plus eq g a.grows (subst (λ x. ForestGrows eq g x ys b.forest) a.pre_is b.grows);
    pre_is = b.pre_is ∙ ap (λ x. x ++ forest_preorder b.forest) a.pre_is ∙ append_assoc p (forest_preorder a.forest) (forest_preorder b.forest) ∙ ap (λ x. p ++ x) (sym (pre_plus a.forest b.forest));
    post_is = b.post_is ∙ ap (λ x. x ++ postorder b.forest) a.post_is ∙ append_assoc q (postorder a.forest) (postorder b.forest) ∙ ap (λ x. q ++ x) (sym (post_plus a.forest b.forest));
  }

  pub grew_none : (p q : List N) → Grew eq g [] p q p q
  grew_none p q = record { forest = leaf; grows = done; pre_is = sym (append-nil p); post_is = sym (append-nil q) }

  grew_past : (v : N) (p q : List N) → list_any (eq v) p ≡ true → Grew eq g (v ∷ []) p q p q
  grew_past v p q seen = record { forest = leaf; grows = skip seen done; pre_is = sym (append-nil p); post_is = sym (append-nil q) }

  module _ (roots : List N) (i : ℕ) (v : N) (at : slice_get roots i ≡ Some v) where
    pub grew_more : (p q p' q' : List N) → Grew eq g (v ∷ []) p q p' q' → Grew eq g (take i roots) [] [] p q → Grew eq g (take (i + 1) roots) [] [] p' q'
    grew_more p q p' q' new old = subst (λ xs. Grew eq g xs [] [] p' q') (sym (take_next roots i v at)) (grew_plus (take i roots) (v ∷ []) [] [] p q p' q' old new)

    pub grew_over : (p q : List N) → list_any (eq v) p ≡ true → Grew eq g (take i roots) [] [] p q → Grew eq g (take (i + 1) roots) [] [] p q
    grew_over p q seen old = grew_more p q p q (grew_past v p q seen) old

  pub grew_all : (roots p q : List N) (i : ℕ) → length roots ≤ i → Grew eq g (take i roots) [] [] p q → Grew eq g roots [] [] p q
  grew_all roots p q i l old = subst (λ xs. Grew eq g xs [] [] p q) (take_all i roots l) old

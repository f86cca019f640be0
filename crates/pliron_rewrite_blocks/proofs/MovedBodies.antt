-- The operations of one block become the last of another one.
use Rattle.std.proofs.Common.{◌≡◌, ◌≢◌, inl, inr, ⊎_elim, ℕ, ◌<◌, if◌then◌else◌, List, [], ◌∷◌, ◌++◌, length, get_or, Option, Some, None, refl, sym, ap, ◌∙◌, subst, append_assoc, append-nil, arith}
use Rattle.std.proofs.lemmas.Bool.{cases_eq, eq-eqb}
use Rattle.std.proofs.lemmas.List.{length-set, get_or-set_other, get_or-set_same}
use Rattle.pliron_core.specs.Lists.{IsDistinct, without}
use Rattle.pliron_core.specs.Tree.{Tree, In, parent_of, body_of}
use Rattle.pliron_core.specs.Writes.{taken_from, put_last, moved_last}
use Rattle.pliron_core.proofs.ListLemmas.{In-left, In-right, In-cases}
use Rattle.pliron_rewrite_blocks.specs.Pairs.{all_moved_last}

module _ (t : Tree) (a b : ℕ) (ne : a ≢ b) (front : List ℕ) where
  -- the operations `done` of b moved to the end of a, and `rest` did not yet
  pub record IsMoving (u : Tree) (done rest : List ℕ) : Type 0 where
    pub shape : u ≡ record t { bodies = u.bodies; parents = u.parents }
    pub long : length u.bodies ≡ length t.bodies
    pub parents_long : length u.parents ≡ length t.parents
    pub at_a : body_of u a ≡ front ++ done
    pub at_b : body_of u b ≡ rest
    pub others : (c : ℕ) → c ≢ a → c ≢ b → body_of u c ≡ body_of t c
    pub moved : (k : ℕ) → In k done → parent_of u k ≡ Some a
    pub stays : (k : ℕ) → (In k done → ⊥) → parent_of u k ≡ parent_of t k

  module _ (a_in : a < length t.bodies) (b_in : b < length t.bodies) where
    module _ (u : Tree) (done rest : List ℕ) (k : ℕ) (h : IsMoving u done (k ∷ rest)) (in_b : parent_of u k ≡ Some b) (k_in : k < length t.parents) (fresh : In k done → ⊥) where
      abbrev q : Tree
      q = taken_from u k (Some b)

      abbrev next : Tree
      next = put_last (taken_from u k (Some b)) k a

      drop_first : without k (k ∷ rest) ≡ rest
      drop_first = ap (λ z. if z then rest else k ∷ without k rest) (eq-eqb k k refl)

      step : IsMoving next (done ++ k ∷ []) rest
      step = record {
        shape = ap {A = Tree} (λ (z : Tree). record z { bodies = next.bodies; parents = next.parents }) h.shape;
        long = length-set q.bodies a _ ∙ length-set u.bodies b _ ∙ h.long;
        parents_long = length-set q.parents k _ ∙ length-set u.parents k _ ∙ h.parents_long;
        at_a = get_or-set_same q.bodies a (body_of q a ++ k ∷ []) [] (let x = length-set u.bodies b (without k (body_of u b)) in let y = h.long in omega (arith, x, y, a_in)) ∙ ap (λ z. z ++ k ∷ []) (get_or-set_other u.bodies b a (without k (body_of u b)) [] ne ∙ h.at_a) ∙ append_assoc front done (k ∷ []);
        at_b = get_or-set_other q.bodies a b (body_of q a ++ k ∷ []) [] (λ e. ne (sym e)) ∙ get_or-set_same u.bodies b (without k (body_of u b)) [] (let y = h.long in omega (arith, y, b_in)) ∙ ap (without k) h.at_b ∙ drop_first;
        others = λ c na nb. get_or-set_other q.bodies a c (body_of q a ++ k ∷ []) [] na ∙ get_or-set_other u.bodies b c (without k (body_of u b)) [] nb ∙ h.others c na nb;
        moved = λ x i. elim (cases_eq x k) [
          | inl e ↦ ap (λ z. get_or next.parents z None) e ∙ get_or-set_same q.parents k (Some a) None (let x = length-set u.parents k None in let y = h.parents_long in omega (arith, x, y, k_in))
          | inr nk ↦ get_or-set_other q.parents k x (Some a) None nk ∙ get_or-set_other u.parents k x None None nk ∙ h.moved x (⊎_elim (λ j. j) (λ j. ⊎_elim (λ e. absurd (nk e)) (λ z. absurd z) j) (In-cases x done (k ∷ []) i))
        ];
        stays = λ x out.
            let nk : x ≢ k = λ e. out (In-right x done (k ∷ []) (inl e)) in
            get_or-set_other q.parents k x (Some a) None nk ∙ get_or-set_other u.parents k x None None nk ∙ h.stays x (λ i. out (In-left x done (k ∷ []) i));
      }

      pub moved_on : IsMoving (moved_last u k a) (done ++ k ∷ []) rest
      moved_on = subst (λ (z : Tree). IsMoving z (done ++ k ∷ []) rest) (ap {A = Option ℕ} (λ o. put_last (taken_from u k o) k a) (sym in_b)) step

    pub all_moved : (u : Tree) (done ks : List ℕ) → IsMoving u done ks → IsDistinct ks → ((k : ℕ) → In k ks → (parent_of t k ≡ Some b) × (k < length t.parents) × (In k done → ⊥)) → IsMoving (all_moved_last u ks a) (done ++ ks) []
    all_moved u done [] h d f = subst (λ xs. IsMoving u xs []) (sym (append-nil done)) h
    all_moved u done (k ∷ ks) h d f =
        let x = f k (inl refl) in
        let next = moved_on u done ks k h (h.stays k x.2 ∙ x.0) x.1 x.2 in
        subst (λ xs. IsMoving (all_moved_last (moved_last u k a) ks a) xs []) (append_assoc done (k ∷ []) ks)
        (all_moved (moved_last u k a) (done ++ k ∷ []) ks next d.1 (λ j i. let y = f j (inr i) in (y.0, y.1, λ q. ⊎_elim y.2 (λ z. ⊎_elim (λ e. d.0 (subst (λ p. In p ks) e i)) (λ z. absurd z) z) (In-cases j done (k ∷ []) q))))

-- Edges stay where a constant is put before an operation and has the uses of a value.
use Rattle.std.proofs.Common.{◌≡◌, ◌≢◌, ◌⊎◌, inl, inr, ℕ, ◌<◌, ◌≤◌, Bool, false, cond, List, [], ◌∷◌, length, filter, Option, Some, None, refl, sym, ap, ◌∙◌, subst, arith}
use Rattle.std.proofs.lemmas.Bool.{cases_eq}
use Rattle.std.proofs.lemmas.List.{get_or_past, get_or-set_other, get_or-set_same, length-append}
use Rattle.pliron_core.specs.Lists.{In, put_before, last_of}
use Rattle.pliron_core.specs.Tree.{Tree, no_entry, regions_of, successors_of, parent_of, body_of, IsBlock}
use Rattle.pliron_core.proofs.TreeLemmas.{block-within}
use Rattle.pliron_core.specs.Edges.{succs_of, succs_from}
use Rattle.pliron_core.specs.Invariant.{IsTree}
use Rattle.pliron_core.specs.Writes.{after_creating, after_replacing, after_placing, put_next_to, put_first}
use Rattle.pliron_core.proofs.EditLemmas.{put_before-first, put_before-other}
use Rattle.pliron_core.proofs.BesideLemmas.{created_beside}
use Rattle.pliron_core.proofs.GrownLemmas.{get_grown}
use Rattle.pliron_laws.specs.Datum.{Head}
use Rattle.pliron_laws.specs.Outcomes.{after_materialising}
use Rattle.pliron_laws.proofs.ConstantLemmas.{new_row, made_row}
use Rattle.pliron_theory.specs.Edges.{has_regions, has_entries, EdgesAlike}

last_put : (op c : ℕ) (before : Option ℕ) (ys : List ℕ) → last_of before (put_before op c ys) ≡ last_of before ys
last_put op c before [] = refl
last_put op c before (y ∷ ys) = elim (cases_eq op y) [
  | inl e ↦ ap (last_of before) (put_before-first op c y ys e)
  | inr ne ↦ ap (last_of before) (put_before-other op c y ys ne) ∙ last_put op c (Some y) ys
]

filter_put : (p : ℕ → Bool) (op c : ℕ) (ys : List ℕ) → p c ≡ false → filter p (put_before op c ys) ≡ filter p ys
filter_put p op c [] e = refl
filter_put p op c (y ∷ ys) e = elim (cases_eq op y) [
  | inl h ↦ ap (filter p) (put_before-first op c y ys h) ∙ ap (λ b. cond b (c ∷ filter p (y ∷ ys)) (filter p (y ∷ ys))) e
  | inr ne ↦ ap (filter p) (put_before-other op c y ys ne) ∙ ap (λ zs. cond (p y) (y ∷ zs) zs) (filter_put p op c ys e)
]

module _ (t : Tree) (op v b : ℕ) (head : Head) (w : IsTree t) (at : parent_of t op ≡ Some b) where
  abbrev c : ℕ
  c = length t.operations

  abbrev made : Tree
  made = after_creating t head 1 0

  abbrev u : Tree
  u = after_replacing (after_placing made c b (put_before op c (body_of t b))) v (length t.definitions)

  within_bodies : b < length t.bodies
  within_bodies = elim (cases b (length t.bodies)) [ inl lt ↦ lt | inr le ↦ absurd (none (subst (In op) (get_or_past t.bodies b [] le) (w.bodies.listed op b at))) ]
    where
      cases : (x n : ℕ) → (x < n) ⊎ (n ≤ x)
      cases x n = grind arith

      none : In op [] → ⊥
      none i = elim i [ ]

  body_there : body_of u b ≡ put_before op c (body_of t b)
  body_there = get_or-set_same t.bodies b (put_before op c (body_of t b)) [] within_bodies

  body_elsewhere : (l : ℕ) → l ≢ b → body_of u l ≡ body_of t l
  body_elsewhere l ne = get_or-set_other t.bodies b l (put_before op c (body_of t b)) [] ne

  new_one : regions_of t c ≡ []
  new_one = ap (λ r. r.regions) (get_or_past t.operations c no_entry (omega arith))

  regions_alike : (k : ℕ) → regions_of u k ≡ regions_of t k
  regions_alike k = elim (cases_eq k c) [
    | inl e ↦ ap (λ z. regions_of u z) e ∙ ap (λ r. r.regions) (made_row t made c head refl refl) ∙ sym new_one ∙ ap (λ z. regions_of t z) (sym e)
    | inr ne ↦ ap (λ r. r.regions) ((created_beside t head 1 0 w).operations k ne)
  ]

  last_alike : (l : ℕ) → last_of None (body_of u l) ≡ last_of None (body_of t l)
  last_alike l = elim (cases_eq l b) [
    | inl e ↦ ap (λ z. last_of None (body_of u z)) e ∙ ap (last_of None) body_there ∙ last_put op c None (body_of t b) ∙ ap (λ z. last_of None (body_of t z)) (sym e)
    | inr ne ↦ ap (last_of None) (body_elsewhere l ne)
  ]

  succs_alike : (l : ℕ) → succs_of u l ≡ succs_of t l
  succs_alike l = ap (succs_from u) (last_alike l) ∙ go (last_of None (body_of t l))
    where
      go : (o : Option ℕ) → succs_from u o ≡ succs_from t o
      go None = refl
      go (Some k) = get_grown t.successors [] k

  bodies_alike : (l : ℕ) → filter (λ k. has_regions t k) (body_of u l) ≡ filter (λ k. has_regions t k) (body_of t l)
  bodies_alike l = elim (cases_eq l b) [
    | inl e ↦ ap (λ z. filter (λ k. has_regions t k) (body_of u z)) e ∙ ap (filter (λ k. has_regions t k)) body_there ∙ filter_put (λ k. has_regions t k) op c (body_of t b) (ap has_entries new_one) ∙ ap (λ z. filter (λ k. has_regions t k) (body_of t z)) (sym e)
    | inr ne ↦ ap (filter (λ k. has_regions t k)) (body_elsewhere l ne)
  ]

  there : EdgesAlike t u
  there = record {
    grows = omega (arith, length-append t.operations (new_row t head ∷ []));
    regions = regions_alike;
    layouts = (created_beside t head 1 0 w).layouts;
    successors = succs_alike;
    bodies = bodies_alike;
  }

  pub put_alike : EdgesAlike t (after_materialising t op v head)
  put_alike = subst (λ z. EdgesAlike t z) (sym (ap (λ o. after_replacing (put_next_to made c op o) v (length t.definitions)) at)) there

-- the same where it is put first in a block
module _ (t : Tree) (v b : ℕ) (head : Head) (w : IsTree t) (is : IsBlock t b) where
  abbrev c₁ : ℕ
  c₁ = length t.operations

  abbrev made₁ : Tree
  made₁ = after_creating t head 1 0

  abbrev u₁ : Tree
  u₁ = after_replacing (put_first made₁ c₁ b) v (length t.definitions)

  body_first : body_of u₁ b ≡ c₁ ∷ body_of t b
  body_first = get_or-set_same t.bodies b (c₁ ∷ body_of t b) [] (block-within t b w.keys is)

  body_other : (l : ℕ) → l ≢ b → body_of u₁ l ≡ body_of t l
  body_other l ne = get_or-set_other t.bodies b l (c₁ ∷ body_of t b) [] ne

  no_regions : regions_of t c₁ ≡ []
  no_regions = ap (λ r. r.regions) (get_or_past t.operations c₁ no_entry (omega arith))

  no_edges : successors_of u₁ c₁ ≡ []
  no_edges = get_grown t.successors [] c₁ ∙ get_or_past t.successors c₁ [] (omega (arith, w.keys.successors))

  regions_first : (k : ℕ) → regions_of u₁ k ≡ regions_of t k
  regions_first k = elim (cases_eq k c₁) [
    | inl e ↦ ap (λ z. regions_of u₁ z) e ∙ ap (λ r. r.regions) (made_row t made₁ c₁ head refl refl) ∙ sym no_regions ∙ ap (λ z. regions_of t z) (sym e)
    | inr ne ↦ ap (λ r. r.regions) ((created_beside t head 1 0 w).operations k ne)
  ]

  from_alike : (o : Option ℕ) → succs_from u₁ o ≡ succs_from t o
  from_alike None = refl
  from_alike (Some k) = get_grown t.successors [] k

  front : (ys : List ℕ) → succs_from u₁ (last_of None (c₁ ∷ ys)) ≡ succs_from t (last_of None ys)
  front [] = no_edges
  front (y ∷ ys) = from_alike (last_of (Some y) ys)

  succs_first : (l : ℕ) → succs_of u₁ l ≡ succs_of t l
  succs_first l = elim (cases_eq l b) [
    | inl e ↦ ap (λ z. succs_of u₁ z) e ∙ ap (λ ys. succs_from u₁ (last_of None ys)) body_first ∙ front (body_of t b) ∙ ap (λ z. succs_of t z) (sym e)
    | inr ne ↦ ap (λ ys. succs_from u₁ (last_of None ys)) (body_other l ne) ∙ from_alike (last_of None (body_of t l))
  ]

  bodies_first : (l : ℕ) → filter (λ k. has_regions t k) (body_of u₁ l) ≡ filter (λ k. has_regions t k) (body_of t l)
  bodies_first l = elim (cases_eq l b) [
    | inl e ↦ ap (λ z. filter (λ k. has_regions t k) (body_of u₁ z)) e ∙ ap (filter (λ k. has_regions t k)) body_first ∙ ap (λ x. cond x (c₁ ∷ filter (λ k. has_regions t k) (body_of t b)) (filter (λ k. has_regions t k) (body_of t b))) (ap has_entries no_regions) ∙ ap (λ z. filter (λ k. has_regions t k) (body_of t z)) (sym e)
    | inr ne ↦ ap (filter (λ k. has_regions t k)) (body_other l ne)
  ]

  pub first_alike : EdgesAlike t (after_replacing (put_first (after_creating t head 1 0) (length t.operations) b) v (length t.definitions))
  first_alike = record {
    grows = omega (arith, length-append t.operations (new_row t head ∷ []));
    regions = regions_first;
    layouts = (created_beside t head 1 0 w).layouts;
    successors = succs_first;
    bodies = bodies_first;
  }

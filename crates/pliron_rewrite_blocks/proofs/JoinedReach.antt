-- Joining keeps which blocks lead to which.
use Rattle.std.proofs.Common.{◌≡◌, ◌≢◌, inl, ⊎_elim, ℕ, List, [], ◌∷◌, ◌++◌, Option, Some, None, refl, sym, ap, ◌∙◌, subst, append-nil}
use Rattle.std.proofs.lemmas.Bool.{cases_eq}
use Rattle.pliron_core.specs.Lists.{IsDistinct}
use Rattle.pliron_core.specs.Tree.{Tree, In, last_of, IsInside.Directly, successors_of, parent_of, body_of, block_parent_operation_of}
use Rattle.pliron_core.specs.Invariant.{IsTree}
use Rattle.pliron_core.specs.Edges.{succs_of, succs_from}
use Rattle.pliron_core.proofs.ListLemmas.{In-left, In-right, distinct-apart}
use Rattle.pliron_core.proofs.NeighbourLemmas.{last_of-In}
use Rattle.pliron_core.proofs.RowLemmas.{last_of-append}
use Rattle.pliron_core.proofs.HoldingLemmas.{some_is, holder_by}
use Rattle.pliron_laws.specs.Linked.{EdgesLast}
use Rattle.pliron_laws.specs.Paths.{Path, Leads}
use Rattle.pliron_theory.specs.Splicing.{IsSpliced}
use Rattle.pliron_rewrite_blocks.specs.Reaching.{LeadsTo, ReachingLaw}

module _ (t t' : Tree) (holder a b jump : ℕ) (front : List ℕ) (w : IsTree t) (w' : IsTree t') (edges : EdgesLast t holder) (held : block_parent_operation_of t a ≡ Some holder) (h : IsSpliced t t' a b jump front) where
  in_a : parent_of t jump ≡ Some a
  in_a = w.bodies.owned jump a (subst (In jump) (sym h.split) (In-right jump front (jump ∷ []) (inl refl)))

  jump_last : last_of None (body_of t a) ≡ Some jump
  jump_last = ap (last_of None) h.split ∙ last_of-append None front (jump ∷ [])

  succs_a : succs_of t a ≡ b ∷ []
  succs_a = ap (succs_from t) jump_last ∙ h.goes

  -- what ends another block is not the jump
  from_same : (c : ℕ) → c ≢ a → (o : Option ℕ) → last_of None (body_of t c) ≡ o → succs_from t' o ≡ succs_from t o
  from_same c ne None e = refl
  from_same c ne (Some k) e = h.successors k (λ s. ne (some_is (sym (w.bodies.owned k c (last_of-In k (body_of t c) e)) ∙ ap (parent_of t) s ∙ in_a)))

  succs_other : (c : ℕ) → c ≢ a → c ≢ b → succs_of t' c ≡ succs_of t c
  succs_other c na nb = ap (λ l. succs_from t' (last_of None l)) (h.bodies c na nb) ∙ from_same c na (last_of None (body_of t c)) refl

  -- what stands before the jump has no successors
  none_before : (k : ℕ) → In k front → successors_of t k ≡ []
  none_before k i = go (successors_of t k) refl
    where
      k_in : parent_of t k ≡ Some a
      k_in = w.bodies.owned k a (subst (In k) (sym h.split) (In-left k front (jump ∷ []) i))

      go : (xs : List ℕ) → successors_of t k ≡ xs → xs ≡ []
      go [] e = refl
      go (x ∷ xs) e =
          let ends = edges k x (subst (In x) (sym e) (inl refl)) (inl (Directly (holder_by t k a holder k_in held))) in
          let same : k ≡ jump = some_is (sym ends.last ∙ ap (λ c. last_of None (body_of t c)) (some_is (sym ends.in_block ∙ k_in)) ∙ jump_last) in
          absurd (distinct-apart front (jump ∷ []) (subst IsDistinct h.split (w.bodies.distinct a)) k i (inl same))

  not_jump : (k : ℕ) → In k front → k ≢ jump
  not_jump k i e = distinct-apart front (jump ∷ []) (subst IsDistinct h.split (w.bodies.distinct a)) k i (inl e)

  succs_joined : succs_of t' a ≡ succs_of t b
  succs_joined = ap (λ l. succs_from t' (last_of None l)) h.joined ∙ go (body_of t b) refl
    where
      empty : (o : Option ℕ) → last_of None front ≡ o → succs_from t' o ≡ []
      empty None e = refl
      empty (Some k) e = let i = last_of-In k front e in h.successors k (not_jump k i) ∙ none_before k i

      go : (xs : List ℕ) → body_of t b ≡ xs → succs_from t' (last_of None (front ++ xs)) ≡ succs_from t (last_of None xs)
      go [] e = ap (λ l. succs_from t' (last_of None l)) (append-nil front) ∙ empty (last_of None front) refl
      go (x ∷ xs) e = ap (succs_from t') (last_of-append None front (x ∷ xs)) ∙ from_same b (λ s. h.apart (sym s)) (last_of None (x ∷ xs)) (ap (last_of None) e)

  only_b : (x : ℕ) → In x (succs_of t a) → x ≡ b
  only_b x i = ⊎_elim (λ e. e) (λ z. absurd z) (subst (In x) succs_a i)

  -- steps between blocks that are left
  step_forth : (c v : ℕ) → c ≢ a → c ≢ b → v ≢ b → Leads t c v → Leads t' c v
  step_forth c v na nb nv l = record { successor = subst (In v) (sym (succs_other c na nb)) l.successor; same_region = h.block_parents v nv ∙ l.same_region ∙ sym (h.block_parents c nb) }

  step_back : (c v : ℕ) → c ≢ a → c ≢ b → v ≢ b → Leads t' c v → Leads t c v
  step_back c v na nb nv l = record { successor = subst (In v) (succs_other c na nb) l.successor; same_region = sym (h.block_parents v nv) ∙ l.same_region ∙ h.block_parents c nb }

  -- steps from the joined block
  joined_forth : (v : ℕ) → v ≢ b → Leads t b v → Leads t' a v
  joined_forth v nv l = record { successor = subst (In v) (sym succs_joined) l.successor; same_region = h.block_parents v nv ∙ l.same_region ∙ h.beside ∙ sym (h.block_parents a h.apart) }

  joined_back : (v : ℕ) → v ≢ b → Leads t' a v → Leads t b v
  joined_back v nv l = record { successor = subst (In v) succs_joined l.successor; same_region = sym (h.block_parents v nv) ∙ l.same_region ∙ h.block_parents a h.apart ∙ sym h.beside }

  a_to_b : Leads t a b
  a_to_b = record { successor = subst (In b) (sym succs_a) (inl refl); same_region = h.beside }

  -- only a leads to b
  to_b : (c : ℕ) → In b (succs_of t c) → c ≡ a
  to_b c i = go (last_of None (body_of t c)) refl i
    where
      go : (o : Option ℕ) → last_of None (body_of t c) ≡ o → In b (succs_from t o) → c ≡ a
      go None e j = absurd j
      go (Some k) e j = some_is (sym (w.bodies.owned k c (last_of-In k (body_of t c) e)) ∙ ap (parent_of t) (h.only k j) ∙ in_a)

  -- the block that went leads nowhere
  gone_leads : (v : ℕ) → In v (succs_of t' b) → ⊥
  gone_leads v i = subst (λ l. In v (succs_from t' (last_of None l))) (w'.joined.unplaced b h.detached_block).1 i

  forth : (u v : ℕ) (before : List ℕ) → u ≢ b → v ≢ b → Path t u v before → LeadsTo t' u v
  forth u v [] nu nv p = ([], p)
  forth u v (c ∷ []) nu nv p = ⊎_elim
      (λ e. absurd (nv (only_b v (subst (λ z. In v (succs_of t z)) e p.0.successor))))
      (λ na. (c ∷ [], (step_forth c v na (λ e. nu (p.1 ∙ e)) nv p.0, p.1)))
      (cases_eq c a)
  forth u v (c ∷ d ∷ ds) nu nv p = ⊎_elim
      (λ e.
      let s : d ≡ a = to_b d (subst (λ z. In z (succs_of t d)) e p.1.0.successor) in
      let r = forth u d ds nu (λ z. h.apart (sym s ∙ z)) p.1.1 in
      (a ∷ r.0, (joined_forth v nv (subst (λ z. Leads t z v) e p.0), subst (λ z. Path t' u z r.0) s r.1)))
      (λ nb. ⊎_elim
      (λ e. absurd (nv (only_b v (subst (λ z. In v (succs_of t z)) e p.0.successor))))
      (λ na. let r = forth u c (d ∷ ds) nu nb p.1 in (c ∷ r.0, (step_forth c v na nb nv p.0, r.1)))
      (cases_eq c a))
      (cases_eq c b)

  back : (u v : ℕ) (before : List ℕ) → u ≢ b → v ≢ b → Path t' u v before → LeadsTo t u v
  back u v [] nu nv p = ([], p)
  back u v (c ∷ before) nu nv p =
      let nb : c ≢ b = λ e. gone_leads v (subst (λ z. In v (succs_of t' z)) e p.0.successor) in
      let r = back u c before nu nb p.1 in
      ⊎_elim
      (λ e. (b ∷ a ∷ r.0, (joined_back v nv (subst (λ z. Leads t' z v) e p.0), (a_to_b, subst (λ z. Path t u z r.0) e r.1))))
      (λ na. (c ∷ r.0, (step_back c v na nb nv p.0, r.1)))
      (cases_eq c a)

pub reaching : ReachingLaw
reaching t t' holder a b jump front w w' edges held h = record {
  forth = λ u v nu nv l. forth t t' holder a b jump front w w' edges held h u v l.0 nu nv l.1;
  back = λ u v nu nv l. back t t' holder a b jump front w w' edges held h u v l.0 nu nv l.1;
}

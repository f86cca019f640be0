-- Edges stay where an operation without regions is erased.
use Rattle.std.proofs.Common.{◌≡◌, inl, ⊎_elim, ℕ, Bool, true, false, true≢false, cond, List, [], ◌∷◌, filter, nat_eq, get_or, Option, Some, None, refl, sym, ap, ◌∙◌, subst, arith}
use Rattle.pliron_core.specs.Lists.{In, last_of}
use Rattle.pliron_core.specs.Tree.{Tree, IsLive, IsInside, Directly, Deeper, HoldsBlock, regions_of, successors_of, parent_of, body_of, block_parent_operation_of, region_parent_of, layout_of, up_from}
use Rattle.pliron_core.specs.Edges.{succs_of, succs_from}
use Rattle.pliron_core.specs.Invariant.{IsTree}
use Rattle.pliron_core.specs.Erased.{after_erasing, is_met_above, IsSelfContained}
use Rattle.pliron_core.specs.Writes.{taken_from}
use Rattle.pliron_core.proofs.BlankLemmas.{blanked_kept, blanked_gone}
use Rattle.pliron_core.proofs.ClearedLemmas.{met_above}
use Rattle.pliron_core.proofs.ErasedLemmas.{taken-met}
use Rattle.pliron_core.proofs.HoldingLemmas.{some_is}
use Rattle.pliron_core.proofs.LastLemmas.{last_in}
use Rattle.pliron_core.proofs.WithinLemmas.{within_is}
use Rattle.pliron_laws.specs.Linked.{EdgesLast}
use Rattle.pliron_theory.specs.Edges.{EdgesAlike, has_regions, has_entries}
use Rattle.pliron_theory.specs.Sweeping.{swept, keep}
use Rattle.pliron_theory.proofs.ErasedKeeps.{op_erased, block_erased_with, erased_swept, erased_gone, as_many}
use Rattle.pliron_theory.proofs.SweptLists.{from_swept, last_swept}
use Rattle.pliron_theory.proofs.SweptParts.{gone_away}
use Rattle.pliron_rewrite_equals.proofs.Merging.{nothing_inside, nothing_held}

-- what the test lets through stays in a list without others
filter_swept : (dead p : ℕ → Bool) (ks : List ℕ) → ((k : ℕ) → dead k ≡ true → p k ≡ false) → filter p (swept dead ks) ≡ filter p ks
filter_swept dead p [] h = refl
filter_swept dead p (k ∷ ks) h = go (dead k) refl (filter_swept dead p ks h)
  where
    go : (b : Bool) → dead k ≡ b → filter p (swept dead ks) ≡ filter p ks → filter p (keep b k (swept dead ks)) ≡ filter p (k ∷ ks)
    go true d e = e ∙ ap (λ b. cond b (k ∷ filter p ks) (filter p ks)) (sym (h k d))
    go false d e = ap (λ zs. cond (p k) (k ∷ zs) zs) e

taken-layouts : (t : Tree) (op : ℕ) (o : Option ℕ) → (taken_from t op o).layouts ≡ t.layouts
taken-layouts t op None = refl
taken-layouts t op (Some b) = refl

taken-region_parent : (t : Tree) (op : ℕ) (o : Option ℕ) (r : ℕ) → region_parent_of (taken_from t op o) r ≡ region_parent_of t r
taken-region_parent t op None r = refl
taken-region_parent t op (Some b) r = refl

empty_entries : (xs : List ℕ) → xs ≡ [] → has_entries xs ≡ false
empty_entries xs e = ap has_entries e

module _ (t : Tree) (op : ℕ) (w : IsTree t) (none : regions_of t op ≡ []) where
  -- it holds nothing
  no_inside : (x : ℕ) → IsInside t op x → ⊥
  no_inside x i = nothing_inside t op x w none i

  no_held : (b : ℕ) → HoldsBlock t op b → ⊥
  no_held b i = nothing_held t op b w none i

  reported : (b : Bool) → (b ≡ true → ⊥) → b ≡ false
  reported true never = absurd (never refl)
  reported false never = refl

  pub only_itself : (k : ℕ) → op_erased t op k ≡ true → k ≡ op
  only_itself k d = ⊎_elim (λ e. e) (λ i. absurd (no_inside k i)) (within_is t op k d)

  pub block_left : (b : ℕ) → block_erased_with t op b ≡ false
  block_left b = reported _ (λ d. let m = met_above t op (block_parent_operation_of t b) d in no_held b (m.0, m.1, m.2))

  module _ (live : IsLive t op) (contained : IsSelfContained t op) (w' : IsTree (after_erasing t op)) (root : ℕ) (edges : EdgesLast t root) (inside : IsInside t root op) (nowhere : (b : ℕ) → In b (successors_of t op) → ⊥) where
    t' : Tree
    t' = after_erasing t op

    abbrev dead : ℕ → Bool
    dead = λ k. op_erased t op k

    no_successors : successors_of t op ≡ []
    no_successors = go (successors_of t op) refl
      where
        go : (xs : List ℕ) → successors_of t op ≡ xs → successors_of t op ≡ []
        go [] e = e
        go (x ∷ xs) e = absurd (nowhere x (subst (In x) (sym e) (inl refl)))

    regions_stay : (k : ℕ) → regions_of (after_erasing t op) k ≡ regions_of t k
    regions_stay k = go (op_erased t op k) refl
      where
        go : (b : Bool) → op_erased t op k ≡ b → regions_of (after_erasing t op) k ≡ regions_of t k
        go false d = ap (λ z. z.regions) ((erased_swept t op w live contained).rows k d)
        go true d = (gone_away (after_erasing t op) (λ x. op_erased t op x) (λ b. block_erased_with t op b) w' (erased_gone t op w live contained)).regions k d ∙ sym none ∙ ap (regions_of t) (sym (only_itself k d))

    successors_stay : (k : ℕ) → successors_of (after_erasing t op) k ≡ successors_of t k
    successors_stay k = go (op_erased t op k) refl
      where
        go : (b : Bool) → op_erased t op k ≡ b → successors_of (after_erasing t op) k ≡ successors_of t k
        go false d = (erased_swept t op w live contained).successors k d
        go true d = (gone_away (after_erasing t op) (λ x. op_erased t op x) (λ b. block_erased_with t op b) w' (erased_gone t op w live contained)).successors k d ∙ sym no_successors ∙ ap (successors_of t) (sym (only_itself k d))

    pub body_stays : (b : ℕ) → body_of (after_erasing t op) b ≡ swept dead (body_of t b)
    body_stays b = (erased_swept t op w live contained).bodies b (block_left b)

    -- a region whose row is cleared has no block
    layout_empty : (r : ℕ) → is_met_above t (nat_eq op) (region_parent_of t r) ≡ true → layout_of t r ≡ []
    layout_empty r d = go (layout_of t r) refl
      where
        go : (xs : List ℕ) → layout_of t r ≡ xs → layout_of t r ≡ []
        go [] e = e
        go (b ∷ bs) e =
            let up : block_parent_operation_of t b ≡ region_parent_of t r = ap (λ o. up_from o (λ z. region_parent_of t z)) (w.layouts.owned b r (subst (In b) (sym e) (inl refl))) in
            absurd (true≢false (sym (ap (is_met_above t (nat_eq op)) up ∙ d) ∙ block_left b))

    layout_stays : (r : ℕ) → layout_of (after_erasing t op) r ≡ layout_of t r
    layout_stays r = go (is_met_above t (nat_eq op) (region_parent_of t r)) refl
      where
        met : (b : Bool) → is_met_above t (nat_eq op) (region_parent_of t r) ≡ b → is_met_above (taken_from t op (parent_of t op)) (nat_eq op) (region_parent_of (taken_from t op (parent_of t op)) r) ≡ b
        met b e = taken-met t op (parent_of t op) (region_parent_of (taken_from t op (parent_of t op)) r) ∙ ap (is_met_above t (nat_eq op)) (taken-region_parent t op (parent_of t op) r) ∙ e

        go : (b : Bool) → is_met_above t (nat_eq op) (region_parent_of t r) ≡ b → layout_of (after_erasing t op) r ≡ layout_of t r
        go false e = blanked_kept _ [] (taken_from t op (parent_of t op)).layouts r (met false e) ∙ ap (λ z. get_or z r []) (taken-layouts t op (parent_of t op))
        go true e = blanked_gone _ [] (taken_from t op (parent_of t op)).layouts r (met true e) ∙ sym (layout_empty r e)

    -- what stands beside it in a block and has successors is the last there
    leads_last : (o b s : ℕ) → In o (body_of t b) → parent_of t op ≡ Some b → In s (successors_of t o) → last_of None (body_of t b) ≡ Some o
    leads_last o b s i p j =
        let here = w.bodies.owned o b i in
        let beside = holder_beside root op o b inside p here in
        let ends = edges o s j (inl beside) in
        subst (λ z. last_of None (body_of t z) ≡ Some o) (some_is (sym ends.in_block ∙ here)) ends.last
      where
        holder_beside : (root x y b : ℕ) → IsInside t root x → parent_of t x ≡ Some b → parent_of t y ≡ Some b → IsInside t root y
        holder_beside root x y b (Directly e) p q = Directly (ap (λ z. up_from z (λ c. block_parent_operation_of t c)) (q ∙ sym p) ∙ e)
        holder_beside root x y b (Deeper z e i) p q = Deeper z (ap (λ z. up_from z (λ c. block_parent_operation_of t c)) (q ∙ sym p) ∙ e) i

    succs_stay : (b : ℕ) → succs_of (after_erasing t op) b ≡ succs_of t b
    succs_stay b = ap (λ ks. succs_from (after_erasing t op) (last_of None ks)) (body_stays b) ∙ same (last_of None (swept dead (body_of t b))) ∙ go (last_of None (body_of t b)) refl
      where
        same : (o : Option ℕ) → succs_from (after_erasing t op) o ≡ succs_from t o
        same None = refl
        same (Some k) = successors_stay k

        empty : (ks : List ℕ) → last_of None ks ≡ None → swept dead ks ≡ []
        empty [] e = refl
        empty (k ∷ ks) e = absurd (some_last k ks e)
          where
            some_last : (k : ℕ) (ks : List ℕ) → last_of (Some k) ks ≡ None → ⊥
            some_last k [] e = absurd (cc)
            some_last k (y ∷ ys) e = some_last y ys e

        none_leads : (o : Option ℕ) → last_of None (swept dead (body_of t b)) ≡ o → last_of None (body_of t b) ≡ Some op → succs_from t o ≡ []
        none_leads None e l = refl
        none_leads (Some o) e l = none_of (successors_of t o) refl
          where
            there : In o (body_of t b) × (dead o ≡ false)
            there = from_swept dead o (body_of t b) (last_in (swept dead (body_of t b)) o e)

            none_of : (xs : List ℕ) → successors_of t o ≡ xs → successors_of t o ≡ []
            none_of [] f = f
            none_of (s ∷ xs) f =
                let last = leads_last o b s there.0 (w.bodies.owned op b (last_in (body_of t b) op l)) (subst (In s) (sym f) (inl refl)) in
                let q : o ≡ op = some_is (sym last ∙ l) in
                absurd (nowhere s (subst (λ z. In s (successors_of t z)) q (subst (In s) (sym f) (inl refl))))

        go : (o : Option ℕ) → last_of None (body_of t b) ≡ o → succs_from t (last_of None (swept dead (body_of t b))) ≡ succs_from t (last_of None (body_of t b))
        go None e = ap (λ ks. succs_from t (last_of None ks)) (empty (body_of t b) e) ∙ ap (succs_from t) (sym e)
        go (Some k) e = by (dead k) refl
          where
            by : (d : Bool) → dead k ≡ d → succs_from t (last_of None (swept dead (body_of t b))) ≡ succs_from t (last_of None (body_of t b))
            by false d = ap (succs_from t) (last_swept dead k (body_of t b) d e ∙ sym e)
            by true d =
                let q : last_of None (body_of t b) ≡ Some op = e ∙ ap Some (only_itself k d) in
                none_leads (last_of None (swept dead (body_of t b))) refl q ∙ sym (ap (succs_from t) q ∙ no_successors)

    pub erased_alike : EdgesAlike t (after_erasing t op)
    erased_alike = record {
      grows = let n = as_many t op w live contained (parent_of t op) refl in omega (arith, n);
      regions = regions_stay;
      layouts = layout_stays;
      successors = succs_stay;
      bodies = λ b. ap (filter (λ k. has_regions t k)) (body_stays b) ∙ filter_swept dead (λ k. has_regions t k) (body_of t b) (λ k d. empty_entries (regions_of t k) (ap (regions_of t) (only_itself k d) ∙ none));
    }

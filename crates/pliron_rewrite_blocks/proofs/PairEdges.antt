-- What a mergeable pair says of the edges, and how replacing an argument keeps it.
use Rattle.std.proofs.Common.{◌≡◌, ◌≢◌, ◌⊎◌, inl, inr, ⊎_elim, ℕ, zero, suc, Bool, List, [], ◌∷◌, map, Some, None, slice_get, refl, sym, ap, ◌∙◌, subst, arith, if◌then◌else◌}
use Rattle.std.proofs.lemmas.Bool.Decides.{eqb_tells}
use Rattle.pliron_core.specs.Uses.{replace_target}
use Rattle.pliron_core.specs.Tree.{Tree, In, last_of, HoldsBlock, IsInside, IsInside.Directly, IsBlock, head_of, operands_of, successors_of, parent_of, body_of, arguments_of, block_parent_of, block_parent_operation_of, region_parent_of, up_from}
use Rattle.pliron_core.specs.Invariant.{IsTree}
use Rattle.pliron_core.specs.Edges.{succs_from, preds_of}
use Rattle.pliron_core.specs.Writes.{after_replacing}
use Rattle.pliron_core.specs.EdgeUses.{IsSource}
use Rattle.pliron_core.proofs.LastLemmas.{last_front}
use Rattle.pliron_core.proofs.NeighbourLemmas.{last_of-In}
use Rattle.pliron_core.proofs.EdgeLemmas.{source-pred}
use Rattle.pliron_core.proofs.UsedLemmas.{get_map}
use Rattle.pliron_core.proofs.HoldingLemmas.{some_is, not_none, slice_in, in_slice, holder_by, some_of}
use Rattle.pliron_laws.specs.Datum.{Head, Shape, Meaning}
use Rattle.pliron_laws.specs.Tree.{shape_of}
use Rattle.pliron_laws.specs.Linked.{EdgesLast}
use Rattle.pliron_laws.specs.Laws.{ForwardsOperands}
use Rattle.pliron_laws.specs.Acting.{pick}
use Rattle.pliron_laws.specs.Answers.{AreForwarded}
use Rattle.pliron_laws.proofs.Records.{operation_of, make_op}
use Rattle.pliron_theory.proofs.ReplacedKeeps.{replaced_renamed}
use Rattle.pliron_theory.proofs.Renamed.{op_renamed, shape_renamed}
use Rattle.pliron_rewrite_blocks.specs.Forwarding.{LeadsAlone}
use Rattle.pliron_rewrite_blocks.proofs.ListLemmas.{in_one}
use Rattle.pliron_rewrite_blocks.proofs.ForwardedKeeps.{forwarding}
use Rattle.pliron_rewrite_blocks.specs.Pairs.{IsMergeable}
use Rattle.pliron_rewrite_blocks.specs.PairLaws.{PairLeads, ReplacesOne, ReplacingOne}

module _ (m : Meaning) (t : Tree) (holder a b jump : ℕ) (values : List ℕ) (w : IsTree t) (edges : EdgesLast t holder) (held : block_parent_operation_of t a ≡ Some holder) (h : IsMergeable m t a b jump values) where
  in_a : parent_of t jump ≡ Some a
  in_a = w.bodies.owned jump a (last_of-In jump (body_of t a) h.ends)

  goes : successors_of t jump ≡ b ∷ []
  goes = ap (succs_from t) (sym h.ends) ∙ h.goes

  inside : IsInside t holder jump
  inside = Directly (holder_by t jump a holder in_a held)

  pub beside : block_parent_of t b ≡ block_parent_of t a
  beside =
      let e = edges jump b (subst (In b) (sym goes) (inl refl)) (inl inside) in
      e.own_region b (subst (In b) (sym goes) (inl refl)) ∙ ap (block_parent_of t) (some_is (sym e.in_block ∙ in_a))

  holds_b : HoldsBlock t holder b
  holds_b = (holder, ap (λ o. up_from o (λ r. region_parent_of t r)) beside ∙ held, inl refl)

  live_b : IsBlock t b
  live_b = w.joined.successors jump b (subst (In b) (sym goes) (inl refl))

  -- what leads to b ends a block of its region
  source : (k : ℕ) → In b (successors_of t k) → (c : ℕ) × IsSource t b k c
  source k i =
      let e = edges k b i (inr holds_b) in
      (e.block, record { parent = e.in_block; last = e.last; beside = sym (e.own_region b i) })

  pred : (k : ℕ) (i : In b (successors_of t k)) → In (source k i).0 (preds_of t b)
  pred k i = let x = slice_in (successors_of t k) b i in source-pred t w b k x.0 (source k i).0 live_b (source k i).1 x.1

  pub only : (k : ℕ) → In b (successors_of t k) → k ≡ jump
  only k i =
      let j : In b (successors_of t jump) = subst (In b) (sym goes) (inl refl) in
      let same : (source k i).0 ≡ (source jump j).0 = in_one (preds_of t b) (source k i).0 (source jump j).0 h.single (pred k i) (pred jump j) in
      some_is (sym (source k i).1.last ∙ ap (λ c. last_of None (body_of t c)) same ∙ (source jump j).1.last)

  pub leads_alone : (front : List ℕ) × LeadsAlone t a b jump front
  leads_alone =
      let x = last_front (body_of t a) jump h.ends in
      (x.0, record { split = x.1; goes = goes; beside = beside; only = only; no_entry = h.no_entry })

  module _ (can_fold : Head → Bool) (SameTests : Head → Head → Type 0) (shortened : Shape → ℕ → ℕ → Head) (law : ForwardsOperands m can_fold SameTests shortened) (i p v : ℕ) (at : slice_get (arguments_of t b) i ≡ Some p) (there : slice_get values i ≡ Some v) where
    p_in : In p (arguments_of t b)
    p_in = in_slice (arguments_of t b) i p at

    v_in : In v values
    v_in = in_slice values i v there

    apart_pv : v ≢ p
    apart_pv e = h.no_argument v v_in (subst (λ z. In z (arguments_of t b)) (sym e) p_in)

    target_of : (x : ℕ) → (x ≡ p → ⊥) → replace_target p v x ≡ x
    target_of x ne = ⊎_elim (λ y. absurd (ne y.1)) (λ n. ap (λ z. if z then v else x) n.0) (eqb_tells x p)

    target_p : (x : ℕ) → x ≡ p → replace_target p v x ≡ v
    target_p x e = ⊎_elim (λ y. ap (λ z. if z then v else x) y.0) (λ n. absurd (n.1 e)) (eqb_tells x p)

    reported : (x : ℕ) → (x ≡ p) ⊎ (x ≡ p → ⊥)
    reported x = ⊎_elim (λ y. inl y.1) (λ n. inr n.1) (eqb_tells x p)

    -- the forwarded values stay
    all_kept : (xs : List ℕ) → ((x : ℕ) → In x xs → x ≡ p → ⊥) → map (replace_target p v) xs ≡ xs
    all_kept [] f = refl
    all_kept (x ∷ xs) f = ap (λ z. z ∷ map (replace_target p v) xs) (target_of x (f x (inl refl))) ∙ ap (λ z. x ∷ z) (all_kept xs (λ y j. f y (inr j)))

    picked : (places operands vs : List ℕ) → map Some vs ≡ pick places operands → map Some (map (replace_target p v) vs) ≡ pick places (map (replace_target p v) operands)
    picked [] operands [] e = refl
    picked [] operands (x ∷ vs) e = grind arith
    picked (q ∷ places) operands [] e = grind arith
    picked (q ∷ places) operands (x ∷ vs) e =
        let here : Some x ≡ slice_get operands q = cc in
        let rest : map Some vs ≡ pick places operands = cc in
        ap (λ z. z ∷ map Some (map (replace_target p v) vs)) (sym (mapped operands q x (sym here))) ∙ ap (λ z. slice_get (map (replace_target p v) operands) q ∷ z) (picked places operands vs rest)
      where
        mapped : (xs : List ℕ) (n y : ℕ) → slice_get xs n ≡ Some y → slice_get (map (replace_target p v) xs) n ≡ Some (replace_target p v y)
        mapped [] n y f = absurd (not_none f)
        mapped (z ∷ xs) zero y f = ap (λ o. Some (replace_target p v o)) (some_is f)
        mapped (z ∷ xs) (suc n) y f = mapped xs n y f

    values_kept : map (replace_target p v) values ≡ values
    values_kept = all_kept values (λ x j e. h.no_argument x j (subst (λ z. In z (arguments_of t b)) (sym e) p_in))

    forwarded_still : AreForwarded m (after_replacing t p v) jump 0 values
    forwarded_still o e =
        let live = some_of (head_of t jump) (w.joined.all_in_place jump a in_a).0 in
        let old = operation_of t jump live.0 in
        let there_old = make_op t jump live.0 live.1 in
        let same : record old { operands = map (replace_target p v) (operands_of t jump) } ≡ o = some_is (sym (op_renamed t (after_replacing t p v) (replace_target p v) (replaced_renamed t p v) jump old there_old) ∙ e) in
        let shapes = shape_renamed t (after_replacing t p v) (replace_target p v) (replaced_renamed t p v) m old in
        let base = picked (m.forwarded (shape_of m t old) 0) (operands_of t jump) values (h.forwarded old there_old) in
        ap (map Some) (sym values_kept) ∙ base ∙ ap (λ z. pick (m.forwarded z 0) (map (replace_target p v) (operands_of t jump))) shapes ∙ ap (λ z. pick (m.forwarded (shape_of m (after_replacing t p v) z) 0) z.operands) same

    pub still : IsMergeable m (after_replacing t p v) a b jump values
    still = record { goes = h.goes; ends = h.ends; apart = h.apart; no_entry = h.no_entry; single = h.single; branch = h.branch; forwarded = forwarded_still; counts = h.counts; no_argument = h.no_argument }

    from_map : (xs : List ℕ) (x : ℕ) → In x (map (replace_target p v) xs) → (y : ℕ) × In y xs × (replace_target p v y ≡ x)
    from_map [] x j = absurd j
    from_map (y ∷ xs) x (inl e) = (y, inl refl, sym e)
    from_map (y ∷ xs) x (inr j) = let r = from_map xs x j in (r.0, inr r.1, r.2)

    old_use : (k x : ℕ) → In x (operands_of (after_replacing t p v) k) → (y : ℕ) × In y (operands_of t k) × (replace_target p v y ≡ x)
    old_use k x j = from_map (operands_of t k) x (subst (In x) (get_map (map (replace_target p v)) refl t.operands k) j)

    pub replaces_one : ReplacesOne m t a b jump p v values
    replaces_one = record {
      runs = let x = leads_alone in forwarding m can_fold SameTests shortened law t a b jump i p v x.0 values w x.1 h.branch h.forwarded at there (h.no_argument v v_in);
      pair = still;
      unused = λ k j. let x = old_use k p j in ⊎_elim (λ e. apart_pv (sym (target_p x.0 e) ∙ x.2)) (λ ne. ne (sym (target_of x.0 ne) ∙ x.2)) (reported x.0);
      no_new = λ k q qi j. let x = old_use k q j in ⊎_elim (λ e. absurd (h.no_argument v v_in (subst (λ z. In z (arguments_of t b)) (sym (sym (target_p x.0 e) ∙ x.2)) qi))) (λ ne. subst (λ z. In z (operands_of t k)) (sym (target_of x.0 ne) ∙ x.2) x.1) (reported x.0);
    }

pub pair_leads : PairLeads
pair_leads m t holder a b jump values w edges held h = leads_alone m t holder a b jump values w edges held h

pub replacing : (m : Meaning) (can_fold : Head → Bool) (SameTests : Head → Head → Type 0) (shortened : Shape → ℕ → ℕ → Head) → ForwardsOperands m can_fold SameTests shortened → ReplacingOne m
replacing m can_fold SameTests shortened law t holder a b jump i p v values w edges held h at there = replaces_one m t holder a b jump values w edges held h can_fold SameTests shortened law i p v at there

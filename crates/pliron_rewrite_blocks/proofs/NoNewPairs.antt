-- Merging makes no new pair.
use Rattle.std.proofs.Common.{◌≡◌, ◌≢◌, ◌⊎◌, inl, inr, ⊎_elim, ℕ, zero, suc, List, [], ◌∷◌, length, map, Option, Some, None, slice_get, refl, sym, ap, ◌∙◌, subst, arith, if◌then◌else◌}
use Rattle.std.proofs.lemmas.Bool.{cases_eq}
use Rattle.std.proofs.lemmas.Bool.Decides.{eqb_tells}
use Rattle.pliron_core.specs.declared.context.Def.TheVariants.{Argument}
use Rattle.pliron_core.specs.Uses.{replace_target}
use Rattle.pliron_core.specs.Tree.{Tree, In, first_of, last_of, IsBlock, head_of, operands_of, successors_of, parent_of, body_of, arguments_of, block_parent_of, block_parent_operation_of, layout_of}
use Rattle.pliron_core.specs.Invariant.{IsTree}
use Rattle.pliron_core.specs.Edges.{succs_from, preds_of}
use Rattle.pliron_core.specs.EdgeUses.{IsSource}
use Rattle.pliron_core.specs.Writes.{after_replacing}
use Rattle.pliron_core.proofs.NeighbourLemmas.{last_of-In}
use Rattle.pliron_core.proofs.RowLemmas.{last_of-append}
use Rattle.pliron_core.proofs.EdgeLemmas.{source-pred, pred-source, preds-distinct}
use Rattle.pliron_core.proofs.FilterLemmas.{one_all}
use Rattle.pliron_core.proofs.HoldingLemmas.{some_is, not_none, slice_in, in_slice, some_of}
use Rattle.pliron_laws.specs.Datum.{Meaning}
use Rattle.pliron_laws.specs.Tree.{Operation, op_at, shape_of}
use Rattle.pliron_laws.specs.Acting.{pick}
use Rattle.pliron_laws.specs.Answers.{AreForwarded}
use Rattle.pliron_laws.specs.Linked.{EdgesLast}
use Rattle.pliron_theory.specs.Splicing.{IsSpliced}
use Rattle.pliron_laws.proofs.Records.{operation_of, make_op}
use Rattle.pliron_theory.proofs.SplicedAgree.{op_same, shapes}
use Rattle.pliron_theory.proofs.ReplacedKeeps.{replaced_renamed}
use Rattle.pliron_theory.proofs.Renamed.{op_renamed, shape_renamed}
use Rattle.pliron_rewrite_blocks.specs.Pairs.{IsMergeable}
use Rattle.pliron_rewrite_blocks.specs.PairLaws.{NoNewPair, NoNewPairByUses}
use Rattle.pliron_rewrite_blocks.proofs.ListLemmas.{in_one, first_without, last_some}
use Rattle.pliron_rewrite_blocks.proofs.PairEdges.{only}

module _ (m : Meaning) (t t' : Tree) (a b jump c d j : ℕ) (front values : List ℕ) (w : IsTree t) (w' : IsTree t') (h : IsSpliced t t' a b jump front) (ne : c ≢ a) (besides : block_parent_of t' d ≡ block_parent_of t' c) (q : IsMergeable m t' c d j values) where
  not_b : c ≢ b
  not_b e =
      let none : body_of t' c ≡ [] = ap (body_of t') e ∙ (w'.joined.unplaced b h.detached_block).1 in
      not_none (sym (ap (last_of None) none) ∙ q.ends)

  body : body_of t' c ≡ body_of t c
  body = h.bodies c ne not_b

  j_in : parent_of t' j ≡ Some c
  j_in = w'.bodies.owned j c (last_of-In j (body_of t' c) q.ends)

  not_jump : j ≢ jump
  not_jump e =
      let live = (w'.joined.all_in_place j c j_in).0 in
      let x = some_of (head_of t' j) live in
      not_none (sym h.deleted ∙ ap (head_of t') (sym e) ∙ x.1)

  ends : last_of None (body_of t c) ≡ Some j
  ends = ap (last_of None) (sym body) ∙ q.ends

  j_goes : successors_of t j ≡ d ∷ []
  j_goes = sym (h.successors j not_jump) ∙ ap (succs_from t') (sym q.ends) ∙ q.goes

  d_in : In d (successors_of t j)
  d_in = subst (In d) (sym j_goes) (inl refl)

  d_not_b : d ≢ b
  d_not_b e = not_jump (h.only j (subst (λ z. In z (successors_of t j)) e d_in))

  live_d : IsBlock t d
  live_d = w.joined.successors j d d_in

  live_d' : IsBlock t' d
  live_d' = w'.joined.successors j d (subst (In d) (sym (h.successors j not_jump)) d_in)

  -- a predecessor before is one now, or the first block of the joined ones is in its place
  pred_now : (x : ℕ) → In x (preds_of t d) → In x (preds_of t' d) ⊎ In a (preds_of t' d)
  pred_now x i = go (pred-source t w d x i)
    where
      go : (user : ℕ) × (place : ℕ) × IsSource t d user x × (slice_get (successors_of t user) place ≡ Some d) → In x (preds_of t' d) ⊎ In a (preds_of t' d)
      go y =
          let free : y.0 ≢ jump = λ e. d_not_b (not_target (subst (λ z. In d (successors_of t z)) e (in_slice (successors_of t y.0) y.1 d y.3))) in
          let edge : slice_get (successors_of t' y.0) y.1 ≡ Some d = ap (λ l. slice_get l y.1) (h.successors y.0 free) ∙ y.3 in
          ⊎_elim
          (λ e. inr (source-pred t' w' d y.0 y.1 a live_d' (record {
            parent = h.moved y.0 (y.2.parent ∙ ap Some e);
            last = ap (last_of None) h.joined ∙ last_of-append None front (body_of t b) ∙ last_some (last_of None front) (body_of t b) y.0 (ap (λ z. last_of None (body_of t z)) (sym e) ∙ y.2.last);
            beside = h.block_parents a (λ s. a_not_b s) ∙ sym h.beside ∙ ap (block_parent_of t) (sym e) ∙ y.2.beside ∙ sym (h.block_parents d d_not_b);
          }) edge))
          (λ nb. inl (source-pred t' w' d y.0 y.1 x live_d' (record {
            parent = h.parents y.0 free (λ e. nb (some_is (sym y.2.parent ∙ e))) ∙ y.2.parent;
            last = ap (last_of None) (h.bodies x (λ e. free (jump_ends y.0 (ap (λ z. last_of None (body_of t z)) (sym e) ∙ y.2.last))) nb) ∙ y.2.last;
            beside = h.block_parents x nb ∙ y.2.beside ∙ sym (h.block_parents d d_not_b);
          }) edge))
          (cases_eq x b)
        where
          not_target : In d (successors_of t jump) → d ≡ b
          not_target i' = ⊎_elim (λ e. e) (λ z. absurd z) (subst (In d) h.goes i')

          a_not_b : a ≢ b
          a_not_b e = h.apart e

          jump_ends : (k : ℕ) → last_of None (body_of t a) ≡ Some k → k ≡ jump
          jump_ends k e = some_is (sym e ∙ ap (last_of None) h.split ∙ last_of-append None front (jump ∷ []))

  -- the first block of the pair is a predecessor, now and before
  c_now : In c (preds_of t' d)
  c_now = source-pred t' w' d j 0 c live_d' (record { parent = j_in; last = q.ends; beside = sym besides }) (ap (λ z. slice_get z 0) (h.successors j not_jump ∙ j_goes))

  c_before : In c (preds_of t d)
  c_before = source-pred t w d j 0 c live_d (record { parent = w.bodies.owned j c (last_of-In j (body_of t c) ends); last = ends; beside = sym (h.block_parents c not_b) ∙ sym besides ∙ h.block_parents d d_not_b }) (ap (λ z. slice_get z 0) j_goes)

  single : length (preds_of t d) ≡ 1
  single = one_all (preds_of t d) c (preds-distinct t w d) c_before (λ x i. ⊎_elim (λ k. in_one (preds_of t' d) x c q.single k c_now) (λ k. absurd (ne (in_one (preds_of t' d) c a q.single c_now k))) (pred_now x i))

  live_j : (x : _) × (head_of t j ≡ Some x)
  live_j = some_of (head_of t j) (w.joined.all_in_place j c (w.bodies.owned j c (last_of-In j (body_of t c) ends))).0

  forwarded : AreForwarded m t j 0 values
  forwarded o e =
      let x = op_same m t t' a b jump front w w' h j j not_jump o e in
      ap (map Some) refl ∙ q.forwarded x.0 x.1 ∙ ap (λ z. pick (m.forwarded z 0) x.0.operands) (sym (shapes m t t' a b jump front w w' h j j o x.0 not_jump e x.1)) ∙ ap (pick (m.forwarded (shape_of m t o) 0)) x.3

  pub pair_before : IsMergeable m t c d j values
  pair_before = record {
    goes = ap (succs_from t) ends ∙ j_goes;
    ends = ends;
    apart = q.apart;
    no_entry = λ r e. q.no_entry r (ap (λ l. first_of l None) (h.layouts r) ∙ first_without b d (layout_of t r) d_not_b e);
    single = single;
    branch = λ x e. q.branch x (ap (λ z. z.head) (h.rows j not_jump) ∙ e);
    forwarded = forwarded;
    counts = q.counts ∙ ap length (h.arguments d d_not_b);
    no_argument = λ v i k. q.no_argument v i (subst (In v) (sym (h.arguments d d_not_b)) k);
  }

pub no_new_pair : NoNewPair
no_new_pair m t t' a b jump c d j front values w w' h ne besides q = pair_before m t t' a b jump c d j front values w w' h ne besides q

module _ (m : Meaning) (t : Tree) (holder a b jump i p v c d j : ℕ) (values others : List ℕ) (w : IsTree t) (edges : EdgesLast t holder) (held : block_parent_operation_of t a ≡ Some holder) (h : IsMergeable m t a b jump values) (at : slice_get (arguments_of t b) i ≡ Some p) (there : slice_get values i ≡ Some v) (ne : c ≢ a) (besides : block_parent_of t d ≡ block_parent_of t c) (q : IsMergeable m (after_replacing t p v) c d j others) where
  j_there : parent_of t j ≡ Some c
  j_there = w.bodies.owned j c (last_of-In j (body_of t c) q.ends)

  goes_d : successors_of t j ≡ d ∷ []
  goes_d = ap (succs_from t) (sym q.ends) ∙ q.goes

  -- the second blocks are different ones
  other : d ≢ b
  other e =
      let s : j ≡ jump = only m t holder a b jump values w edges held h j (subst (λ z. In z (successors_of t j)) e (subst (In d) (sym goes_d) (inl refl))) in
      ne (some_is (sym j_there ∙ ap (parent_of t) s ∙ w.bodies.owned jump a (last_of-In jump (body_of t a) h.ends)))

  p_not : In p (arguments_of t d) → ⊥
  p_not k =
      let x = slice_in (arguments_of t d) p k in
      let e : Argument d x.0 ≡ Argument b i = some_is (sym (w.joined.arguments d x.0 p x.1) ∙ w.joined.arguments b i p at) in
      other (cc)

  shown : (x : _) × (head_of t j ≡ Some x)
  shown = some_of (head_of t j) (w.joined.all_in_place j c j_there).0

  abbrev old : Operation
  old = operation_of t j shown.0

  old_at : op_at t j ≡ Some (operation_of t j shown.0)
  old_at = make_op t j shown.0 shown.1

  target_other : (x : ℕ) → (x ≡ p → ⊥) → replace_target p v x ≡ x
  target_other x nt = ⊎_elim (λ y. absurd (nt y.1)) (λ n. ap (λ z. if z then v else x) n.0) (eqb_tells x p)

  -- what was forwarded before
  unpicked : (places operands vs : List ℕ) → map Some vs ≡ pick places (map (replace_target p v) operands) → (us : List ℕ) × (map Some us ≡ pick places operands) × (map (replace_target p v) us ≡ vs)
  unpicked [] operands [] e = ([], refl, refl)
  unpicked [] operands (x ∷ vs) e = grind arith
  unpicked (n ∷ places) operands [] e = grind arith
  unpicked (n ∷ places) operands (x ∷ vs) e =
      let here : Some x ≡ slice_get (map (replace_target p v) operands) n = cc in
      let rest : map Some vs ≡ pick places (map (replace_target p v) operands) = cc in
      let y = was operands n x (sym here) in
      let z = unpicked places operands vs rest in
      (y.0 ∷ z.0, two (Some y.0) (slice_get operands n) (sym y.1) (map Some z.0) (pick places operands) z.1, twice (replace_target p v y.0) x y.2 (map (replace_target p v) z.0) vs z.2)
    where
      was : (xs : List ℕ) (n x : ℕ) → slice_get (map (replace_target p v) xs) n ≡ Some x → (y : ℕ) × (slice_get xs n ≡ Some y) × (replace_target p v y ≡ x)
      was [] n x f = absurd (not_none f)
      was (y ∷ xs) zero x f = (y, refl, some_is f)
      was (y ∷ xs) (suc n) x f = was xs n x f

      two : (x y : Option ℕ) → x ≡ y → (xs ys : List (Option ℕ)) → xs ≡ ys → x ∷ xs ≡ y ∷ ys
      two x y f xs ys g = cc

      twice : (x y : ℕ) → x ≡ y → (xs ys : List ℕ) → xs ≡ ys → x ∷ xs ≡ y ∷ ys
      twice x y f xs ys g = cc

  was_forwarded : (us : List ℕ) × (map Some us ≡ pick (m.forwarded (shape_of m t old) 0) (operands_of t j)) × (map (replace_target p v) us ≡ others)
  was_forwarded =
      let r = replaced_renamed t p v in
      let e = op_renamed t (after_replacing t p v) (replace_target p v) r j old old_at in
      let f = q.forwarded (record old { operands = map (replace_target p v) (operands_of t j) }) e in
      unpicked (m.forwarded (shape_of m t old) 0) (operands_of t j) others (f ∙ ap (λ z. pick (m.forwarded z 0) (map (replace_target p v) (operands_of t j))) (sym (shape_renamed t (after_replacing t p v) (replace_target p v) r m old)))

  member : (xs : List ℕ) (x : ℕ) → In x xs → In (replace_target p v x) (map (replace_target p v) xs)
  member [] x k = absurd k
  member (y ∷ xs) x (inl e) = inl (ap (replace_target p v) e)
  member (y ∷ xs) x (inr k) = inr (member xs x k)

  map_length : (xs : List ℕ) → length (map (replace_target p v) xs) ≡ length xs
  map_length [] = refl
  map_length (x ∷ xs) = ap suc (map_length xs)

  pub pair_by_uses : (vs : List ℕ) × IsMergeable m t c d j vs
  pair_by_uses =
      let u = was_forwarded in (
        u.0,
        record {
          goes = q.goes;
          ends = q.ends;
          apart = q.apart;
          no_entry = q.no_entry;
          single = q.single;
          branch = q.branch;
          forwarded = λ o e. let s : old ≡ o = some_is (sym old_at ∙ e) in subst (λ z. map Some u.0 ≡ pick (m.forwarded (shape_of m t z) 0) z.operands) s u.1;
          counts = sym (map_length u.0) ∙ ap length u.2 ∙ q.counts;
          no_argument = λ x k l.
              let free : x ≡ p → ⊥ = λ e. p_not (subst (λ z. In z (arguments_of t d)) e l) in
              q.no_argument x (subst (In x) u.2 (subst (λ z. In z (map (replace_target p v) u.0)) (target_other x free) (member u.0 x k))) l;
        },
      )

pub no_new_by_uses : NoNewPairByUses
no_new_by_uses m t holder a b jump i p v c d j values others w edges held h at there ne besides q = pair_by_uses m t holder a b jump i p v c d j values others w edges held h at there ne besides q

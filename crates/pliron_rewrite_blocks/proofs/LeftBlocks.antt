-- The unreachable blocks of a region go in one rewrite.
use Rattle.std.proofs.Common.{◌≡◌, inl, inr, ⊎_elim, ℕ, Bool, true, false, true≢false, if◌then◌else◌, List, [], ◌∷◌, length, Some, None, refl, sym, ap, ◌∙◌, subst, arith}
use Rattle.std.proofs.lemmas.Bool.{false_from_ne_true}
use Rattle.pliron_core.specs.Tree.{Tree, In, first_of, IsInside.Directly, IsWithin, HoldsBlock, row_of, successors_of, regions_of, parent_of, body_of, arguments_of, block_parent_of, layout_of, region_parent_of, block_parent_operation_of, parent_operation_of, up_from, op_of_slot}
use Rattle.pliron_core.specs.Invariant.{IsTree}
use Rattle.pliron_core.specs.Edges.{succs_from}
use Rattle.pliron_core.specs.Erased.{is_met_above, is_in_operation, uses_dropped}
use Rattle.pliron_core.proofs.TreeLemmas.{live-within}
use Rattle.pliron_core.proofs.DropLemmas.{IsNamesOnly, names_none, names_trans, names_of_dropped, NamesSame, dropped_kept}
use Rattle.pliron_core.proofs.NeighbourLemmas.{first_of-In}
use Rattle.pliron_core.proofs.WithinLemmas.{holder_from, within_met, met_within, met_below, in_block_is}
use Rattle.pliron_core.proofs.HoldingLemmas.{some_is, not_none, slice_in, inside_up, within_inside, holder_by}
use Rattle.pliron_laws.specs.Datum.{Meaning}
use Rattle.pliron_laws.specs.Linked.{EdgesLast}
use Rattle.pliron_theory.specs.Keeps.{with_roots}
use Rattle.pliron_theory.specs.Sweeping.{swept, IsSwept}
use Rattle.pliron_theory.proofs.SweptLists.{swept_all, in_swept, from_swept}
use Rattle.pliron_theory.proofs.SweptKeeps.{swept_keeps}
use Rattle.pliron_rewrite_blocks.specs.Cutting.{is_listed, is_in_one_of, cut_op, cut_block, ErasesAll, AreCut}
use Rattle.pliron_rewrite_blocks.specs.Leaving.{DropsAll, DropsAll.Done, DropsAll.Then, BlocksMayGo, ErasesWell, LeavingLaw}
use Rattle.pliron_laws.proofs.RisingLemmas.{rising_same}
use Rattle.pliron_rewrite_blocks.proofs.ListLemmas.{rising_swept}
use Rattle.pliron_rewrite_blocks.proofs.CutBlocks.{or_true, block_cases, listed, stands_one, one_stands, cut_all}

-- dropping changes names alone, and none of what is left
drops_names : (rest : List ℕ) (t u : Tree) → DropsAll rest t u → IsNamesOnly t u
drops_names [] t u Done = names_none t
drops_names (b ∷ rest) t u (Then _ _ more) = names_trans t (uses_dropped t b) u (names_of_dropped t (is_in_operation t b)) (drops_names rest (uses_dropped t b) u more)

drops_kept : (t : Tree) (k : ℕ) (rest : List ℕ) (z u : Tree) → IsNamesOnly t z → DropsAll rest z u → ((b : ℕ) → In b rest → is_met_above t (is_in_operation t b) (Some k) ≡ false) → NamesSame z u k
drops_kept t k [] z u n Done f = (refl, refl)
drops_kept t k (b ∷ rest) z u n (Then _ _ more) f =
    let here = dropped_kept z (is_in_operation z b) k (ap (λ (y : Tree). is_met_above y (is_in_operation y b) (Some k)) n.shape ∙ f b (inl refl)) in
    let next = drops_kept t k rest (uses_dropped z b) u (names_trans t z (uses_dropped z b) n (names_of_dropped z (is_in_operation z b))) more (λ c i. f c (inr i)) in
    (next.0 ∙ here.0, next.1 ∙ here.1)

module _ (m : Meaning) (t u v : Tree) (holder region : ℕ) (bs : List ℕ) (w : IsTree t) (wu : IsTree u) (wv : IsTree v) (edges : EdgesLast t holder) (held : region_parent_of t region ≡ Some holder) (may : BlocksMayGo t region bs) (drops : DropsAll bs t u) (erases : ErasesAll bs u v) where
  abbrev dead : ℕ → Bool
  dead k = cut_op t bs k

  abbrev dead_block : ℕ → Bool
  dead_block c = cut_block t bs c

  names : IsNamesOnly t u
  names = drops_names bs t u drops

  -- what stands in a listed block is dead
  within_dead : (b x k : ℕ) → In b bs → parent_of t x ≡ Some b → IsWithin t x k → dead k ≡ true
  within_dead b x k i e j = within_met t (is_in_one_of t bs) w.joined x k (live-within t x (w.joined.all_in_place x b e).0) (stands_one t bs b x i e) j

  direct : (b k : ℕ) → In b bs → parent_of t k ≡ Some b → dead k ≡ true
  direct b k i e = within_dead b k k i e (inl refl)

  kept_names : (k : ℕ) → dead k ≡ false → NamesSame t u k
  kept_names k l = drops_kept t k bs t u (names_none t) drops (λ b i. false_from_ne_true _ (λ e. let y = in_block_is t b k e in true≢false (sym (within_dead b y.0 k i y.1 y.2) ∙ l)))

  cut_u : AreCut u v region bs
  cut_u = cut_all u v region bs wu (λ b i. ap (λ (z : Tree). block_parent_of z b) names.shape ∙ may.own b i) erases

  same_op : (k : ℕ) → cut_op u bs k ≡ dead k
  same_op k = ap (λ (z : Tree). cut_op z bs k) names.shape

  same_block : (c : ℕ) → cut_block u bs c ≡ dead_block c
  same_block c = ap (λ (z : Tree). cut_block z bs c) names.shape

  pub cut : AreCut t v region bs
  cut = record {
    count = cut_u.count ∙ ap (λ (z : Tree). length z.operations) names.shape;
    deleted = λ k e. cut_u.deleted k (same_op k ∙ e);
    detached_blocks = λ c e. cut_u.detached_blocks c (same_block c ∙ e);
    rows = λ k e. cut_u.rows k (same_op k ∙ e) ∙ ap (λ (z : Tree). row_of z k) names.shape;
    operands = λ k e. cut_u.operands k (same_op k ∙ e) ∙ (kept_names k e).0;
    successors = λ k e. cut_u.successors k (same_op k ∙ e) ∙ (kept_names k e).1;
    parents = λ k e. cut_u.parents k (same_op k ∙ e) ∙ ap (λ (z : Tree). parent_of z k) names.shape;
    bodies = λ c e. cut_u.bodies c (same_block c ∙ e) ∙ ap (λ (z : Tree). body_of z c) names.shape;
    arguments = λ c e. cut_u.arguments c (same_block c ∙ e) ∙ ap (λ (z : Tree). arguments_of z c) names.shape;
    block_parents = λ c e. cut_u.block_parents c (same_block c ∙ e) ∙ ap (λ (z : Tree). block_parent_of z c) names.shape;
    layouts = λ r ne e. cut_u.layouts r ne (ap (λ (z : Tree). is_met_above z (is_in_one_of z bs) (region_parent_of z r)) names.shape ∙ e) ∙ ap (λ (z : Tree). layout_of z r) names.shape;
  }

  listed_dead : (c : ℕ) → In c bs → dead_block c ≡ true
  listed_dead c i = ap (λ z. if z then true else is_met_above t (is_in_one_of t bs) (block_parent_operation_of t c)) (listed bs c i)

  held_dead : (c q : ℕ) → block_parent_operation_of t c ≡ Some q → dead q ≡ true → dead_block c ≡ true
  held_dead c q e d = ap (λ o. if is_listed bs c then true else is_met_above t (is_in_one_of t bs) o) e ∙ ap (λ z. if is_listed bs c then true else z) d ∙ or_true (is_listed bs c)

  -- what a dead operation stands in
  dead_in : (k : ℕ) → dead k ≡ true → (x b : ℕ) × In b bs × (parent_of t x ≡ Some b) × IsWithin t x k
  dead_in k e =
      let y = met_within t (is_in_one_of t bs) (length t.operations) k e in
      let b = one_stands t bs y.0 y.1 in
      (y.0, b.0, b.1, b.2, y.2)

  parent_dead : (k b : ℕ) → parent_of t k ≡ Some b → dead k ≡ true → dead_block b ≡ true
  parent_dead k b e d =
      let y = dead_in k d in
      ⊎_elim
      (λ s. listed_dead b (subst (λ z. In z bs) (some_is (sym y.3 ∙ ap (parent_of t) (sym s) ∙ e)) y.2))
      (λ j. let z = inside_up j in held_dead b z.0 (sym (holder_from t k b e) ∙ z.1) (within_dead y.1 y.0 z.0 y.2 y.3 z.2))
      y.4

  below_dead : (k q : ℕ) → parent_operation_of t k ≡ Some q → dead q ≡ true → dead k ≡ true
  below_dead k q e d = met_below t (is_in_one_of t bs) w.joined k q e d

  held_by : (k r : ℕ) → In r (regions_of t k) → region_parent_of t r ≡ Some k
  held_by k r i = let x = slice_in (regions_of t k) r i in ap op_of_slot (w.joined.regions k x.0 r x.1)

  entry_left : (k r b : ℕ) → dead k ≡ false → In r (regions_of t k) → first_of (layout_of t r) None ≡ Some b → dead_block b ≡ false
  entry_left k r b l i e = false_from_ne_true _ (λ d.
      let in_r : block_parent_of t b ≡ Some r = w.layouts.owned b r (first_of-In b (layout_of t r) e) in
      ⊎_elim
      (λ j. may.no_entry b (ap (λ z. first_of (layout_of t z) None) (some_is (sym (may.own b j) ∙ in_r)) ∙ e) j)
      (λ y. let s : y.0 ≡ k = some_is (sym y.1 ∙ ap (λ o. up_from o (λ z. region_parent_of t z)) in_r ∙ held_by k r i) in true≢false (sym y.2 ∙ ap dead s ∙ l))
      (block_cases t bs b d))

  target_left : (k b : ℕ) → dead k ≡ false → In b (successors_of t k) → dead_block b ≡ false
  target_left k b l j = false_from_ne_true _ (λ d. ⊎_elim direct_target inner_target (block_cases t bs b d))
    where
      direct_target : In b bs → ⊥
      direct_target i =
          let holds : HoldsBlock t holder b = (holder, ap (λ o. up_from o (λ z. region_parent_of t z)) (may.own b i) ∙ held, inl refl) in
          let ends = edges k b j (inr holds) in
          may.closed ends.block b (sym (ends.own_region b j) ∙ may.own b i) (λ c. true≢false (sym (direct ends.block k c ends.in_block) ∙ l)) (subst (λ o. In b (succs_from t o)) (sym ends.last) j) i

      inner_target : (q : ℕ) × (block_parent_operation_of t b ≡ Some q) × (dead q ≡ true) → ⊥
      inner_target y =
          let x = dead_in y.0 y.2 in
          let up : parent_operation_of t x.0 ≡ Some holder = holder_by t x.0 x.1 holder x.3 (ap (λ o. up_from o (λ z. region_parent_of t z)) (may.own x.1 x.2) ∙ held) in
          let holds : HoldsBlock t holder b = (y.0, y.1, inr (within_inside (Directly up) x.4)) in
          let ends = edges k b j (inr holds) in
          let above : parent_operation_of t k ≡ Some y.0 = holder_from t k ends.block ends.in_block ∙ ap (λ o. up_from o (λ z. region_parent_of t z)) (sym (ends.own_region b j)) ∙ y.1 in
          true≢false (sym (below_dead k y.0 above y.2) ∙ l)

  parent_left : (k b : ℕ) → parent_of t k ≡ Some b → dead k ≡ false → dead_block b ≡ false
  parent_left k b e l = false_from_ne_true _ (λ d. ⊎_elim (λ i. true≢false (sym (direct b k i e) ∙ l)) (λ y. true≢false (sym (below_dead k y.0 (holder_from t k b e ∙ y.1) y.2) ∙ l)) (block_cases t bs b d))

  -- the blocks of a region that are left
  layout_left : (r : ℕ) → layout_of v r ≡ swept dead_block (layout_of t r)
  layout_left r = rising_same (layout_of v r) (swept dead_block (layout_of t r)) (wv.joined.ordered r) (rising_swept dead_block (layout_of t r) (w.joined.ordered r)) forth back
    where
      left : (c : ℕ) → block_parent_of v c ≡ Some r → dead_block c ≡ false
      left c e = false_from_ne_true _ (λ d. not_none (sym (cut.detached_blocks c d) ∙ e))

      forth : (c : ℕ) → In c (layout_of v r) → In c (swept dead_block (layout_of t r))
      forth c i =
          let e = wv.layouts.owned c r i in
          in_swept dead_block c (left c e) (layout_of t r) (w.layouts.listed c r (sym (cut.block_parents c (left c e)) ∙ e))

      back : (c : ℕ) → In c (swept dead_block (layout_of t r)) → In c (layout_of v r)
      back c i =
          let y = from_swept dead_block c (layout_of t r) i in
          wv.layouts.listed c r (cut.block_parents c y.1 ∙ w.layouts.owned c r y.0)

  is_swept : IsSwept t v dead dead_block
  is_swept = record {
    rows = cut.rows;
    operands = cut.operands;
    successors = cut.successors;
    parents = cut.parents;
    bodies = λ b l. cut.bodies b l ∙ sym (swept_all dead (body_of t b) (λ k i. false_from_ne_true _ (λ d. true≢false (sym (parent_dead k b (w.bodies.owned k b i) d) ∙ l))));
    arguments = cut.arguments;
    block_parents = cut.block_parents;
    layouts = λ k r l i. layout_left r;
    holders = parent_left;
    block_holders = λ b k e l. false_from_ne_true _ (λ d. true≢false (sym (held_dead b k e d) ∙ l));
    entries = entry_left;
    values = λ k x l i. false_from_ne_true _ (λ d. true≢false (sym (may.unused k x i d) ∙ l));
    targets = target_left;
  }

  pub goes_well : ErasesWell m t v region bs
  goes_well = record {
    cut = cut;
    runs = λ chosen. swept_keeps (with_roots m chosen) t v dead dead_block w wv is_swept (record { operations = cut.deleted; blocks = cut.detached_blocks }) (let n = cut.count in omega (arith, n)) (λ root f k b inside d e l. absurd (true≢false (sym (parent_dead k b e d) ∙ l)));
  }

pub leaving : LeavingLaw
leaving m t u v holder region bs w wu wv edges held may drops erases = goes_well m t u v holder region bs w wu wv edges held may drops erases

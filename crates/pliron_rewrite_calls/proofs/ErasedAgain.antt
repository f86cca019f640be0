-- New blocks at the end of a region are erased again.
use Rattle.std.proofs.Common.{◌≡◌, ◌≢◌, ◌⊎◌, inl, inr, ⊎_elim, ℕ, ◌+◌, ◌<◌, ◌≤◌, Bool, false, true≢false, List, [], ◌∷◌, ◌++◌, length, Option, Some, None, IsSome, is_some, refl, sym, ap, ◌∙◌, subst, append_assoc, append-nil, arith}
use Rattle.std.specs.Option.{option_map_or}
use Rattle.std.proofs.lemmas.Bool.{cases_eq, cases_lt, false_from_ne_true}
use Rattle.std.proofs.lemmas.List.{length-set, get_or-set_other, get_or-set_same, length-append, get_or_past}
use Rattle.std.proofs.lemmas.Option.{slice_get_within}
use Rattle.pliron_core.specs.declared.context.Def.{Def}
use Rattle.pliron_core.specs.declared.context.Def.TheVariants.{Result, Argument}
use Rattle.pliron_core.specs.Invariant.{IsTree}
use Rattle.pliron_core.specs.Rising.{IsRising}
use Rattle.pliron_core.specs.Changes.{IsSameTree}
use Rattle.pliron_core.specs.Lists.{without, prev_in}
use Rattle.pliron_core.specs.Reads.{prev_block_of}
use Rattle.pliron_core.specs.Erased.{is_met_above, is_in_operation, IsInOperation, IsBlockWithin, IsDefinedInBlock, IsSelfContainedBlock, block_emptied, block_taken_from, block_erased, uses_dropped}
use Rattle.pliron_core.specs.Tree.{Tree, In, IsDistinct, IsLive, IsBlock, IsMadeBy, last_of, up_from, no_entry, row_of, head_of, operands_of, successors_of, results_of, parent_of, arguments_of, block_parent_of, layout_of, block_parent_operation_of, region_parent_of}
use Rattle.pliron_core.proofs.BlankLemmas.{length-blanked, blanked_gone, blanked_kept}
use Rattle.pliron_core.proofs.ClearedLemmas.{true_or_false, met_block}
use Rattle.pliron_core.proofs.DropLemmas.{dropped_gone, dropped_kept}
use Rattle.pliron_core.proofs.HoldingLemmas.{some_is, not_none, slot_is, maker_is}
use Rattle.pliron_core.proofs.ListLemmas.{In-left, In-right, distinct-apart, without-split, prev_in-split}
use Rattle.pliron_core.proofs.NeighbourLemmas.{last_of-In}
use Rattle.pliron_core.proofs.TreeLemmas.{block-within}
use Rattle.pliron_core.proofs.WithinLemmas.{in_block_is, is_in_block, block_holder_from}
use Rattle.pliron_rewrite_calls.specs.CopySteps.{IsGrownIn, AreBare, IsDropping}
use Rattle.pliron_rewrite_calls.proofs.Growing.{no_some, empty_slice, past_row, block_old, holds_no_block, new_block, in_new}

-- ---- lists, from their ends

pub from_end : (xs : List ℕ) → (xs ≡ []) ⊎ ((front : List ℕ) × (x : ℕ) × (xs ≡ front ++ x ∷ []))
from_end [] = inl refl
from_end (y ∷ ys) = ⊎_elim (λ e. inr ([], y, ap (λ z. y ∷ z) e)) (λ s. inr (y ∷ s.0, s.1, ap (λ z. y ∷ z) s.2)) (from_end ys)

pub last_append : (o : Option ℕ) (xs ys : List ℕ) → last_of o (xs ++ ys) ≡ last_of (last_of o xs) ys
last_append o [] ys = refl
last_append o (x ∷ xs) ys = last_append (Some x) xs ys

pub last_there : (o : Option ℕ) (front : List ℕ) (x : ℕ) → last_of o (front ++ x ∷ []) ≡ Some x
last_there o front x = last_append o front (x ∷ [])

none_empty : (xs : List ℕ) → ((x : ℕ) → In x xs → ⊥) → xs ≡ []
none_empty [] f = refl
none_empty (x ∷ xs) f = absurd (f x (inl refl))

rising_apart : (xs : List ℕ) (a : ℕ) (ys : List ℕ) → IsRising (xs ++ a ∷ ys) → (p : ℕ) → In p xs → p < a
rising_apart [] a ys r p i = absurd i
rising_apart (x ∷ xs) a ys r p (inl e) = subst (λ z. z < a) (sym e) (r.0 a (In-right a xs (a ∷ ys) (inl refl)))
rising_apart (x ∷ xs) a ys r p (inr i) = rising_apart xs a ys r.1 p i

module _ (t u : Tree) (region : ℕ) (w : IsTree t) (wu : IsTree u) (h : IsGrownIn t u region) where
  -- what stands in a new block is not there in t
  module _ (b : ℕ) (new : length t.bodies ≤ b) where
    pub old_stays : (k : ℕ) → k < length t.operations → is_met_above u (is_in_operation u b) (Some k) ≡ false
    old_stays k lt = false_from_ne_true _ (λ e. let x = (in_new t u region w h wu b k new (in_block_is u b k e)).0 in absurd (omega (arith, x, lt)))

    pub grown_dropped : IsGrownIn t (uses_dropped u b) region
    grown_dropped = record {
      added = h.added;
      last = h.last;
      fresh = h.fresh;
      operation_count = h.operation_count;
      block_count = h.block_count;
      value_count = h.value_count;
      slots = h.slots;
      rows = h.rows;
      operands = λ k lt. (dropped_kept u (is_in_operation u b) k (old_stays k lt)).0 ∙ h.operands k lt;
      successors = λ k lt. (dropped_kept u (is_in_operation u b) k (old_stays k lt)).1 ∙ h.successors k lt;
      parents = h.parents;
      bodies = h.bodies;
      arguments = h.arguments;
      block_parents = h.block_parents;
      layouts = h.layouts;
      definitions = h.definitions;
      childless = h.childless;
      placed = h.placed;
    }

    here_bare : (k : ℕ) → parent_of u k ≡ Some b → (operands_of (uses_dropped u b) k ≡ []) × (successors_of (uses_dropped u b) k ≡ [])
    here_bare k e = dropped_gone u (is_in_operation u b) k (is_in_block u b k wu.joined (k, e, inl refl))

    still_bare : (k : ℕ) → (operands_of u k ≡ []) × (successors_of u k ≡ []) → (operands_of (uses_dropped u b) k ≡ []) × (successors_of (uses_dropped u b) k ≡ [])
    still_bare k bare = ⊎_elim (λ e. dropped_gone u (is_in_operation u b) k e) (λ e. let s = dropped_kept u (is_in_operation u b) k e in (s.0 ∙ bare.0, s.1 ∙ bare.1)) (true_or_false (is_met_above u (is_in_operation u b) (Some k)))

  pub stands_in : (b : ℕ) → In b h.added → block_parent_of u b ≡ Some region
  stands_in b i = wu.layouts.owned b region (subst (In b) (sym h.last) (In-right b (layout_of t region) h.added i))

  -- a block at the end that is the last one of t is not new
  pub not_last : (b : ℕ) → In b h.added → last_of None (layout_of t region) ≡ Some b → ⊥
  not_last b i e =
      let x = block_old t w b region (last_of-In b (layout_of t region) e) in
      let y = h.fresh b i in
      omega (arith, x, y)

  -- ---- uses are dropped

  pub drop_start : (last at : Option ℕ) → last ≡ last_of None (layout_of t region) → at ≡ last_of None (layout_of u region) → IsDropping t u region last at
  drop_start last at l e = record {
    grown = h;
    left = h.added;
    done = [];
    split = sym (append-nil h.added);
    here = e ∙ ap (last_of None) h.last ∙ last_append None (layout_of t region) h.added ∙ ap (λ o. last_of o h.added) (sym l);
    bare = λ k b i e. absurd i;
  }

  pub all_bare : ((k b : ℕ) → In b h.added → parent_of u k ≡ Some b → (operands_of u k ≡ []) × (successors_of u k ≡ [])) → AreBare t u
  all_bare bare k le = go (head_of u k) refl
    where
      go : (o : Option _) → head_of u k ≡ o → (operands_of u k ≡ []) × (successors_of u k ≡ [])
      go None e = let x = wu.joined.erased k e in (x.0, x.1)
      go (Some d) e =
          let p = h.placed k le (ap is_some e) in
          bare k p.0 (new_block t u region w h wu p.0 (wu.joined.all_in_place k p.0 p.1).1 p.2) p.1

-- one block more has no uses in it
module _ (t u : Tree) (region : ℕ) (last : Option ℕ) (w : IsTree t) (wu : IsTree u) (is_last : last ≡ last_of None (layout_of t region)) (a : ℕ) (d : IsDropping t u region last (Some a)) (other : last ≡ Some a → ⊥) where
  parts : (front : List ℕ) × (d.left ≡ front ++ a ∷ [])
  parts = ⊎_elim
      (λ e. absurd (other (sym (d.here ∙ ap (last_of last) e))))
      (λ s. let same : a ≡ s.1 = some_is (d.here ∙ ap (last_of last) s.2 ∙ last_there last s.0 s.1) in (s.0, s.2 ∙ ap (λ z. s.0 ++ z ∷ []) (sym same)))
      (from_end d.left)

  added_is : d.grown.added ≡ parts.0 ++ a ∷ d.done
  added_is = d.split ∙ ap (λ z. z ++ d.done) parts.1 ∙ append_assoc parts.0 (a ∷ []) d.done

  there : In a d.grown.added
  there = subst (In a) (sym added_is) (In-right a parts.0 (a ∷ d.done) (inl refl))

  pub drop_new : length t.bodies ≤ a
  drop_new = d.grown.fresh a there

  pub drop_block : IsBlock u a
  drop_block = ap is_some (stands_in t u region w wu d.grown a there)

  layout_is : layout_of u region ≡ (layout_of t region ++ parts.0) ++ a ∷ d.done
  layout_is = d.grown.last ∙ ap (λ z. layout_of t region ++ z) added_is ∙ sym (append_assoc (layout_of t region) parts.0 (a ∷ d.done))

  out : In a (layout_of t region ++ parts.0) → ⊥
  out i = distinct-apart (layout_of t region ++ parts.0) (a ∷ d.done) (subst IsDistinct layout_is (wu.layouts.distinct region)) a i (inl refl)

  before_is : prev_block_of u a ≡ last_of last parts.0
  before_is =
      ap (λ o. up_from o (λ r. prev_in None a (layout_of u r))) (stands_in t u region w wu d.grown a there) ∙ ap (prev_in None a) layout_is ∙ prev_in-split None a (layout_of t region ++ parts.0) d.done out ∙ last_append None (layout_of t region) parts.0 ∙ ap (λ o. last_of o parts.0) (sym is_last)

  pub drop_next : (at : Option ℕ) → at ≡ prev_block_of (uses_dropped u a) a → IsDropping t (uses_dropped u a) region last at
  unfolding grown_dropped
  drop_next at e = record {
    grown = grown_dropped t u region w wu d.grown a drop_new;
    left = parts.0;
    done = a ∷ d.done;
    split = added_is;
    here = e ∙ before_is;
    bare = λ k b i p. ⊎_elim
        (λ s. here_bare t u region w wu d.grown a drop_new k (p ∙ ap Some s))
        (λ j. still_bare t u region w wu d.grown a drop_new k (d.bare k b j p))
        i;
  }

  pub drop_falls : (at : Option ℕ) → at ≡ prev_block_of (uses_dropped u a) a → option_map_or (λ b. b + 1) at 0 < a + 1
  drop_falls at e = go at (e ∙ before_is)
    where
      go : (o : Option ℕ) → o ≡ last_of last parts.0 → option_map_or (λ b. b + 1) o 0 < a + 1
      go None f = omega arith
      go (Some p) f =
          let i : In p (layout_of t region ++ parts.0) = last_of-In p (layout_of t region ++ parts.0) (last_append None (layout_of t region) parts.0 ∙ ap (λ o. last_of o parts.0) (sym is_last) ∙ sym f) in
          let x = rising_apart (layout_of t region ++ parts.0) a d.done (subst IsRising layout_is (wu.joined.ordered region)) p i in
          omega (arith, x)

-- no block is left
module _ (t u : Tree) (region : ℕ) (last : Option ℕ) (w : IsTree t) (wu : IsTree u) (is_last : last ≡ last_of None (layout_of t region)) where
  drop_done : (at : Option ℕ) (d : IsDropping t u region last at) → d.left ≡ [] → AreBare t u
  drop_done at d e = all_bare t u region w wu d.grown (λ k b i p. d.bare k b (subst (In b) (d.split ∙ ap (λ z. z ++ d.done) e) i) p)

  pub drop_at_end : (at : Option ℕ) (d : IsDropping t u region last at) → at ≡ None → AreBare t u
  drop_at_end at d e = ⊎_elim
      (λ s. drop_done at d s)
      (λ s. absurd (not_none (sym e ∙ d.here ∙ ap (last_of last) s.2 ∙ last_there last s.0 s.1)))
      (from_end d.left)

  pub drop_at_last : (a : ℕ) (d : IsDropping t u region last (Some a)) → last ≡ Some a → AreBare t u
  drop_at_last a d e = ⊎_elim
      (λ s. drop_done (Some a) d s)
      (λ s.
      let same : a ≡ s.1 = some_is (d.here ∙ ap (last_of last) s.2 ∙ last_there last s.0 s.1) in
      let i : In s.1 d.grown.added = subst (In s.1) (sym d.split) (In-left s.1 d.left d.done (subst (In s.1) (sym s.2) (In-right s.1 s.0 (s.1 ∷ []) (inl refl)))) in
      absurd (not_last t u region w wu d.grown s.1 i (sym is_last ∙ e ∙ ap Some same)))
      (from_end d.left)

-- ---- blocks are erased

module _ (t u : Tree) (region : ℕ) (w : IsTree t) (wu : IsTree u) (h : IsGrownIn t u region) (bare : AreBare t u) where
  in_none : (v : ℕ) (xs : List ℕ) → xs ≡ [] → In v xs → ⊥
  in_none v xs e i = subst (In v) e i

  module _ (a : ℕ) (i : In a h.added) where
    new : length t.bodies ≤ a
    new = h.fresh a i

    not_in : (k : ℕ) → k < length t.operations → IsInOperation u a k → ⊥
    not_in k lt s = let x = (in_new t u region w h wu a k new s).0 in omega (arith, x, lt)

    holds_none_in : (c k : ℕ) → block_parent_operation_of u c ≡ Some k → IsInOperation u a k → ⊥
    holds_none_in c k e s = holds_no_block u wu k c (h.childless k (in_new t u region w h wu a k new s).0) e

    not_within : (c : ℕ) → c < length t.bodies → IsBlockWithin u a c → ⊥
    not_within c lt (inl e) = let x = new in omega (arith, e, x, lt)
    not_within c lt (inr y) = holds_none_in c y.0 y.1 y.2

    not_made : (v : ℕ) (d : Def) → IsMadeBy t v (Some d) → IsDefinedInBlock u a (Some d) → ⊥
    not_made v (Result k n) m s = elim (cases_lt k (length t.operations)) [
      | inl lt ↦ not_in k lt s
      | inr le ↦ empty_slice (results_of t k) n v (ap (λ z. z.results) (past_row t k le)) m
    ]
    not_made v (Argument c n) m s = elim (cases_lt c (length t.bodies)) [
      | inl lt ↦ not_within c lt s
      | inr le ↦ empty_slice (arguments_of t c) n v (get_or_past t.arguments c [] (let x = w.keys.arguments in omega (arith, x, le))) m
    ]

    pub erase_contained : IsSelfContainedBlock u a
    erase_contained = record {
      values = λ x v j m. elim (cases_lt x (length t.operations)) [
        | inl lt ↦
            let p = maker_is t v (w.joined.operands x v (subst (In v) (h.operands x lt) j)) in
            absurd (not_made v p.0 p.2 (subst (IsDefinedInBlock u a) (h.definitions v p.0 p.1) m))
        | inr le ↦ absurd (in_none v (operands_of u x) (bare x le).0 j)
      ];
      blocks = λ x c j m. elim (cases_lt x (length t.operations)) [
        | inl lt ↦ absurd (not_within c (block-within t c w.keys (w.joined.successors x c (subst (In c) (h.successors x lt) j))) m)
        | inr le ↦ absurd (in_none c (successors_of u x) (bare x le).1 j)
      ];
    }

    pub erase_block_stands : IsBlock u a
    erase_block_stands = ap is_some (stands_in t u region w wu h a i)

    abbrev op_away : ℕ → Bool
    op_away k = is_met_above u (is_in_operation u a) (Some k)

    abbrev block_away : ℕ → Bool
    block_away c = is_met_above u (is_in_operation u a) (block_parent_operation_of u c)

    abbrev region_away : ℕ → Bool
    region_away r = is_met_above u (is_in_operation u a) (region_parent_of u r)

    op_stays : (k : ℕ) → k < length t.operations → op_away k ≡ false
    op_stays k lt = old_stays t u region w wu h a new k lt

    block_stays : (c : ℕ) → block_away c ≡ false
    block_stays c = false_from_ne_true _ (λ e. let x = met_block u a (block_parent_operation_of u c) e in holds_none_in c x.0 x.1 x.2)

    abbrev E : Tree
    E = block_emptied u a

    abbrev z : Tree
    z = block_taken_from E a (Some region)

    layout_kept : (r : ℕ) → layout_of E r ≡ layout_of u r
    layout_kept r = ⊎_elim
        (λ e. blanked_gone region_away [] u.layouts r e ∙ sym (none_empty (layout_of u r) (λ b j. true≢false (sym (ap (is_met_above u (is_in_operation u a)) (block_holder_from u b r (wu.layouts.owned b r j)) ∙ e) ∙ block_stays b))))
        (λ e. blanked_kept region_away [] u.layouts r e)
        (true_or_false (region_away r))

    at_a : block_parent_of E a ≡ Some region
    at_a = blanked_kept block_away None u.block_parents a (block_stays a) ∙ stands_in t u region w wu h a i

    z_is : z ≡ block_erased u a
    z_is = ap (λ o. block_taken_from E a o) (sym at_a)

    region_in : region < length E.layouts
    region_in =
        let s = slot_is u region (wu.joined.placed a region (stands_in t u region w wu h a i)) in
        let x = slice_get_within u.slots region s.0 s.1 in
        let y = wu.keys.slots in
        let l = length-blanked region_away [] u.layouts in
        omega (arith, x, y, l)

    module _ (front : List ℕ) (added : h.added ≡ front ++ a ∷ []) where
      layout_parts : layout_of u region ≡ (layout_of t region ++ front) ++ a ∷ []
      layout_parts = h.last ∙ ap (λ x. layout_of t region ++ x) added ∙ sym (append_assoc (layout_of t region) front (a ∷ []))

      apart : In a (layout_of t region ++ front) → ⊥
      apart j = distinct-apart (layout_of t region ++ front) (a ∷ []) (subst IsDistinct layout_parts (wu.layouts.distinct region)) a j (inl refl)

      left : layout_of z region ≡ layout_of t region ++ front
      left = get_or-set_same E.layouts region (without a (layout_of E region)) [] region_in ∙ ap (without a) (layout_kept region ∙ layout_parts) ∙ without-split a (layout_of t region ++ front) [] apart ∙ append-nil (layout_of t region ++ front)

      not_a : (b : ℕ) → b < length t.bodies → b ≢ a
      not_a b lt e = let x = new in absurd (omega (arith, e, x, lt))

      grown_less : IsGrownIn t z region
      grown_less = record {
        added = front;
        last = left;
        fresh = λ b j. h.fresh b (subst (In b) (sym added) (In-left b front (a ∷ []) j));
        operation_count = let x = length-blanked op_away no_entry u.operations in let y = h.operation_count in omega (arith, x, y);
        block_count = let y = h.block_count in let x = block_long in omega (arith, x, y);
        value_count = h.value_count;
        slots = h.slots;
        rows = λ k lt. blanked_kept op_away no_entry u.operations k (op_stays k lt) ∙ h.rows k lt;
        operands = λ k lt. blanked_kept op_away [] u.operands k (op_stays k lt) ∙ h.operands k lt;
        successors = λ k lt. blanked_kept op_away [] u.successors k (op_stays k lt) ∙ h.successors k lt;
        parents = λ k lt. blanked_kept op_away None u.parents k (op_stays k lt) ∙ h.parents k lt;
        bodies = λ b lt. get_or-set_other _ a b [] [] (not_a b lt) ∙ blanked_kept block_away [] u.bodies b (block_stays b) ∙ h.bodies b lt;
        arguments = λ b lt. get_or-set_other E.arguments a b [] [] (not_a b lt) ∙ blanked_kept block_away [] u.arguments b (block_stays b) ∙ h.arguments b lt;
        block_parents = λ b lt. get_or-set_other E.block_parents a b None None (not_a b lt) ∙ blanked_kept block_away None u.block_parents b (block_stays b) ∙ h.block_parents b lt;
        layouts = λ r ne. get_or-set_other E.layouts region r (without a (layout_of E region)) [] ne ∙ layout_kept r ∙ h.layouts r ne;
        definitions = h.definitions;
        childless = λ k le. ⊎_elim
            (λ e. ap (λ x. x.regions) (blanked_gone op_away no_entry u.operations k e))
            (λ e. ap (λ x. x.regions) (blanked_kept op_away no_entry u.operations k e) ∙ h.childless k le)
            (true_or_false (op_away k));
        placed = λ k le l. ⊎_elim
            (λ e. absurd (no_some (head_of z k) (ap (λ x. x.head) (blanked_gone op_away no_entry u.operations k e)) l))
            (λ e.
            let p = h.placed k le (subst (λ x. IsSome x.head) (blanked_kept op_away no_entry u.operations k e) l) in
            (p.0, blanked_kept op_away None u.parents k e ∙ p.1, p.2))
            (true_or_false (op_away k));
      }
        where
          block_long : length E.bodies ≡ length u.bodies
          block_long = length-set _ a [] ∙ length-blanked block_away [] u.bodies

      bare_less : AreBare t z
      bare_less k le = ⊎_elim
          (λ e. (blanked_gone op_away [] u.operands k e, blanked_gone op_away [] u.successors k e))
          (λ e. (blanked_kept op_away [] u.operands k e ∙ (bare k le).0, blanked_kept op_away [] u.successors k e ∙ (bare k le).1))
          (true_or_false (op_away k))

      pub erase_grown : IsGrownIn t (block_erased u a) region
      erase_grown = subst (λ (x : Tree). IsGrownIn t x region) z_is grown_less

      pub erase_bare : AreBare t (block_erased u a)
      erase_bare = subst (λ (x : Tree). AreBare t x) z_is bare_less

      pub erase_falls : length (layout_of (block_erased u a) region) < length (layout_of u region)
      erase_falls =
          let x = ap length left in
          let y = ap length layout_parts in
          let n = length-append (layout_of t region ++ front) (a ∷ []) in
          subst (λ (q : Tree). length (layout_of q region) < length (layout_of u region)) z_is (omega (arith, x, y, n))

  -- the last block of the region is new, or none is
  pub erase_parts : (last : Option ℕ) (a : ℕ) → last ≡ last_of None (layout_of t region) → Some a ≡ last_of None (layout_of u region) → (last ≡ Some a → ⊥) → (front : List ℕ) × (h.added ≡ front ++ a ∷ [])
  erase_parts last a is_last tail other =
      let here : Some a ≡ last_of last h.added = tail ∙ ap (last_of None) h.last ∙ last_append None (layout_of t region) h.added ∙ ap (λ o. last_of o h.added) (sym is_last) in
      ⊎_elim
      (λ e. absurd (other (sym (here ∙ ap (last_of last) e))))
      (λ s. let same : a ≡ s.1 = some_is (here ∙ ap (last_of last) s.2 ∙ last_there last s.0 s.1) in (s.0, s.2 ∙ ap (λ z. s.0 ++ z ∷ []) (sym same)))
      (from_end h.added)

-- what erasing the last block of the region makes
pub record IsErasedLast (t u : Tree) (region a : ℕ) : Type 0 where
  pub block : IsBlock u a
  pub contained : IsSelfContainedBlock u a
  pub grown : IsGrownIn t (block_erased u a) region
  pub bare : AreBare t (block_erased u a)
  pub falls : length (layout_of (block_erased u a) region) < length (layout_of u region)

pub erase_step : (t u : Tree) (region : ℕ) (w : IsTree t) (wu : IsTree u) (h : IsGrownIn t u region) (bare : AreBare t u) (last : Option ℕ) (a : ℕ) → last ≡ last_of None (layout_of t region) → Some a ≡ last_of None (layout_of u region) → (last ≡ Some a → ⊥) → IsErasedLast t u region a
erase_step t u region w wu h bare last a is_last tail other =
    let p = erase_parts t u region w wu h bare last a is_last tail other in
    let i : In a h.added = subst (In a) (sym p.1) (In-right a p.0 (a ∷ []) (inl refl)) in
    record {
      block = erase_block_stands t u region w wu h bare a i;
      contained = erase_contained t u region w wu h bare a i;
      grown = erase_grown t u region w wu h bare a i p.0 p.1;
      bare = erase_bare t u region w wu h bare a i p.0 p.1;
      falls = erase_falls t u region w wu h bare a i p.0 p.1;
    }

module _ (t u : Tree) (region : ℕ) (w : IsTree t) (wu : IsTree u) (h : IsGrownIn t u region) where
  -- without new blocks the tree is as it was
  same_again : h.added ≡ [] → IsSameTree t u
  same_again none = record {
    operations = λ k. elim (cases_lt k (length t.operations)) [
      | inl lt ↦ h.rows k lt
      | inr le ↦ (dead k le).2 ∙ sym (past_row t k le)
    ];
    operands = λ k. elim (cases_lt k (length t.operations)) [
      | inl lt ↦ h.operands k lt
      | inr le ↦ (dead k le).0 ∙ sym (get_or_past t.operands k [] (let x = w.keys.operands in omega (arith, x, le)))
    ];
    successors = λ k. elim (cases_lt k (length t.operations)) [
      | inl lt ↦ h.successors k lt
      | inr le ↦ (dead k le).1 ∙ sym (get_or_past t.successors k [] (let x = w.keys.successors in omega (arith, x, le)))
    ];
    parents = λ k. elim (cases_lt k (length t.operations)) [
      | inl lt ↦ h.parents k lt
      | inr le ↦ unplaced k le (parent_of u k) refl ∙ sym (get_or_past t.parents k None (let x = w.keys.parents in omega (arith, x, le)))
    ];
    bodies = λ b. elim (cases_lt b (length t.bodies)) [
      | inl lt ↦ h.bodies b lt
      | inr le ↦ (wu.joined.unplaced b (no_block b le)).1 ∙ sym (get_or_past t.bodies b [] le)
    ];
    arguments = λ b. elim (cases_lt b (length t.bodies)) [
      | inl lt ↦ h.arguments b lt
      | inr le ↦ (wu.joined.unplaced b (no_block b le)).0 ∙ sym (get_or_past t.arguments b [] (let x = w.keys.arguments in omega (arith, x, le)))
    ];
    block_parents = λ b. elim (cases_lt b (length t.bodies)) [
      | inl lt ↦ h.block_parents b lt
      | inr le ↦ no_block b le ∙ sym (get_or_past t.block_parents b None (let x = w.keys.block_parents in omega (arith, x, le)))
    ];
    layouts = λ r. elim (cases_eq r region) [
      | inl e ↦ ap (layout_of u) e ∙ h.last ∙ ap (λ z. layout_of t region ++ z) none ∙ append-nil (layout_of t region) ∙ ap (layout_of t) (sym e)
      | inr ne ↦ h.layouts r ne
    ];
  }
    where
      no_block_is : (b : ℕ) → length t.bodies ≤ b → IsBlock u b → ⊥
      no_block_is b le is = subst (In b) none (new_block t u region w h wu b is le)

      no_block : (b : ℕ) → length t.bodies ≤ b → block_parent_of u b ≡ None
      no_block b le = go (block_parent_of u b) refl
        where
          go : (o : Option ℕ) → block_parent_of u b ≡ o → block_parent_of u b ≡ None
          go None e = e
          go (Some r) e = absurd (no_block_is b le (ap is_some e))

      not_live : (k : ℕ) → length t.operations ≤ k → IsLive u k → ⊥
      not_live k le l = let p = h.placed k le l in no_block_is p.0 p.2 (wu.joined.all_in_place k p.0 p.1).1

      dead : (k : ℕ) → length t.operations ≤ k → (operands_of u k ≡ []) × (successors_of u k ≡ []) × (row_of u k ≡ no_entry)
      dead k le = go (head_of u k) refl
        where
          go : (o : Option _) → head_of u k ≡ o → (operands_of u k ≡ []) × (successors_of u k ≡ []) × (row_of u k ≡ no_entry)
          go None e = wu.joined.erased k e
          go (Some d) e = absurd (not_live k le (ap is_some e))

      unplaced : (k : ℕ) → length t.operations ≤ k → (o : Option ℕ) → parent_of u k ≡ o → parent_of u k ≡ None
      unplaced k le None e = e
      unplaced k le (Some b) e = absurd (not_live k le (wu.joined.all_in_place k b e).0)

  pub erase_done : last_of None (layout_of u region) ≡ None → IsSameTree t u
  erase_done e = ⊎_elim
      same_again
      (λ s. absurd (not_none (sym e ∙ ap (last_of None) (h.last ∙ ap (λ z. layout_of t region ++ z) s.2) ∙ last_append None (layout_of t region) (s.0 ++ s.1 ∷ []) ∙ last_there (last_of None (layout_of t region)) s.0 s.1)))
      (from_end h.added)

  pub erase_at_last : (a : ℕ) → last_of None (layout_of t region) ≡ Some a → Some a ≡ last_of None (layout_of u region) → IsSameTree t u
  erase_at_last a is_last tail = ⊎_elim
      same_again
      (λ s.
      let same : a ≡ s.1 = some_is (tail ∙ ap (last_of None) (h.last ∙ ap (λ z. layout_of t region ++ z) s.2) ∙ last_append None (layout_of t region) (s.0 ++ s.1 ∷ []) ∙ last_there (last_of None (layout_of t region)) s.0 s.1) in
      absurd (not_last t u region w wu h s.1 (subst (In s.1) (sym s.2) (In-right s.1 s.0 (s.1 ∷ []) (inl refl))) (is_last ∙ ap Some same)))
      (from_end h.added)

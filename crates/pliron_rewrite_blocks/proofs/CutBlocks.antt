-- Erasing blocks one after the other.
use Rattle.std.proofs.Common.{◌≡◌, ◌⊎◌, inl, inr, ⊎_elim, ℕ, zero, suc, Bool, true, false, true≢false, nat_eq, if◌then◌else◌, List, [], ◌∷◌, length, get_or, Option, Some, None, is_some, slice_get, slice_set, refl, sym, ap, ◌∙◌, subst}
use Rattle.std.proofs.lemmas.Bool.{cases_eq, eq-eqb, false_from_ne_true}
use Rattle.std.proofs.lemmas.Bool.Decides.{eqb_tells}
use Rattle.std.proofs.lemmas.List.{get_or-set_other, length-set}
use Rattle.pliron_core.specs.Tree.{Tree, In, IsLive, IsRegion, IsInside, IsInside.Directly, IsInside.Deeper, IsWithin, no_entry, head_of, parent_of, block_parent_of, region_parent_of, block_parent_operation_of, parent_operation_of, op_of_slot}
use Rattle.pliron_core.specs.Invariant.{IsTree}
use Rattle.pliron_core.specs.Erased.{is_met, is_met_above, blank_at, is_in_operation, IsInOperation, block_emptied, block_taken_from, block_erased}
use Rattle.pliron_core.proofs.TreeLemmas.{live-within}
use Rattle.pliron_core.proofs.BlankLemmas.{length-blanked, blanked_gone, blanked_kept}
use Rattle.pliron_core.proofs.ClearingLemmas.{IsClearing, clearing_none, clearing_trans, set_kept}
use Rattle.pliron_core.proofs.ClearedLemmas.{met_block, blank_set}
use Rattle.pliron_core.proofs.WithinLemmas.{block_steps, block_holder_from, holder_steps, holder_from, in_block_is, is_listed_from, stands_met, within_met, met_within}
use Rattle.pliron_core.proofs.HoldingLemmas.{some_is, not_none, block_held}
use Rattle.pliron_rewrite_blocks.specs.Cutting.{is_listed, is_in_one_of, cut_op, cut_block, ErasesAll, ErasesAll.Done, ErasesAll.Then, AreCut, CuttingLaw}

pub or_true : (z : Bool) → (if z then true else true) ≡ true
or_true true = refl
or_true false = refl

pub listed : (bs : List ℕ) (b : ℕ) → In b bs → is_listed bs b ≡ true
listed [] b i = absurd i
listed (x ∷ bs) b (inl e) = ap (λ z. if z then true else is_listed bs b) (eq-eqb x b (sym e))
listed (x ∷ bs) b (inr i) = ⊎_elim (λ y. ap (λ z. if z then true else is_listed bs b) y.0) (λ n. ap (λ z. if z then true else is_listed bs b) n.0 ∙ listed bs b i) (eqb_tells x b)

pub is_listed_in : (xs : List ℕ) (c : ℕ) → is_listed xs c ≡ true → In c xs
is_listed_in [] c e = absurd (true≢false (sym e))
is_listed_in (x ∷ xs) c e = ⊎_elim (λ y. inl (sym y.1)) (λ n. inr (is_listed_in xs c (sym (ap (λ z. if z then true else is_listed xs c) n.0) ∙ e))) (eqb_tells x c)

pub stands_one : (t : Tree) (bs : List ℕ) (b x : ℕ) → In b bs → parent_of t x ≡ Some b → is_in_one_of t bs x ≡ true
stands_one t [] b x i e = absurd i
stands_one t (c ∷ bs) b x (inl s) e = ap (λ z. if z then true else is_in_one_of t bs x) (stands_met t c x (e ∙ ap Some s))
stands_one t (c ∷ bs) b x (inr i) e = go (is_in_operation t c x) (stands_one t bs b x i e)
  where
    go : (z : Bool) → is_in_one_of t bs x ≡ true → (if z then true else is_in_one_of t bs x) ≡ true
    go true f = refl
    go false f = f

pub one_stands : (t : Tree) (bs : List ℕ) (x : ℕ) → is_in_one_of t bs x ≡ true → (b : ℕ) × In b bs × (parent_of t x ≡ Some b)
one_stands t [] x e = absurd (true≢false (sym e))
one_stands t (c ∷ bs) x e = go (is_in_operation t c x) refl e (λ f. one_stands t bs x f)
  where
    go : (z : Bool) → is_in_operation t c x ≡ z → (if z then true else is_in_one_of t bs x) ≡ true → (is_in_one_of t bs x ≡ true → (b : ℕ) × In b bs × (parent_of t x ≡ Some b)) → (b : ℕ) × In b (c ∷ bs) × (parent_of t x ≡ Some b)
    go true f g again = (c, inl refl, is_listed_from t c x f)
    go false f g again = let y = again g in (y.0, inr y.1, y.2)

pub nothing_met : (t : Tree) (p : ℕ → Bool) → is_met_above t p None ≡ false
nothing_met t p = none (length t.operations)
  where
    none : (n : ℕ) → is_met (parent_operation_of t) p n None ≡ false
    none zero = refl
    none (suc n) = refl

-- a block goes if it is listed or what holds it goes
pub block_cases : (t : Tree) (bs : List ℕ) (c : ℕ) → cut_block t bs c ≡ true → In c bs ⊎ ((q : ℕ) × (block_parent_operation_of t c ≡ Some q) × (cut_op t bs q ≡ true))
block_cases t bs c e = go (is_listed bs c) refl e
  where
    above : (o : Option ℕ) → block_parent_operation_of t c ≡ o → is_met_above t (is_in_one_of t bs) o ≡ true → (q : ℕ) × (block_parent_operation_of t c ≡ Some q) × (cut_op t bs q ≡ true)
    above None f g = absurd (true≢false (sym g ∙ nothing_met t (is_in_one_of t bs)))
    above (Some q) f g = (q, f, g)

    go : (z : Bool) → is_listed bs c ≡ z → (if z then true else is_met_above t (is_in_one_of t bs) (block_parent_operation_of t c)) ≡ true → In c bs ⊎ ((q : ℕ) × (block_parent_operation_of t c ≡ Some q) × (cut_op t bs q ≡ true))
    go true l g = inl (is_listed_in bs c l)
    go false l g = inr (above (block_parent_operation_of t c) refl g)

module _ (t : Tree) (w : IsTree t) (region : ℕ) (bs : List ℕ) (own : (b : ℕ) → In b bs → block_parent_of t b ≡ Some region) where
  abbrev ops : ℕ → Bool
  ops k = cut_op t bs k

  abbrev blocks : ℕ → Bool
  blocks c = cut_block t bs c

  abbrev regions : ℕ → Bool
  regions r = if nat_eq region r then true else is_met_above t (is_in_one_of t bs) (region_parent_of t r)

  -- one block of the list is erased
  module _ (u : Tree) (wu : IsTree u) (c : IsClearing ops blocks blocks regions t u) (b : ℕ) (i : In b bs) where
    region_parent_same : (r : ℕ) → region_parent_of u r ≡ region_parent_of t r
    region_parent_same r = ap (λ z. op_of_slot (slice_get z r)) c.slots

    block_holder_was : (x y : ℕ) → block_parent_operation_of u x ≡ Some y → block_parent_operation_of t x ≡ Some y
    block_holder_was x y e = let s = block_steps u x y e in block_holder_from t x s.0 (c.placed x s.0 s.1) ∙ sym (region_parent_same s.0) ∙ s.2

    holder_was : (x y : ℕ) → parent_operation_of u x ≡ Some y → parent_operation_of t x ≡ Some y
    holder_was x y e =
        let s = holder_steps u x y e in
        let k = c.stays x (wu.joined.all_in_place x s.0 s.1).0 in
        holder_from t x s.0 (sym k.1 ∙ s.1) ∙ block_holder_was s.0 y s.2

    inside_was : (x y : ℕ) → IsInside u x y → IsInside t x y
    inside_was x y (Directly e) = Directly (holder_was y x e)
    inside_was x y (Deeper q e j) = Deeper q (holder_was y q e) (inside_was x q j)

    within_was : (x y : ℕ) → IsWithin u x y → IsWithin t x y
    within_was x y (inl e) = inl e
    within_was x y (inr j) = inr (inside_was x y j)

    sound : (k : ℕ) → IsInOperation u b k → ops k ≡ true
    sound k y =
        let s = wu.joined.all_in_place y.0 b y.1 in
        let z = c.stays y.0 s.0 in
        within_met t (is_in_one_of t bs) w.joined y.0 k (live-within t y.0 z.0) (stands_one t bs b y.0 i (sym z.1 ∙ y.1)) (within_was y.0 k y.2)

    sound_op : (k : ℕ) → is_met_above u (is_in_operation u b) (Some k) ≡ true → ops k ≡ true
    sound_op k e = sound k (in_block_is u b k e)

    sound_block : (x : ℕ) → is_met_above u (is_in_operation u b) (block_parent_operation_of u x) ≡ true → blocks x ≡ true
    sound_block x e =
        let y = met_block u b (block_parent_operation_of u x) e in
        ap (λ o. if is_listed bs x then true else is_met_above t (is_in_one_of t bs) o) (block_holder_was x y.0 y.1) ∙ ap (λ z. if is_listed bs x then true else z) (sound y.0 y.2) ∙ or_true (is_listed bs x)

    sound_region : (r : ℕ) → is_met_above u (is_in_operation u b) (region_parent_of u r) ≡ true → regions r ≡ true
    sound_region r e =
        let y = met_block u b (region_parent_of u r) e in
        ap (λ o. if nat_eq region r then true else is_met_above t (is_in_one_of t bs) o) (sym (region_parent_same r) ∙ y.1) ∙ ap (λ z. if nat_eq region r then true else z) (sound y.0 y.2) ∙ or_true (nat_eq region r)

    kept_op : (k : ℕ) → ops k ≡ false → is_met_above u (is_in_operation u b) (Some k) ≡ false
    kept_op k e = false_from_ne_true _ (λ f. true≢false (sym (sound_op k f) ∙ e))

    kept_block : (x : ℕ) → blocks x ≡ false → is_met_above u (is_in_operation u b) (block_parent_operation_of u x) ≡ false
    kept_block x e = false_from_ne_true _ (λ f. true≢false (sym (sound_block x f) ∙ e))

    kept_region : (r : ℕ) → regions r ≡ false → is_met_above u (is_in_operation u b) (region_parent_of u r) ≡ false
    kept_region r e = false_from_ne_true _ (λ f. true≢false (sym (sound_region r f) ∙ e))

    b_cut : blocks b ≡ true
    b_cut = ap (λ z. if z then true else is_met_above t (is_in_one_of t bs) (block_parent_operation_of t b)) (listed bs b i)

    region_cut : regions region ≡ true
    region_cut = ap (λ z. if z then true else is_met_above t (is_in_one_of t bs) (region_parent_of t region)) (eq-eqb region region refl)

    abbrev emptied : Tree
    emptied = block_emptied u b

    live_kept : (k : ℕ) → (z : Bool) → is_met_above u (is_in_operation u b) (Some k) ≡ z → IsLive emptied k → IsLive u k × (parent_of emptied k ≡ parent_of u k)
    live_kept k true e l = absurd (true≢false (sym l ∙ ap (λ r. is_some r.head) (blanked_gone _ no_entry u.operations k e)))
    live_kept k false e l = (subst (λ r. is_some r.head ≡ true) (blanked_kept _ no_entry u.operations k e) l, blanked_kept _ None u.parents k e)

    placed_kept : (x r : ℕ) (z : Bool) → is_met_above u (is_in_operation u b) (block_parent_operation_of u x) ≡ z → block_parent_of emptied x ≡ Some r → block_parent_of u x ≡ Some r
    placed_kept x r true e f = absurd (not_none (sym (blanked_gone _ None u.block_parents x e) ∙ f))
    placed_kept x r false e f = sym (blanked_kept _ None u.block_parents x e) ∙ f

    emptied_clearing : IsClearing ops blocks blocks regions u emptied
    emptied_clearing = record {
      count = length-blanked _ no_entry u.operations;
      block_count = length-set (blank_at _ [] u.bodies) b [] ∙ length-blanked _ [] u.bodies;
      slots = refl;
      definitions = refl;
      rows = λ k e. blanked_kept _ no_entry u.operations k (kept_op k e);
      operands = λ k e. blanked_kept _ [] u.operands k (kept_op k e);
      successors = λ k e. blanked_kept _ [] u.successors k (kept_op k e);
      parents = λ k e. blanked_kept _ None u.parents k (kept_op k e);
      contents = λ x e. set_kept (blank_at _ [] u.bodies) [] blocks b [] x b_cut e ∙ blanked_kept _ [] u.bodies x (kept_block x e);
      arguments = λ x e. blanked_kept _ [] u.arguments x (kept_block x e);
      block_parents = λ x e. blanked_kept _ None u.block_parents x (kept_block x e);
      layouts = λ r e. blanked_kept _ [] u.layouts r (kept_region r e);
      stays = λ k l. live_kept k _ refl l;
      placed = λ x r e. placed_kept x r _ refl e;
    }

    taken : (o : Option ℕ) → block_parent_of emptied b ≡ o → IsClearing ops blocks blocks regions emptied (block_taken_from emptied b o)
    taken None e = clearing_none ops blocks blocks regions emptied
    taken (Some r) e = record {
      count = refl;
      block_count = refl;
      slots = refl;
      definitions = refl;
      rows = λ k f. refl;
      operands = λ k f. refl;
      successors = λ k f. refl;
      parents = λ k f. refl;
      contents = λ x f. refl;
      arguments = λ x f. set_kept emptied.arguments [] blocks b [] x b_cut f;
      block_parents = λ x f. set_kept emptied.block_parents None blocks b None x b_cut f;
      layouts = λ q f. set_kept emptied.layouts [] regions r _ q (ap regions (sym same) ∙ region_cut) f;
      stays = λ k l. (l, refl);
      placed = λ x q f. ⊎_elim (λ s. absurd (not_none (sym (ap (λ z. get_or (slice_set emptied.block_parents b None) z None) s ∙ blank_set None emptied.block_parents b) ∙ f))) (λ ne. sym (get_or-set_other emptied.block_parents b x None None ne) ∙ f) (cases_eq x b);
    }
      where
        same : region ≡ r
        same = some_is (sym (own b i) ∙ c.placed b r (emptied_clearing.placed b r e))

    pub erased_clearing : IsClearing ops blocks blocks regions t (block_erased u b)
    erased_clearing = clearing_trans ops blocks blocks regions t u (block_erased u b) c (clearing_trans ops blocks blocks regions u emptied (block_erased u b) emptied_clearing (taken (block_parent_of emptied b) refl))

    -- the block stands no more
    pub erased_block : block_parent_of (block_erased u b) b ≡ None
    erased_block = go (block_parent_of emptied b) refl
      where
        go : (o : Option ℕ) → block_parent_of emptied b ≡ o → block_parent_of (block_taken_from emptied b o) b ≡ None
        go None e = e
        go (Some r) e = blank_set None emptied.block_parents b

    pub step_placed : (x r : ℕ) → block_parent_of (block_erased u b) x ≡ Some r → block_parent_of u x ≡ Some r
    step_placed x r e = emptied_clearing.placed x r ((taken (block_parent_of emptied b) refl).placed x r e)

  -- all of them are
  pub record IsFinished (u v : Tree) (rest : List ℕ) : Type 0 where
    pub tree : IsTree v
    pub clearing : IsClearing ops blocks blocks regions t v
    pub placed : (x r : ℕ) → block_parent_of v x ≡ Some r → block_parent_of u x ≡ Some r
    pub deleted : (b : ℕ) → In b rest → block_parent_of v b ≡ None

  none_by : (o : Option ℕ) → ((r : ℕ) → o ≡ Some r → ⊥) → o ≡ None
  none_by None f = refl
  none_by (Some r) f = absurd (f r refl)

  finished : (rest : List ℕ) (u v : Tree) → ((b : ℕ) → In b rest → In b bs) → ErasesAll rest u v → IsTree u → IsClearing ops blocks blocks regions t u → IsFinished u v rest
  finished [] u v sub Done wu c = record { tree = wu; clearing = c; placed = λ x r e. e; deleted = λ b i. absurd i }
  finished (b ∷ rest) u v sub (Then _ _ liveness next more) wu c =
      let f = finished rest (block_erased u b) v (λ x i. sub x (inr i)) more next (erased_clearing u wu c b (sub b (inl refl))) in
      record {
        tree = f.tree;
        clearing = f.clearing;
        placed = λ x r e. step_placed u wu c b (sub b (inl refl)) x r (f.placed x r e);
        deleted = λ x i. ⊎_elim (λ s. ap (block_parent_of v) s ∙ none_by (block_parent_of v b) (λ r e. not_none (sym (erased_block u wu c b (sub b (inl refl))) ∙ f.placed b r e))) (λ j. f.deleted x j) i;
      }

  module _ (v : Tree) (f : IsFinished t v bs) where
    same_parent : (r : ℕ) → region_parent_of v r ≡ region_parent_of t r
    same_parent r = ap (λ z. op_of_slot (slice_get z r)) f.clearing.slots

    was_held : (x y : ℕ) → block_parent_operation_of v x ≡ Some y → block_parent_operation_of t x ≡ Some y
    was_held x y e = let s = block_steps v x y e in block_holder_from t x s.0 (f.clearing.placed x s.0 s.1) ∙ sym (same_parent s.0) ∙ s.2

    -- what is left stands in what is left
    holder_left : (x y : ℕ) → IsLive v x → parent_operation_of t x ≡ Some y → IsLive v y
    holder_left x y l e =
        let s = holder_steps t x y e in
        let at : parent_of v x ≡ Some s.0 = (f.clearing.stays x l).1 ∙ s.1 in
        let is = (f.tree.joined.all_in_place x s.0 at).1 in
        let held = block_held v s.0 f.tree.joined is in
        let same : held.1 ≡ y = some_is (sym (was_held s.0 held.1 held.5) ∙ s.2) in
        subst (IsLive v) same held.6

    inside_left : (x k : ℕ) → IsLive v k → IsInside t x k → IsLive v x
    inside_left x k l (Directly e) = holder_left k x l e
    inside_left x k l (Deeper q e j) = inside_left x q (holder_left k q l e) j

    within_left : (x k : ℕ) → IsLive v k → IsWithin t x k → IsLive v x
    within_left x k l (inl e) = subst (IsLive v) e l
    within_left x k l (inr j) = inside_left x k l j

    cut_dead : (k : ℕ) → cut_op t bs k ≡ true → IsLive v k → ⊥
    cut_dead k e l =
        let y = met_within t (is_in_one_of t bs) (length t.operations) k e in
        let b = one_stands t bs y.0 y.1 in
        let x = within_left y.0 k l y.2 in
        let at : parent_of v y.0 ≡ Some b.0 = (f.clearing.stays y.0 x).1 ∙ b.2 in
        true≢false (sym (f.tree.joined.all_in_place y.0 b.0 at).1 ∙ ap is_some (f.deleted b.0 b.1))

    no_head : (k : ℕ) → (IsLive v k → ⊥) → head_of v k ≡ None
    no_head k never = go (head_of v k) refl
      where
        go : (o : Option _) → head_of v k ≡ o → o ≡ None
        go None e = refl
        go (Some h) e = absurd (never (ap is_some e))

    block_dead : (c r : ℕ) → cut_block t bs c ≡ true → block_parent_of v c ≡ Some r → ⊥
    block_dead c r e at = go (is_listed bs c) refl e
      where
        held : (q k : ℕ) × (block_parent_of v c ≡ Some q) × IsRegion v q × (region_parent_of v q ≡ Some k) × (block_parent_operation_of v c ≡ Some k) × IsLive v k
        held = block_held v c f.tree.joined (ap is_some at)

        go : (z : Bool) → is_listed bs c ≡ z → (if z then true else is_met_above t (is_in_one_of t bs) (block_parent_operation_of t c)) ≡ true → ⊥
        go true l m = not_none (sym (f.deleted c (is_listed_in bs c l)) ∙ at)
        go false l m = cut_dead held.1 (ap (is_met_above t (is_in_one_of t bs)) (sym (was_held c held.1 held.5)) ∙ m) held.6

    pub are_cut : AreCut t v region bs
    are_cut = record {
      count = f.clearing.count;
      deleted = λ k e. no_head k (cut_dead k e);
      detached_blocks = λ c e. none_by (block_parent_of v c) (λ r at. block_dead c r e at);
      rows = f.clearing.rows;
      operands = f.clearing.operands;
      successors = f.clearing.successors;
      parents = f.clearing.parents;
      bodies = f.clearing.contents;
      arguments = f.clearing.arguments;
      block_parents = f.clearing.block_parents;
      layouts = λ r ne m. f.clearing.layouts r (false_from_ne_true _ (λ e. other r ne m (nat_eq region r) refl e));
    }
      where
        other : (r : ℕ) → (r ≡ region → ⊥) → is_met_above t (is_in_one_of t bs) (region_parent_of t r) ≡ false → (z : Bool) → nat_eq region r ≡ z → (if z then true else is_met_above t (is_in_one_of t bs) (region_parent_of t r)) ≡ true → ⊥
        other r ne m true e g = ⊎_elim (λ y. ne (sym y.1)) (λ n. true≢false (sym e ∙ n.0)) (eqb_tells region r)
        other r ne m false e g = true≢false (sym g ∙ m)

pub cut_all : CuttingLaw
cut_all t v region bs w own erases = are_cut t w region bs own v (finished t w region bs own bs t v (λ b i. i) erases w (clearing_none (cut_op t bs) (cut_block t bs) (cut_block t bs) _ t))

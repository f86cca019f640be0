-- Erasing an operation that gives at once, with its contents, keeps what roots do.
use Rattle.std.proofs.Common.{◌≡◌, ◌≢◌, ◌⊎◌, inl, inr, ⊎_elim, ℕ, ◌<◌, ◌≤◌, Bool, true, false, true≢false, nat_eq, if◌then◌else◌, List, [], ◌∷◌, length, get_or, Option, Some, None, slice_set, refl, sym, ap, ◌∙◌, subst, arith}
use Rattle.std.proofs.lemmas.Bool.{cases_eq}
use Rattle.std.proofs.lemmas.Bool.Decides.{eqb_tells}
use Rattle.std.proofs.lemmas.List.{get_or-set_other, get_or-set_same, get_or_past}
use Rattle.pliron_core.specs.declared.context.Def.{Def}
use Rattle.pliron_core.specs.declared.context.Def.TheVariants.{Result, Argument}
use Rattle.pliron_core.specs.Tree.{Tree, In, IsDistinct, without, IsLive, IsInside, IsDefinedWithin, no_entry, regions_of, parent_of, body_of, layout_of, region_parent_of, block_parent_operation_of, definition_of, up_from, op_of_slot, first_of}
use Rattle.pliron_core.specs.Invariant.{IsTree}
use Rattle.pliron_core.specs.Writes.{taken_from}
use Rattle.pliron_core.specs.Erased.{is_met_above, after_clearing, after_erasing, IsSelfContained}
use Rattle.pliron_core.proofs.BlankLemmas.{length-blanked, blanked_gone, blanked_kept}
use Rattle.pliron_core.proofs.ClearedLemmas.{met_above}
use Rattle.pliron_core.proofs.ErasedLemmas.{taken-block_parent_operation, taken-met}
use Rattle.pliron_core.proofs.DescentLemmas.{taken-operations, taken-block_parents, taken-operands, taken-successors}
use Rattle.pliron_core.proofs.WithinLemmas.{is_within, within_is, met_below, parent_holder, holder_from}
use Rattle.pliron_core.proofs.HoldingLemmas.{some_is, slice_in, inside_up, holder_is}
use Rattle.pliron_laws.specs.Datum.{Meaning}
use Rattle.pliron_theory.specs.Keeps.{IsFit, KeepsRuns}
use Rattle.pliron_theory.specs.Sweeping.{keep, swept, is_maker_dead, IsSwept, AreNotLive, GivesNow}
use Rattle.pliron_theory.proofs.SweptLists.{swept_all}
use Rattle.pliron_theory.proofs.SweptKeeps.{swept_keeps}

-- what is erased with the operation
abbrev pub op_erased : Tree → ℕ → ℕ → Bool
op_erased t op k = is_met_above t (nat_eq op) (Some k)

abbrev pub block_erased_with : Tree → ℕ → ℕ → Bool
block_erased_with t op b = is_met_above t (nat_eq op) (block_parent_operation_of t b)

-- a list without one member is the list without the dead ones, where it alone is dead
pub without_swept : (dead : ℕ → Bool) (op : ℕ) (xs : List ℕ) → IsDistinct xs → dead op ≡ true → ((k : ℕ) → In k xs → dead k ≡ true → k ≡ op) → without op xs ≡ swept dead xs
without_swept dead op [] d e only = refl
without_swept dead op (x ∷ xs) d e only = ⊎_elim
    (λ y. ap (λ b. if b then xs else x ∷ without op xs) y.0 ∙ sym (swept_all dead xs (λ k i. lives k i y.1)) ∙ ap (λ b. keep b x (swept dead xs)) (sym (ap dead (sym y.1) ∙ e)))
    (λ n. ap (λ b. if b then xs else x ∷ without op xs) n.0 ∙ ap (λ l. x ∷ l) (without_swept dead op xs d.1 e (λ k i f. only k (inr i) f)) ∙ ap (λ b. keep b x (swept dead xs)) (sym (live (λ f. n.1 (sym f)))))
    (eqb_tells op x)
  where
    reported : (k : ℕ) → (dead k ≡ true → ⊥) → (b : Bool) → dead k ≡ b → dead k ≡ false
    reported k never true f = absurd (never f)
    reported k never false f = f

    lives : (k : ℕ) → In k xs → op ≡ x → dead k ≡ false
    lives k i s = reported k (λ f. d.0 (subst (λ z. In z xs) (only k (inr i) f ∙ s) i)) (dead k) refl

    live : x ≢ op → dead x ≡ false
    live ne = reported x (λ f. ne (only x (inl refl) f)) (dead x) refl

taken-arguments : (t : Tree) (op : ℕ) (o : Option ℕ) → (taken_from t op o).arguments ≡ t.arguments
taken-arguments t op None = refl
taken-arguments t op (Some b) = refl

taken-layouts : (t : Tree) (op : ℕ) (o : Option ℕ) → (taken_from t op o).layouts ≡ t.layouts
taken-layouts t op None = refl
taken-layouts t op (Some b) = refl

taken-region_parent : (t : Tree) (op : ℕ) (o : Option ℕ) (r : ℕ) → region_parent_of (taken_from t op o) r ≡ region_parent_of t r
taken-region_parent t op None r = refl
taken-region_parent t op (Some b) r = refl

taken-others : (t : Tree) (op k : ℕ) (o : Option ℕ) → k ≢ op → parent_of (taken_from t op o) k ≡ parent_of t k
taken-others t op k None ne = refl
taken-others t op k (Some b) ne = get_or-set_other t.parents op k None None ne

module _ (t : Tree) (op : ℕ) (w : IsTree t) (live : IsLive t op) (contained : IsSelfContained t op) where
  dead : ℕ → Bool
  dead k = op_erased t op k

  dead_block : ℕ → Bool
  dead_block b = block_erased_with t op b

  reported : (b : Bool) → (b ≡ true → ⊥) → b ≡ false
  reported true never = absurd (never refl)
  reported false never = refl

  op_dead : op_erased t op op ≡ true
  op_dead = is_within t op op w.joined live (inl refl)

  -- what is erased in a block that is left is the operation itself
  pub only_op : (k b : ℕ) → op_erased t op k ≡ true → parent_of t k ≡ Some b → block_erased_with t op b ≡ false → k ≡ op
  only_op k b d e l = elim (within_is t op k d) [
    | inl s ↦ s
    | inr i ↦
        let u = inside_up i in
        let h = holder_is t k u.0 u.1 in
        let s : block_parent_operation_of t b ≡ Some u.0 = ap (block_parent_operation_of t) (some_is (sym e ∙ h.1)) ∙ h.2 in
        absurd (true≢false (sym (is_within t op u.0 w.joined live u.2) ∙ ap (is_met_above t (nat_eq op)) (sym s) ∙ l))
  ]

  holders : (k b : ℕ) → parent_of t k ≡ Some b → op_erased t op k ≡ false → block_erased_with t op b ≡ false
  holders k b e l = reported _ (λ d.
      let y = parent_holder t k b w.joined e in
      true≢false (sym (met_below t (nat_eq op) w.joined k y.0 (holder_from t k b e ∙ y.1) (ap (is_met_above t (nat_eq op)) (sym y.1) ∙ d)) ∙ l))

  in_layout : (k r b : ℕ) → op_erased t op k ≡ false → In r (regions_of t k) → In b (layout_of t r) → block_erased_with t op b ≡ false
  in_layout k r b l i j =
      let x = slice_in (regions_of t k) r i in
      let up : block_parent_operation_of t b ≡ Some k = ap (λ o. up_from o (λ z. region_parent_of t z)) (w.layouts.owned b r j) ∙ ap op_of_slot (w.joined.regions k x.0 r x.1) in
      ap (is_met_above t (nat_eq op)) up ∙ l

  made : (d : Option Def) → is_maker_dead (λ k. op_erased t op k) (λ b. block_erased_with t op b) d ≡ true → IsDefinedWithin t op d
  made None e = absurd (true≢false (sym e))
  made (Some (Result k i)) e = within_is t op k e
  made (Some (Argument b i)) e = let m = met_above t op (block_parent_operation_of t b) e in (m.0, m.1, m.2)

  module _ (o : Option ℕ) (at : parent_of t op ≡ o) where
    abbrev u : Tree
    u = after_clearing (taken_from t op o) (nat_eq op)

    gone_op : (k : ℕ) (b : Bool) → op_erased t op k ≡ b → is_met_above (taken_from t op o) (nat_eq op) (Some k) ≡ b
    gone_op k b e = taken-met t op o (Some k) ∙ e

    detached_block : (c : ℕ) (b : Bool) → block_erased_with t op c ≡ b → is_met_above (taken_from t op o) (nat_eq op) (block_parent_operation_of (taken_from t op o) c) ≡ b
    detached_block c b e = taken-met t op o (block_parent_operation_of (taken_from t op o) c) ∙ ap (is_met_above t (nat_eq op)) (taken-block_parent_operation t op o c) ∙ e

    body : (b : ℕ) → block_erased_with t op b ≡ false → (o : Option ℕ) → parent_of t op ≡ o → body_of (taken_from t op o) b ≡ swept (λ k. op_erased t op k) (body_of t b)
    body b l None e = sym (swept_all (λ k. op_erased t op k) (body_of t b) (λ k i. reported _ (λ d. let s = only_op k b d (w.bodies.owned k b i) l in let f : None ≡ Some b = sym e ∙ ap (parent_of t) (sym s) ∙ w.bodies.owned k b i in absurd (cc))))
    body b l (Some c) e = elim (cases_eq b c) [
      | inl s ↦
          ap (λ z. get_or (slice_set t.bodies c (without op (body_of t c))) z []) s ∙ here ∙ ap (λ z. without op (body_of t z)) (sym s)
          ∙ without_swept (λ k. op_erased t op k) op (body_of t b) (w.bodies.distinct b) op_dead (λ k i d. only_op k b d (w.bodies.owned k b i) l)
      | inr ne ↦
          get_or-set_other t.bodies c b (without op (body_of t c)) [] ne
          ∙ sym (swept_all (λ k. op_erased t op k) (body_of t b) (λ k i. reported _ (λ d. let s = only_op k b d (w.bodies.owned k b i) l in ne (some_is (sym (w.bodies.owned k b i) ∙ ap (parent_of t) s ∙ e)))))
    ]
      where
        lt : c < length t.bodies
        lt = in_range (body_of t c) refl
          where
            in_range : (xs : List ℕ) → body_of t c ≡ xs → c < length t.bodies
            in_range xs f = elim (cases c (length t.bodies)) [
              | inl y ↦ y
              | inr le ↦
                  let none : body_of t c ≡ [] = get_or_past t.bodies c [] le in
                  absurd (subst (In op) none (w.bodies.listed op c e))
            ]
              where
                cases : (a n : ℕ) → (a < n) ⊎ (n ≤ a)
                cases a n = grind arith

        here : get_or (slice_set t.bodies c (without op (body_of t c))) c [] ≡ without op (body_of t c)
        here = get_or-set_same t.bodies c (without op (body_of t c)) [] lt

    pub is_swept : IsSwept t (after_clearing (taken_from t op o) (nat_eq op)) (λ k. op_erased t op k) (λ b. block_erased_with t op b)
    is_swept = record {
      rows = λ k l. blanked_kept _ no_entry (taken_from t op o).operations k (gone_op k false l) ∙ ap (λ z. get_or z k no_entry) (taken-operations t op o);
      operands = λ k l. blanked_kept _ [] (taken_from t op o).operands k (gone_op k false l) ∙ ap (λ z. get_or z k []) (taken-operands t op o);
      successors = λ k l. blanked_kept _ [] (taken_from t op o).successors k (gone_op k false l) ∙ ap (λ z. get_or z k []) (taken-successors t op o);
      parents = λ k l. blanked_kept _ None (taken_from t op o).parents k (gone_op k false l) ∙ taken-others t op k o (λ s. true≢false (sym op_dead ∙ ap (op_erased t op) (sym s) ∙ l));
      bodies = λ b l. blanked_kept _ [] (taken_from t op o).bodies b (detached_block b false l) ∙ body b l o at;
      arguments = λ b l. blanked_kept _ [] (taken_from t op o).arguments b (detached_block b false l) ∙ ap (λ z. get_or z b []) (taken-arguments t op o);
      block_parents = λ b l. blanked_kept _ None (taken_from t op o).block_parents b (detached_block b false l) ∙ ap (λ z. get_or z b None) (taken-block_parents t op o);
      layouts = λ k r l i.
          let x = slice_in (regions_of t k) r i in
          let up : region_parent_of (taken_from t op o) r ≡ Some k = taken-region_parent t op o r ∙ ap op_of_slot (w.joined.regions k x.0 r x.1) in
          blanked_kept _ [] (taken_from t op o).layouts r (ap (is_met_above (taken_from t op o) (nat_eq op)) up ∙ gone_op k false l) ∙ ap (λ z. get_or z r []) (taken-layouts t op o)
          ∙ sym (swept_all (λ b. block_erased_with t op b) (layout_of t r) (λ b j. in_layout k r b l i j));
      holders = holders;
      block_holders = λ b k e l. ap (is_met_above t (nat_eq op)) (sym e) ∙ l;
      entries = λ k r b l i e. in_layout k r b l i (first_in (layout_of t r) b e);
      values = λ k v l i. reported _ (λ d. true≢false (sym (is_within t op k w.joined live (contained.values k v i (made (definition_of t v) d))) ∙ l));
      targets = λ k b l i. reported _ (λ d. let m = met_above t op (block_parent_operation_of t b) d in true≢false (sym (is_within t op k w.joined live (contained.blocks k b i (m.0, m.1, m.2))) ∙ l));
    }
      where
        first_in : (xs : List ℕ) (x : ℕ) → first_of xs None ≡ Some x → In x xs
        first_in [] x e = grind arith
        first_in (y ∷ ys) x e = let f : y ≡ x = cc in inl (sym f)

    pub are_gone : AreNotLive (after_clearing (taken_from t op o) (nat_eq op)) (λ k. op_erased t op k) (λ b. block_erased_with t op b)
    are_gone = record {
      operations = λ k d. ap (λ z. z.head) (blanked_gone _ no_entry (taken_from t op o).operations k (gone_op k true d));
      blocks = λ b d. blanked_gone _ None (taken_from t op o).block_parents b (detached_block b true d);
    }

    pub as_many : length (after_clearing (taken_from t op o) (nat_eq op)).operations ≡ length t.operations
    as_many = length-blanked _ no_entry (taken_from t op o).operations ∙ ap length (taken-operations t op o)

  pub erased_swept : IsSwept t (after_erasing t op) (λ k. op_erased t op k) (λ b. block_erased_with t op b)
  erased_swept = is_swept (parent_of t op) refl

  pub erased_gone : AreNotLive (after_erasing t op) (λ k. op_erased t op k) (λ b. block_erased_with t op b)
  erased_gone = are_gone (parent_of t op) refl

  pub erased_keeps : (m : Meaning) → IsTree (after_erasing t op) → ((root : ℕ) → IsFit m t root → IsInside t root op → GivesNow m t op) → KeepsRuns m t (after_erasing t op)
  erased_keeps m w' gives =
      swept_keeps m t (after_erasing t op) (λ k. op_erased t op k) (λ b. block_erased_with t op b) w w' erased_swept erased_gone (let n = as_many (parent_of t op) refl in omega (arith, n))
      (λ root f k b i d e l. let s = only_op k b d e l in subst (GivesNow m t) (sym s) (gives root f (subst (IsInside t root) s i)))

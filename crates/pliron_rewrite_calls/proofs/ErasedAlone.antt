-- An operation without regions is erased.
use Rattle.std.proofs.Common.{◌≡◌, ◌≢◌, inl, inr, ⊎_elim, ℕ, ◌<◌, true, false, nat_eq, List, [], ◌∷◌, length, get_or, Option, Some, None, slice_get, slice_set, refl, sym, ap, ◌∙◌, subst}
use Rattle.std.proofs.lemmas.Bool.{cases_eq}
use Rattle.std.proofs.lemmas.List.{length-set, get_or-set_other, get_or-set_same, get_or_past}
use Rattle.pliron_core.specs.declared.context.Def.{Def}
use Rattle.pliron_core.specs.declared.context.Def.TheVariants.{Result, Argument}
use Rattle.pliron_core.specs.Invariant.{IsTree}
use Rattle.pliron_core.specs.Erased.{is_met_above, after_clearing, after_erasing, IsSelfContained}
use Rattle.pliron_core.specs.Lists.{without}
use Rattle.pliron_core.specs.Tree.{Tree, In, IsLive, IsMadeBy, IsDefinedWithin, no_entry, operands_of, results_of, regions_of, parent_of, body_of, layout_of, region_parent_of, block_parent_operation_of, definition_of}
use Rattle.pliron_core.specs.Writes.{taken_from}
use Rattle.pliron_core.proofs.BlankLemmas.{length-blanked, blanked_gone, blanked_kept}
use Rattle.pliron_core.proofs.ClearedLemmas.{true_or_false, met_above, met_itself}
use Rattle.pliron_core.proofs.DescentLemmas.{taken-operations, taken-block_parents, taken-operands, taken-successors}
use Rattle.pliron_core.proofs.EditLemmas.{without-out}
use Rattle.pliron_core.proofs.EraseInsideLemmas.{not_met}
use Rattle.pliron_core.proofs.ErasedLemmas.{taken-slots, taken-definitions, taken-block_parent_operation, taken-met}
use Rattle.pliron_core.proofs.HoldingLemmas.{not_none, some_is, in_slice}
use Rattle.pliron_core.proofs.TreeLemmas.{live-within, cases_lt}
use Rattle.pliron_core.proofs.WithinLemmas.{within_is, block_holder_from}
use Rattle.pliron_rewrite_calls.specs.InliningSteps.{HasSamePlaces, IsSameAt, IsErasedChildless}
use Rattle.pliron_rewrite_calls.proofs.Growing.{holds_nothing, outside_childless}

taken-arguments : (t : Tree) (k : ℕ) (o : Option ℕ) → (taken_from t k o).arguments ≡ t.arguments
taken-arguments t k None = refl
taken-arguments t k (Some b) = refl

taken-layouts : (t : Tree) (k : ℕ) (o : Option ℕ) → (taken_from t k o).layouts ≡ t.layouts
taken-layouts t k None = refl
taken-layouts t k (Some b) = refl

taken-region_parent : (t : Tree) (k : ℕ) (o : Option ℕ) (r : ℕ) → region_parent_of (taken_from t k o) r ≡ region_parent_of t r
taken-region_parent t k None r = refl
taken-region_parent t k (Some b) r = refl

taken-others : (t : Tree) (k j : ℕ) (o : Option ℕ) → j ≢ k → parent_of (taken_from t k o) j ≡ parent_of t j
taken-others t k j None ne = refl
taken-others t k j (Some b) ne = get_or-set_other t.parents k j None None ne

taken-long : (t : Tree) (k : ℕ) (o : Option ℕ) → length (taken_from t k o).bodies ≡ length t.bodies
taken-long t k None = refl
taken-long t k (Some b) = length-set t.bodies b (without k (body_of t b))

filled : (t : Tree) (b k : ℕ) → In k (body_of t b) → b < length t.bodies
filled t b k i = ⊎_elim (λ lt. lt) (λ le. absurd (subst (In k) (get_or_past t.bodies b [] le) i)) (cases_lt b (length t.bodies))

taken-bodies : (t : Tree) → IsTree t → (k : ℕ) (o : Option ℕ) → parent_of t k ≡ o → (b : ℕ) → body_of (taken_from t k o) b ≡ without k (body_of t b)
taken-bodies t w k None at b = sym (without-out k (body_of t b) (λ i. not_none (sym at ∙ w.bodies.owned k b i)))
taken-bodies t w k (Some c) at b = elim (cases_eq b c) [
  | inl e ↦ ap (λ z. get_or (slice_set t.bodies c (without k (body_of t c))) z []) e ∙ get_or-set_same t.bodies c (without k (body_of t c)) [] (filled t c k (w.bodies.listed k c at)) ∙ ap (λ z. without k (body_of t z)) (sym e)
  | inr ne ↦ get_or-set_other t.bodies c b (without k (body_of t c)) [] ne ∙ sym (without-out k (body_of t b) (λ i. ne (some_is (sym (w.bodies.owned k b i) ∙ at))))
]

module _ (t : Tree) (k : ℕ) (w : IsTree t) (live : IsLive t k) (none : regions_of t k ≡ []) where
  module _ (o : Option ℕ) (at : parent_of t k ≡ o) where
    abbrev free : Tree
    free = taken_from t k o

    gone : is_met_above free (nat_eq k) (Some k) ≡ true
    gone = taken-met t k o (Some k) ∙ met_itself t k (live-within t k live)

    kept : (j : ℕ) → j ≢ k → is_met_above free (nat_eq k) (Some j) ≡ false
    kept j ne = taken-met t k o (Some j) ∙ not_met _ (λ e. ⊎_elim ne (λ i. holds_nothing t w k j none i) (within_is t k j e))

    block_kept : (b : ℕ) → is_met_above free (nat_eq k) (block_parent_operation_of free b) ≡ false
    block_kept b =
        taken-met t k o (block_parent_operation_of free b) ∙ ap (is_met_above t (nat_eq k)) (taken-block_parent_operation t k o b)
        ∙ not_met _ (λ e. let y = met_above t k (block_parent_operation_of t b) e in outside_childless t w k b none (y.0, y.1, y.2))

    -- the region of an operation that goes has no blocks
    region_kept : (r b : ℕ) → In b (layout_of t r) → is_met_above free (nat_eq k) (region_parent_of free r) ≡ false
    region_kept r b i =
        taken-met t k o (region_parent_of free r) ∙ ap (is_met_above t (nat_eq k)) (taken-region_parent t k o r)
        ∙ not_met _ (λ e. let y = met_above t k (region_parent_of t r) e in outside_childless t w k b none (y.0, block_holder_from t b r (w.layouts.owned b r i) ∙ y.1, y.2))

    layouts : (r : ℕ) → layout_of (after_clearing free (nat_eq k)) r ≡ layout_of t r
    layouts r = go (layout_of t r) refl
      where
        same : layout_of free r ≡ layout_of t r
        same = ap (λ z. get_or z r []) (taken-layouts t k o)

        go : (bs : List ℕ) → layout_of t r ≡ bs → layout_of (after_clearing free (nat_eq k)) r ≡ layout_of t r
        go [] e = ⊎_elim (λ d. blanked_gone _ [] free.layouts r d ∙ sym e) (λ d. blanked_kept _ [] free.layouts r d ∙ same) (true_or_false (is_met_above free (nat_eq k) (region_parent_of free r)))
        go (b ∷ bs) e = blanked_kept _ [] free.layouts r (region_kept r b (subst (In b) (sym e) (inl refl))) ∙ same

    places : HasSamePlaces t (after_clearing free (nat_eq k))
    places = record {
      slots = taken-slots t k o;
      definitions = taken-definitions t k o;
      block_count = length-blanked _ [] free.bodies ∙ taken-long t k o;
      arguments = λ b. blanked_kept _ [] free.arguments b (block_kept b) ∙ ap (λ z. get_or z b []) (taken-arguments t k o);
      block_parents = λ b. blanked_kept _ None free.block_parents b (block_kept b) ∙ ap (λ z. get_or z b None) (taken-block_parents t k o);
      layouts = layouts;
    }

    others : (j : ℕ) → j ≢ k → IsSameAt t (after_clearing free (nat_eq k)) j
    others j ne = record {
      row = blanked_kept _ no_entry free.operations j (kept j ne) ∙ ap (λ z. get_or z j no_entry) (taken-operations t k o);
      operands = blanked_kept _ [] free.operands j (kept j ne) ∙ ap (λ z. get_or z j []) (taken-operands t k o);
      successors = blanked_kept _ [] free.successors j (kept j ne) ∙ ap (λ z. get_or z j []) (taken-successors t k o);
      parent = blanked_kept _ None free.parents j (kept j ne) ∙ taken-others t k j o ne;
    }

    cleared_alone : IsErasedChildless t (after_clearing free (nat_eq k)) k
    cleared_alone = record {
      gone = blanked_gone _ no_entry free.operations k gone;
      no_operands = blanked_gone _ [] free.operands k gone;
      no_successors = blanked_gone _ [] free.successors k gone;
      no_parent = blanked_gone _ None free.parents k gone;
      places = places;
      bodies = λ b. blanked_kept _ [] free.bodies b (block_kept b) ∙ taken-bodies t w k o at b;
      others = others;
      count = length-blanked _ no_entry free.operations ∙ ap length (taken-operations t k o);
    }

  pub erased_alone : (u : Tree) → u ≡ after_erasing t k → IsErasedChildless t u k
  erased_alone u e = subst (λ (z : Tree). IsErasedChildless t z k) (sym e) (cleared_alone (parent_of t k) refl)

  -- it may go where its results have no uses
  pub alone_contained : ((x v : ℕ) → In v (results_of t k) → In v (operands_of t x) → ⊥) → IsSelfContained t k
  alone_contained unused = record {
    values = λ x v i d. absurd (go x v i (definition_of t v) (w.joined.operands x v i) d);
    blocks = λ x b i h. absurd (outside_childless t w k b none h);
  }
    where
      go : (x v : ℕ) → In v (operands_of t x) → (d : Option Def) → IsMadeBy t v d → IsDefinedWithin t k d → ⊥
      go x v i None made d = made
      go x v i (Some (Result j n)) made (inl e) = unused x v (in_slice (results_of t k) n v (ap (λ z. slice_get (results_of t z) n) (sym e) ∙ made)) i
      go x v i (Some (Result j n)) made (inr s) = holds_nothing t w k j none s
      go x v i (Some (Argument b n)) made h = outside_childless t w k b none h

  pub bare_contained : results_of t k ≡ [] → IsSelfContained t k
  bare_contained bare = alone_contained (λ x v i u. subst (In v) bare i)

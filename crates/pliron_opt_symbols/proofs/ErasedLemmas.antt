-- A function of a module is erased.
use Rattle.std.proofs.Common.{◌≡◌, ◌≢◌, ◌⊎◌, inl, inr, ⊎_elim, ℕ, suc, ◌+◌, ◌<◌, get_or, drop, Bool, true, false, true≢false, nat_eq, List, [], ◌∷◌, ◌++◌, length, Option, Some, None, IsSome, refl, sym, ap, ◌∙◌, subst, arith}
use Rattle.std.proofs.Math.Seq.{drop-cons}
use Rattle.pliron_core.specs.declared.attrs.Head.{Head}
use Rattle.pliron_core.specs.declared.context.Def.{Def}
use Rattle.pliron_core.specs.declared.context.Def.TheVariants.{Result, Argument}
use Rattle.pliron_core.specs.Tree.{Tree, In, IsDistinct, IsLive, IsInside, IsWithin, HoldsBlock, IsDefinedWithin, head_of, operands_of, successors_of, parent_of, parent_operation_of, block_parent_operation_of, definition_of, up_from}
use Rattle.pliron_core.specs.Invariant.{IsTree}
use Rattle.pliron_core.specs.Erased.{after_erasing, IsSelfContained}
use Rattle.pliron_core.proofs.HoldingLemmas.{not_none, inside_up, some_of}
use Rattle.pliron_core.proofs.ListLemmas.{In-left, In-right, In-cases}
use Rattle.pliron_core.proofs.WalkLemmas.{held_live}
use Rattle.pliron_core.proofs.WithinLemmas.{is_within, within_is}
use Rattle.pliron_laws.specs.Datum.{Meaning}
use Rattle.pliron_theory.specs.Keeps.{IsFit, KeepsRuns, with_roots}
use Rattle.pliron_theory.specs.Sweeping.{IsSwept, AreNotLive, AreAway, GivesNow}
use Rattle.pliron_theory.proofs.Keeping.{keeps_refl, keeps_trans}
use Rattle.pliron_theory.proofs.ErasedKeeps.{op_erased, block_erased_with, erased_swept, erased_gone, erased_keeps}
use Rattle.pliron_theory.proofs.SweptParts.{place_forth, within_forth, made_same, user_lives, jumper_lives, block_place_back, within_back, lives, gone_away}
use Rattle.pliron_opt_symbols.specs.Erasing.{erased_in_turn, AreErasableFunctions, IsNoRoot}
use Rattle.pliron_opt_symbols.specs.ErasedStates.{AreErased}

pub turn_more : (t : Tree) (fs : List ℕ) (f : ℕ) → erased_in_turn t (fs ++ f ∷ []) ≡ after_erasing (erased_in_turn t fs) f
turn_more t [] f = refl
turn_more t (g ∷ fs) f = turn_more (after_erasing t g) fs f

-- ---- an operation in no block

no_holder : (t : Tree) (holder : ℕ) → parent_of t holder ≡ None → parent_operation_of t holder ≡ None
no_holder t holder e = ap (λ o. up_from o (λ b. block_parent_operation_of t b)) e

-- it isn't within what is directly in it
not_within : (t : Tree) (holder f : ℕ) → parent_of t holder ≡ None → parent_operation_of t f ≡ Some holder → IsWithin t f holder → ⊥
not_within t holder f free parent (inl e) = not_none (sym (no_holder t holder free) ∙ ap (parent_operation_of t) e ∙ parent)
not_within t holder f free parent (inr i) = not_none (sym (no_holder t holder free) ∙ (inside_up i).1)

-- what holds something directly in it is itself
only_holder : (t : Tree) (holder f root : ℕ) → parent_of t holder ≡ None → parent_operation_of t f ≡ Some holder → IsInside t root f → root ≡ holder
only_holder t holder f root free parent i = go (inside_up i).0 ((inside_up i).1) ((inside_up i).2)
  where
    go : (p : ℕ) → parent_operation_of t f ≡ Some p → IsWithin t root p → root ≡ holder
    go p e (inl s) = sym s ∙ same
      where
        same : p ≡ holder
        same = cc
    go p e (inr j) = absurd (not_none (sym (no_holder t holder free) ∙ ap (parent_operation_of t) (sym same) ∙ (inside_up j).1))
      where
        same : p ≡ holder
        same = cc

-- ---- one that is erased

module _ (u v : Tree) (holder f : ℕ) (w : IsTree u) (w' : IsTree v) (is : v ≡ after_erasing u f) (free : parent_of u holder ≡ None) (parent : parent_operation_of u f ≡ Some holder) (contained : IsSelfContained u f) where
  live : IsLive u f
  live = held_live u w f holder parent

  abbrev dead : ℕ → Bool
  dead k = op_erased u f k

  abbrev dead_block : ℕ → Bool
  dead_block b = block_erased_with u f b

  swept : IsSwept u v (λ k. op_erased u f k) (λ b. block_erased_with u f b)
  swept = subst (λ z. IsSwept u z (λ k. op_erased u f k) (λ b. block_erased_with u f b)) (sym is) (erased_swept u f w live contained)

  gone : AreNotLive v (λ k. op_erased u f k) (λ b. block_erased_with u f b)
  gone = subst (λ z. AreNotLive z (λ k. op_erased u f k) (λ b. block_erased_with u f b)) (sym is) (erased_gone u f w live contained)

  away : AreAway v (λ k. op_erased u f k) (λ b. block_erased_with u f b)
  away = gone_away v (λ k. op_erased u f k) (λ b. block_erased_with u f b) w' gone

  left_if : (k : ℕ) → (IsWithin u f k → ⊥) → op_erased u f k ≡ false
  left_if k never = go (op_erased u f k) refl
    where
      go : (b : Bool) → op_erased u f k ≡ b → op_erased u f k ≡ false
      go true d = absurd (never (within_is u f k d))
      go false d = d

  sibling : (x : ℕ) → parent_operation_of u x ≡ Some holder → x ≢ f → op_erased u f x ≡ false
  sibling x e ne = left_if x (λ i. ⊎_elim ne (λ j. absurd (not_within u holder f free parent (inl (sym (only_holder u holder x f free e j))))) i)

  holder_left : op_erased u f holder ≡ false
  holder_left = left_if holder (not_within u holder f free parent)

  pub sibling_stays : (x : ℕ) → parent_operation_of u x ≡ Some holder → x ≢ f → parent_operation_of v x ≡ Some holder
  sibling_stays x e ne = (place_forth u v (λ k. op_erased u f k) (λ b. block_erased_with u f b) w w' swept x holder (sibling x e ne) e).0

  defined_back : (g : ℕ) (d : Option Def) → IsDefinedWithin v g d → IsDefinedWithin u g d
  defined_back g None i = i
  defined_back g (Some (Result k n)) i = within_back u v (λ k. op_erased u f k) (λ b. block_erased_with u f b) w w' swept away g k i
  defined_back g (Some (Argument b n)) i = holds_back g b i
    where
      holds_back : (g b : ℕ) → HoldsBlock v g b → HoldsBlock u g b
      holds_back g b i = (i.0, (block_place_back u v (λ k. op_erased u f k) (λ b. block_erased_with u f b) w w' swept away b i.0 i.1).0, within_back u v (λ k. op_erased u f k) (λ b. block_erased_with u f b) w w' swept away g i.0 i.2)

  holds_back : (g b : ℕ) → HoldsBlock v g b → HoldsBlock u g b
  holds_back g b i = defined_back g (Some (Argument b 0)) i

  pub contained_stays : (g : ℕ) → IsSelfContained u g → IsSelfContained v g
  contained_stays g h = record {
    values = λ x y i within.
        let l = user_lives u v (λ k. op_erased u f k) (λ b. block_erased_with u f b) w w' swept away x y i in
        let j : In y (operands_of u x) = subst (In y) (swept.operands x l) i in
        let same = made_same u v (λ k. op_erased u f k) (λ b. block_erased_with u f b) w w' swept y (w.joined.operands x y j) (swept.values x y l j) in
        (within_forth u v (λ k. op_erased u f k) (λ b. block_erased_with u f b) w w' swept g x l (h.values x y j (defined_back g (definition_of u y) (subst (IsDefinedWithin v g) same within)))).0;
    blocks = λ x b i within.
        let l = jumper_lives u v (λ k. op_erased u f k) (λ b. block_erased_with u f b) w w' swept away x b i in
        let j : In b (successors_of u x) = subst (In b) (swept.successors x l) i in
        (within_forth u v (λ k. op_erased u f k) (λ b. block_erased_with u f b) w w' swept g x l (h.blocks x b j (holds_back g b within))).0;
  }

  pub rest_erasable : (rest : List ℕ) → AreErasableFunctions u holder (f ∷ rest) → AreErasableFunctions v holder rest
  rest_erasable rest h = record {
    parents = λ g i. sibling_stays g (h.parents g (inr i)) (λ e. h.distinct.0 (subst (λ z. In z rest) e i));
    contained = λ g i. contained_stays g (h.contained g (inr i));
    distinct = h.distinct.1;
  }

  head_same : (k : ℕ) → op_erased u f k ≡ false → head_of v k ≡ head_of u k
  head_same k l = ap (λ r. r.head) (swept.rows k l)

  lives_on : (k : ℕ) → IsLive v k → op_erased u f k ≡ false
  lives_on k l = lives v (λ k. op_erased u f k) (λ b. block_erased_with u f b) w' gone k l

  was_live : (k : ℕ) → IsLive v k → IsLive u k
  was_live k l = subst (λ o. IsSome o) (head_same k (lives_on k l)) l

  erased_itself : IsLive v f → ⊥
  erased_itself l = true≢false (sym (is_within u f f w.joined live (inl refl)) ∙ lives_on f l)

  module _ (m : Meaning) (t : Tree) (done : List ℕ) (h : AreErased m t u holder done) where
    runs_kept : (chosen : Head → Bool) → IsNoRoot chosen t holder → KeepsRuns (with_roots m chosen) t v
    runs_kept chosen never = keeps_trans (with_roots m chosen) t u v (h.runs chosen never)
        (subst (KeepsRuns (with_roots m chosen) u) (sym is) (erased_keeps u f w live contained (with_roots m chosen) (subst IsTree is w') (λ root fit i. absurd (no_root root fit (only_holder u holder f root free parent i)))))
      where
        no_root : (root : ℕ) → IsFit (with_roots m chosen) u root → root ≡ holder → ⊥
        no_root root fit e =
            let x = some_of (head_of u root) fit.live in
            true≢false (sym (fit.chosen x.0 x.1) ∙ never x.0 (sym h.holder_head ∙ ap (head_of u) (sym e) ∙ x.1))

    pub one_erased : AreErased m t v holder (done ++ f ∷ [])
    one_erased = record {
      is_tree = w';
      tree = is ∙ ap (λ z. after_erasing z f) h.tree ∙ sym (turn_more t done f);
      heads = λ k l. h.heads k (was_live k l) ∙ sym (head_same k (lives_on k l));
      away = λ g i l. ⊎_elim (λ j. h.away g j (was_live g l)) (λ j. ⊎_elim (λ e. erased_itself (subst (IsLive v) e l)) (λ z. z) j) (In-cases g done (f ∷ []) i);
      left = λ x e absent. sibling_stays x (h.left x e (λ i. absent (In-left x done (f ∷ []) i))) (λ s. absent (In-right x done (f ∷ []) (inl s)));
      within = λ g k i. h.within g k (within_back u v (λ k. op_erased u f k) (λ b. block_erased_with u f b) w w' swept away g k i);
      holder_head = head_same holder holder_left ∙ h.holder_head;
      free = swept.parents holder holder_left ∙ free;
      runs = runs_kept;
    }

-- ---- none yet

pub none_erased : (m : Meaning) (t : Tree) (holder : ℕ) → IsTree t → parent_of t holder ≡ None → AreErased m t t holder []
none_erased m t holder w free = record {
  is_tree = w;
  tree = refl;
  heads = λ k l. refl;
  away = λ f i l. absurd i;
  left = λ x e absent. e;
  within = λ f k i. i;
  holder_head = refl;
  free = free;
  runs = λ chosen never. keeps_refl (with_roots m chosen) t;
}

-- what is left of a list from one of its members on
pub rest_step : (fs : List ℕ) (i f : ℕ) → i < length fs → f ≡ get_or fs i f → drop i fs ≡ f ∷ drop (i + 1) fs
rest_step fs i f lt is = let e : suc i ≡ i + 1 = omega arith in drop-cons fs i f lt ∙ ap (λ z. z ∷ drop (suc i) fs) (sym is) ∙ ap (λ n. f ∷ drop n fs) e

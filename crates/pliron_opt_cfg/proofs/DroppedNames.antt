-- After uses are dropped, nothing names what the blocks hold.
use Rattle.std.proofs.Common.{◌≡◌, inl, inr, ⊎_elim, ℕ, Bool, true, if◌then◌else◌, List, [], ◌∷◌, length, Option, Some, None, refl, sym, ap, ◌∙◌, subst}
use Rattle.std.specs.List.{slice_get}
use Rattle.pliron_core.specs.declared.context.Def.{Def}
use Rattle.pliron_core.specs.declared.context.Def.TheVariants.{Result, Argument}
use Rattle.pliron_core.specs.Tree.{Tree, In, IsInside.Directly, IsWithin, HoldsBlock, operands_of, successors_of, parent_of, block_parent_of, block_parent_operation_of, region_parent_of, parent_operation_of, definition_of, up_from}
use Rattle.pliron_core.specs.Invariant.{IsTree}
use Rattle.pliron_core.specs.Edges.{succs_from}
use Rattle.pliron_core.specs.Erased.{is_met_above, is_in_operation, IsInOperation, IsBlockWithin, IsDefinedInBlock, uses_dropped, names_dropped}
use Rattle.pliron_core.proofs.TreeLemmas.{live-within}
use Rattle.pliron_core.proofs.ClearedLemmas.{true_or_false}
use Rattle.pliron_core.proofs.DropLemmas.{IsNamesOnly, IsBare, names_none, names_trans, names_of_dropped, dropped_gone, dropped_kept}
use Rattle.pliron_core.proofs.WithinLemmas.{holder_from, within_met, met_within, met_below, in_block_is, is_in_block}
use Rattle.pliron_core.proofs.HoldingLemmas.{within_inside, holder_by}
use Rattle.pliron_laws.specs.Linked.{EdgesLast}
use Rattle.pliron_theory.specs.Sweeping.{is_maker_dead}
use Rattle.pliron_rewrite_blocks.specs.Cutting.{is_listed, is_in_one_of, cut_op, cut_block}
use Rattle.pliron_rewrite_blocks.specs.Leaving.{DropsAll, DropsAll.Done, DropsAll.Then, BlocksMayGo}
use Rattle.pliron_rewrite_blocks.proofs.CutBlocks.{or_true, block_cases, listed, stands_one, one_stands}
use Rattle.pliron_opt_cfg.specs.Internal.Unnamed.{IsUnnamedBlock}

pub drops_names : (rest : List ℕ) (t u : Tree) → DropsAll rest t u → IsNamesOnly t u
drops_names [] t u Done = names_none t
drops_names (b ∷ rest) t u (Then _ _ more) = names_trans t (uses_dropped t b) u (names_of_dropped t (is_in_operation t b)) (drops_names rest (uses_dropped t b) u more)

-- what names nothing goes on naming nothing
still_bare : (t : Tree) (p : ℕ → Bool) (k : ℕ) → IsBare t k → IsBare (names_dropped t p) k
still_bare t p k bare = ⊎_elim (λ e. dropped_gone t p k e) (λ e. let s = dropped_kept t p k e in (s.0 ∙ bare.0, s.1 ∙ bare.1)) (true_or_false (is_met_above t p (Some k)))

bare_on : (rest : List ℕ) (z u : Tree) (k : ℕ) → DropsAll rest z u → IsBare z k → IsBare u k
bare_on [] z u k Done bare = bare
bare_on (b ∷ rest) z u k (Then _ _ more) bare = bare_on rest (uses_dropped z b) u k more (still_bare z (is_in_operation z b) k bare)

-- names of the last tree are names of the first, and none is of what stands in the blocks
names_were : (t : Tree) (k : ℕ) (rest : List ℕ) (z u : Tree) → DropsAll rest z u → ((v : ℕ) → In v (operands_of u k) → In v (operands_of z k)) × ((v : ℕ) → In v (successors_of u k) → In v (successors_of z k))
names_were t k [] z u Done = ((λ v i. i), (λ v i. i))
names_were t k (b ∷ rest) z u (Then _ _ more) =
    let after = names_were t k rest (uses_dropped z b) u more in
    ⊎_elim
    (λ e. let bare = dropped_gone z (is_in_operation z b) k e in ((λ v i. absurd (subst (In v) bare.0 (after.0 v i))), (λ v i. absurd (subst (In v) bare.1 (after.1 v i)))))
    (λ e. let s = dropped_kept z (is_in_operation z b) k e in ((λ v i. subst (In v) s.0 (after.0 v i)), (λ v i. subst (In v) s.1 (after.1 v i))))
    (true_or_false (is_met_above z (is_in_operation z b) (Some k)))

bare_by : (t : Tree) (k c : ℕ) (rest : List ℕ) (z u : Tree) → IsNamesOnly t z → DropsAll rest z u → In c rest → is_met_above t (is_in_operation t c) (Some k) ≡ true → IsBare u k
bare_by t k c [] z u n Done i e = absurd i
bare_by t k c (b ∷ rest) z u n (Then _ _ more) (inl s) e =
    bare_on rest (uses_dropped z b) u k more (dropped_gone z (is_in_operation z b) k (ap (λ (y : Tree). is_met_above y (is_in_operation y b) (Some k)) n.shape ∙ ap (λ x. is_met_above t (is_in_operation t x) (Some k)) (sym s) ∙ e))
bare_by t k c (b ∷ rest) z u n (Then _ _ more) (inr i) e =
    bare_by t k c rest (uses_dropped z b) u (names_trans t z (uses_dropped z b) n (names_of_dropped z (is_in_operation z b))) more i e

module _ (t u : Tree) (holder region : ℕ) (bs : List ℕ) (w : IsTree t) (wu : IsTree u) (edges : EdgesLast t holder) (held : region_parent_of t region ≡ Some holder) (may : BlocksMayGo t region bs) (drops : DropsAll bs t u) where
  names : IsNamesOnly t u
  names = drops_names bs t u drops

  within_dead : (b x k : ℕ) → In b bs → parent_of t x ≡ Some b → IsWithin t x k → cut_op t bs k ≡ true
  within_dead b x k i e j = within_met t (is_in_one_of t bs) w.joined x k (live-within t x (w.joined.all_in_place x b e).0) (stands_one t bs b x i e) j

  dead_in : (k : ℕ) → cut_op t bs k ≡ true → (x b : ℕ) × In b bs × (parent_of t x ≡ Some b) × IsWithin t x k
  dead_in k e =
      let y = met_within t (is_in_one_of t bs) (length t.operations) k e in
      let b = one_stands t bs y.0 y.1 in
      (y.0, b.0, b.1, b.2, y.2)

  -- what is dead names nothing
  dead_bare : (k : ℕ) → cut_op t bs k ≡ true → IsBare u k
  dead_bare k e = let y = dead_in k e in bare_by t k y.1 bs t u (names_none t) drops y.2 (is_in_block t y.1 k w.joined (y.0, y.3, y.4))

  -- places in the blocks are the same before and after
  stands_was : (b k : ℕ) → IsInOperation u b k → IsInOperation t b k
  stands_was b k s = in_block_is t b k (sym (ap (λ (z : Tree). is_met_above z (is_in_operation z b) (Some k)) names.shape) ∙ is_in_block u b k wu.joined s)

  holder_was : (c k : ℕ) → block_parent_operation_of u c ≡ Some k → block_parent_operation_of t c ≡ Some k
  holder_was c k e = sym (ap (λ (z : Tree). block_parent_operation_of z c) names.shape) ∙ e

  stands_dead : (b k : ℕ) → In b bs → IsInOperation t b k → cut_op t bs k ≡ true
  stands_dead b k i s = within_dead b s.0 k i s.1 s.2

  block_dead : (b c : ℕ) → In b bs → IsBlockWithin u b c → cut_block t bs c ≡ true
  block_dead b c i (inl e) = ap (λ z. if z then true else is_met_above t (is_in_one_of t bs) (block_parent_operation_of t c)) (listed bs c (subst (λ z. In z bs) (sym e) i))
  block_dead b c i (inr y) =
      ap (λ o. if is_listed bs c then true else is_met_above t (is_in_one_of t bs) o) (holder_was c y.0 y.1) ∙ ap (λ z. if is_listed bs c then true else z) (stands_dead b y.0 i (stands_was b y.0 y.2)) ∙ or_true (is_listed bs c)

  maker_dead : (b : ℕ) (o : Option Def) → In b bs → IsDefinedInBlock u b o → is_maker_dead (λ j. cut_op t bs j) (λ c. cut_block t bs c) o ≡ true
  maker_dead b None i m = absurd m
  maker_dead b (Some (Result k n)) i m = stands_dead b k i (stands_was b k m)
  maker_dead b (Some (Argument c n)) i m = block_dead b c i m

  -- nothing that is left leads to what is dead
  target_left : (k c : ℕ) → (cut_op t bs k ≡ true → ⊥) → In c (successors_of t k) → cut_block t bs c ≡ true → ⊥
  target_left k c l j d = ⊎_elim direct inner (block_cases t bs c d)
    where
      direct : In c bs → ⊥
      direct i =
          let holds : HoldsBlock t holder c = (holder, ap (λ o. up_from o (λ z. region_parent_of t z)) (may.own c i) ∙ held, inl refl) in
          let ends = edges k c j (inr holds) in
          may.closed ends.block c (sym (ends.own_region c j) ∙ may.own c i) (λ a. l (within_dead ends.block k k a ends.in_block (inl refl))) (subst (λ o. In c (succs_from t o)) (sym ends.last) j) i

      inner : (q : ℕ) × (block_parent_operation_of t c ≡ Some q) × (cut_op t bs q ≡ true) → ⊥
      inner y =
          let x = dead_in y.0 y.2 in
          let up : parent_operation_of t x.0 ≡ Some holder = holder_by t x.0 x.1 holder x.3 (ap (λ o. up_from o (λ z. region_parent_of t z)) (may.own x.1 x.2) ∙ held) in
          let holds : HoldsBlock t holder c = (y.0, y.1, inr (within_inside (Directly up) x.4)) in
          let ends = edges k c j (inr holds) in
          let above : parent_operation_of t k ≡ Some y.0 = holder_from t k ends.block ends.in_block ∙ ap (λ o. up_from o (λ z. region_parent_of t z)) (sym (ends.own_region c j)) ∙ y.1 in
          l (met_below t (is_in_one_of t bs) w.joined k y.0 above y.2)

  pub unnamed : (b : ℕ) → In b bs → IsUnnamedBlock u b
  unnamed b i = record {
    values = λ x v j m.
        let was = names_were t x bs t u drops in
        let d : cut_op t bs x ≡ true = may.unused x v (was.0 v j) (maker_dead b (definition_of t v) i (subst (λ z. IsDefinedInBlock u b (slice_get z v)) (ap (λ (z : Tree). z.definitions) names.shape) m)) in
        subst (In v) (dead_bare x d).0 j;
    blocks = λ x c j m.
        let was = names_were t x bs t u drops in
        target_left x c (λ d. subst (In c) (dead_bare x d).1 j) (was.1 c j) (block_dead b c i m);
  }

  pub own_after : (b : ℕ) → In b bs → block_parent_of u b ≡ Some region
  own_after b i = ap (λ (z : Tree). block_parent_of z b) names.shape ∙ may.own b i

-- One fold of a branch, and the folds of all.
use Rattle.std.proofs.Common.{◌≡◌, ◌≢◌, ◌⊎◌, inl, inr, ⊎_elim, ℕ, zero, suc, ◌+◌, ◌≤◌, Bool, true, false, List, [], ◌∷◌, length, map, drop, Option, Some, None, is_some, Result, Ok, Err, slice_get, refl, sym, ap, ◌∙◌, subst, arith, IsSome}
use Rattle.std.specs.Result.{IfOk, OnErr}
use Rattle.pliron_core.specs.declared.attrs.IRStatus.{IRStatus}
use Rattle.pliron_core.specs.declared.attrs.IRStatus.TheVariants.{Changed, Unchanged}
use Rattle.pliron_core.specs.Status.{changed_by_either}
use Rattle.pliron_core.specs.Lists.{IsDistinct}
use Rattle.pliron_core.specs.Tree.{Tree, In, IsLive, IsInside, head_of, operands_of, parent_of, definition_of}
use Rattle.pliron_core.specs.Invariant.{IsTree}
use Rattle.pliron_core.specs.Changes.{IsSameTree}
use Rattle.pliron_core.specs.Walks.{contents}
use Rattle.pliron_core.proofs.FilterLemmas.{In-filter, distinct-filter}
use Rattle.pliron_core.proofs.HoldingLemmas.{some_is, not_none, some_of}
use Rattle.pliron_core.proofs.InsideLemmas.{same_change}
use Rattle.pliron_core.proofs.SameTreeLemmas.{same_refl, same_trans, same_live, same_inside}
use Rattle.pliron_core.proofs.TreeLemmas.{live-within}
use Rattle.pliron_core.proofs.UsedLemmas.{length_map}
use Rattle.pliron_core.proofs.WalkLemmas.{inside_live, inside_live-outer, not_inside-itself, contents-inside, distinct-contents}
use Rattle.pliron_core.proofs.WithinLemmas.{holder_steps}
use Rattle.pliron_core.proofs.WalkLemmas.{inside_step}
use Rattle.pliron_laws.specs.declared.fault.OptError.{OptError}
use Rattle.pliron_laws.specs.Datum.{Head, Meaning}
use Rattle.pliron_laws.specs.Folding.{Constants}
use Rattle.pliron_laws.specs.InPlace.{Outcome, ReportsChange}
use Rattle.pliron_laws.specs.Linked.{IsWellLinked}
use Rattle.pliron_laws.specs.Tree.{Operation, op_at, shape_of}
use Rattle.pliron_core.specs.declared.context.Def.{Def}
use Rattle.pliron_core.specs.declared.context.Def.TheVariants.{Result as Made, Argument}
use Rattle.pliron_theory.specs.Refolded.{AreReadAs}
use Rattle.pliron_theory.proofs.Alike.{map_same}
use Rattle.pliron_theory.specs.Keeps.{with_roots}
use Rattle.pliron_theory.specs.Answered.{AnsweredLaw}
use Rattle.pliron_theory.specs.Change.{IsWholeChange}
use Rattle.pliron_theory.specs.Folded.{BranchFoldsLaw, BranchLinksLaw, BranchOutcomesLaw}
use Rattle.pliron_theory.specs.Rebranching.{IsRebranched}
use Rattle.pliron_theory.proofs.ChangeLemmas.{links_stay}
use Rattle.pliron_theory.proofs.WholeChanges.{whole_refl, whole_trans}
use Rattle.pliron_rewrite_blocks.proofs.RebranchedInside.{rebranched_inside, inside_stays}
use Rattle.pliron_opt_cfg.specs.Folded.{has_passing_head, branches_of, answered_if, known_of, known_operands, FoldsAll, FoldsAll.NoMore, FoldsAll.Next, FoldsSome, FoldsSome.Stopped, FoldsSome.Refused, FoldsSome.After}
use Rattle.pliron_opt_cfg.specs.FoldSteps.{ReportsAnyErased, IsBranchInside, IsBranchFoldStep, IsFoldingBranches}
use Rattle.pliron_opt_cfg.proofs.KnownLemmas.{known_read}

-- what is inside something stands in a block
pub stands_in_block : (t : Tree) (root op : ℕ) → IsInside t root op → IsSome (parent_of t op)
stands_in_block t root op inside = let up = inside_step t root op inside in let s = holder_steps t op up.0 up.1 in ap is_some s.1

-- the outcome, whatever was answered
pub either : (P : Option IRStatus → Type 0) (r : Result IRStatus OptError) → IfOk r (λ status. P (Some status)) → OnErr r (P None) → (a : Option IRStatus) × P a
either P (Ok status) ok err = (Some status, ok)
either P (Err e) ok err = (None, err)

-- what is known of values doesn't hang on which heads may be those of roots
module _ (m : Meaning) (can_fold : Head → Bool) (constants : Constants) (chosen : Head → Bool) (t : Tree) where
  answered_same : (b : Bool) (o : Option Operation) (i : ℕ) → answered_if b (with_roots m chosen) constants t o i ≡ answered_if b m constants t o i
  unfolding shape_of
  answered_same false o i = refl
  answered_same true None i = refl
  answered_same true (Some o) i = refl

  one_same : (d : Option Def) → known_of (with_roots m chosen) can_fold constants t d ≡ known_of m can_fold constants t d
  one_same None = refl
  one_same (Some (Argument block i)) = refl
  one_same (Some (Made k i)) = answered_same (has_passing_head can_fold (head_of t k)) (op_at t k) i

  pub known_same : (vs : List ℕ) → map (λ v. known_of (with_roots m chosen) can_fold constants t (definition_of t v)) vs ≡ map (λ v. known_of m can_fold constants t (definition_of t v)) vs
  known_same vs = map_same (λ v. known_of (with_roots m chosen) can_fold constants t (definition_of t v)) (λ v. known_of m can_fold constants t (definition_of t v)) vs (λ v i. one_same (definition_of t v))

module _ (m : Meaning) (can_fold can_fold_branch : Head → Bool) (constants : Constants) (outcome : Outcome) where
  -- what stands in the same tree, or where another branch took the place of one
  module _ (t u : Tree) (root op : ℕ) (w : IsTree t) (wu : IsTree u) (linked : IsWellLinked m t root) (branch : IsBranchInside can_fold_branch t root op) where
    abbrev Shape : Type 0
    Shape = IsSameTree t u ⊎ ((a new : ℕ) × (front : List ℕ) × IsRebranched t u a op new front)

    root_live : IsLive t root
    root_live = inside_live-outer t w root op branch.0

    other_than_new : (a new : ℕ) (front : List ℕ) → IsRebranched t u a op new front → (k : ℕ) → IsLive t k → k ≢ new
    other_than_new a new front h k l e = let y = some_of (head_of t k) l in not_none (sym h.fresh ∙ ap (head_of t) (sym e) ∙ y.1)

    liveness : Shape → (k : ℕ) → k ≢ op → IsLive t k → IsLive u k
    liveness (inl s) k ne l = (same_live t u w.joined wu.joined s k).0 l
    liveness (inr (a, new, front, h)) k ne l = subst (λ z. IsSome z.head) (sym (h.rows k ne (other_than_new a new front h k l))) l

    others : Shape → (k : ℕ) → k ≢ op → IsBranchInside can_fold_branch t root k → IsBranchInside can_fold_branch u root k
    others (inl s) k ne (inside, folds) = (
      (same_inside t u w.joined wu.joined s root k).0 inside,
      λ h e. folds h (ap (λ z. z.head) (sym (s.operations k)) ∙ e),
    )
    others (inr (a, new, front, h)) k ne (inside, folds) =
        let l = inside_live t w root k inside in
        let nn = other_than_new a new front h k l in (
          inside_stays t u a op new front w wu h root k (liveness (inr (a, new, front, h)) k ne l) nn inside,
          λ x e. folds x (ap (λ z. z.head) (sym (h.rows k ne nn)) ∙ e),
        )

    root_stands : Shape → IsLive u root
    root_stands s = liveness s root (λ e. not_inside-itself t w root (subst (IsInside t root) (sym e) branch.0)) root_live

    pub reported : Shape → (status : IRStatus) → ReportsChange (Some status) t u → ReportsAnyErased status t u
    reported s Unchanged is = is
    reported (inl s) Changed is = absurd (is s)
    reported (inr (a, new, front, h)) Changed is = (op, inside_live t w root op branch.0, h.deleted)

    pub step : ((chosen : Head → Bool) → BranchFoldsLaw (with_roots m chosen) can_fold_branch outcome) → BranchLinksLaw m can_fold_branch outcome → BranchOutcomesLaw m can_fold_branch outcome → ((chosen : Head → Bool) → AnsweredLaw (with_roots m chosen) can_fold constants) → length t.operations ≤ length u.operations → (answer : Option IRStatus) → outcome t u op (known_operands m can_fold constants t op) answer → IsBranchFoldStep m can_fold_branch t u root op
    step folds links outcomes answered longer answer is =
        let known = known_operands m can_fold constants t op in
        let s = outcomes t u root op known answer w wu linked branch.0 branch.1 is in
        record {
          tree = wu;
          change = record {
            liveness = root_stands s;
            linked = links t u root root op known answer w wu linked branch.0 branch.1 is linked root_live (root_stands s);
            inside = ⊎_elim (λ same. same_change t u root w.joined wu.joined same) (λ r. rebranched_inside t u root r.0 op r.1 r.2 w wu branch.0 r.3) s;
            runs = λ chosen. folds chosen t u root op known answer w wu longer (record { edges = linked.edges; admitted = linked.admitted }) branch.0 branch.1 (length_map (λ v. known_of m can_fold constants t (definition_of t v)) (operands_of t op)) (subst (AreReadAs (with_roots m chosen) t op) (known_same m can_fold constants chosen t (operands_of t op)) (known_read (with_roots m chosen) can_fold constants t (answered chosen) w op)) is;
          };
          blocks = ⊎_elim (λ same b. same.block_parents b) (λ r b. r.3.block_parents b) s;
          others = others s;
        }

  -- where memory was refused before anything was done
  pub no_step : (t : Tree) (root op : ℕ) → IsTree t → IsWellLinked m t root → IsBranchInside can_fold_branch t root op → IsBranchFoldStep m can_fold_branch t t root op
  no_step t root op w linked branch = record { tree = w; change = whole_refl m t root (inside_live-outer t w root op branch.0) linked; blocks = λ b. refl; others = λ k ne b. b }

-- one answer after the other
module _ (t u v : Tree) (w : IsTree t) (wu : IsTree u) (deleted : (k : ℕ) → IsLive t k → head_of u k ≡ None → head_of v k ≡ None) where
  pub told_then : (a b : IRStatus) → ReportsAnyErased a t u → ReportsAnyErased b u v → ReportsAnyErased (changed_by_either a b) t v
  told_then Unchanged Unchanged p q = same_trans t u v p q
  told_then Unchanged Changed p (k, live, none) = (k, (same_live t u w.joined wu.joined p k).1 live, none)
  told_then Changed Unchanged (k, live, none) q = (k, live, deleted k live none)
  told_then Changed Changed (k, live, none) q = (k, live, deleted k live none)

-- what went does not come back
gone_stays : (m : Meaning) (t u v : Tree) (root : ℕ) → IsTree t → IsWholeChange m t u root → IsWholeChange m u v root → (k : ℕ) → IsLive t k → head_of u k ≡ None → head_of v k ≡ None
gone_stays m t u v root w first second k live none = go (head_of v k) refl
  where
    go : (o : Option Head) → head_of v k ≡ o → head_of v k ≡ None
    go None e = e
    go (Some h) e =
        let back = (second.runs m.may_be_root).fewer k (omega (arith, live-within t k live, (first.runs m.may_be_root).grows)) (ap is_some e) in
        let y = some_of (head_of u k) back in
        absurd (not_none (sym none ∙ y.1))

either_again : (a b c : IRStatus) → changed_by_either a (changed_by_either b c) ≡ changed_by_either (changed_by_either a b) c
either_again Unchanged b c = refl
either_again Changed b c = refl

either_unchanged : (a : IRStatus) → changed_by_either a Unchanged ≡ a
either_unchanged Unchanged = refl
either_unchanged Changed = refl

pub drop_at : (xs : List ℕ) (i x : ℕ) → slice_get xs i ≡ Some x → drop i xs ≡ x ∷ drop (i + 1) xs
drop_at [] i x e = absurd (not_none e)
drop_at (y ∷ ys) zero x e = ap (λ z. z ∷ ys) (some_is e)
drop_at (y ∷ ys) (suc i) x e =
    let one : suc i + 1 ≡ suc (i + 1) = omega arith in drop_at ys i x e ∙ ap (λ n. x ∷ drop n (y ∷ ys)) (sym one)

module _ (m : Meaning) (can_fold can_fold_branch : Head → Bool) (constants : Constants) (outcome : Outcome) (root : ℕ) (start : Tree) (w : IsTree start) where
  abbrev IsOn : List ℕ → ℕ → IRStatus → Tree → Type 0
  IsOn branches i status now = IsFoldingBranches m can_fold can_fold_branch constants outcome root start branches i status now

  pub folding_start : IsLive start root → IsWellLinked m start root → IsOn (branches_of can_fold_branch start root) 0 Unchanged start
  folding_start live linked = record {
    tree = w;
    change = whole_refl m start root live linked;
    blocks = λ b. refl;
    waiting = λ k i.
        let found = In-filter (λ z. has_passing_head can_fold_branch (head_of start z)) (contents start root) k i in
        (contents-inside start w root k found.0, λ h e. sym (ap (has_passing_head can_fold_branch) e) ∙ found.1);
    distinct = distinct-filter (λ z. has_passing_head can_fold_branch (head_of start z)) (contents start root) (distinct-contents start w root);
    all = λ u rest done. done;
    some = λ u done. done;
    reported = same_refl start;
  }

  module _ (branches : List ℕ) (i : ℕ) (status : IRStatus) (now : Tree) (on : IsOn branches i status now) where
    module _ (op : ℕ) (at : slice_get branches i ≡ Some op) where
      pub folding_can : IsWellLinked m now root × IsBranchInside can_fold_branch now root op
      folding_can = (on.change.linked, on.waiting op (subst (In op) (sym (drop_at branches i op at)) (inl refl)))

      apart : IsDistinct (op ∷ drop (i + 1) branches)
      apart = subst IsDistinct (drop_at branches i op at) on.distinct

      pub folding_next : (next : Tree) (one : IRStatus) → outcome now next op (known_operands m can_fold constants now op) (Some one) → ReportsAnyErased one now next → IsBranchFoldStep m can_fold_branch now next root op → IsOn branches (i + 1) (changed_by_either status one) next
      folding_next next one is reported step = record {
        tree = step.tree;
        change = whole_trans m start now next root on.change step.change;
        blocks = λ b. step.blocks b ∙ on.blocks b;
        waiting = λ k j. step.others k (λ e. apart.0 (subst (λ z. In z (drop (i + 1) branches)) e j)) (on.waiting k (subst (In k) (sym (drop_at branches i op at)) (inr j)));
        distinct = apart.1;
        all = λ u rest done. subst (FoldsAll m can_fold constants outcome branches start u) (either_again status one rest) (on.all u (changed_by_either one rest) (subst (λ l. FoldsAll m can_fold constants outcome l now u (changed_by_either one rest)) (sym (drop_at branches i op at)) (Next op one is done)));
        some = λ u done. on.some u (subst (λ l. FoldsSome m can_fold constants outcome l now u) (sym (drop_at branches i op at)) (After op one is done));
        reported = told_then start now next w on.tree (gone_stays m start now next root w on.change step.change) status one on.reported reported;
      }

      pub folding_change : (next : Tree) → IsBranchFoldStep m can_fold_branch now next root op → IsWholeChange m start next root
      folding_change next step = whole_trans m start now next root on.change step.change

      pub folding_broken : (next : Tree) → (next ≡ now) ⊎ outcome now next op (known_operands m can_fold constants now op) None → FoldsSome m can_fold constants outcome branches start next
      folding_broken next (inl same) = subst (FoldsSome m can_fold constants outcome branches start) (sym same) (on.some now Stopped)
      folding_broken next (inr is) = on.some next (subst (λ l. FoldsSome m can_fold constants outcome l now next) (sym (drop_at branches i op at)) (Refused op is))

    pub folding_end : drop i branches ≡ [] → FoldsAll m can_fold constants outcome branches start now status
    folding_end none = subst (FoldsAll m can_fold constants outcome branches start now) (either_unchanged status) (on.all now Unchanged (subst (λ l. FoldsAll m can_fold constants outcome l now now Unchanged) (sym none) NoMore))

-- the answer reports accurately
pub told_honestly : (t u : Tree) (status : IRStatus) → ReportsAnyErased status t u → ReportsChange (Some status) t u
told_honestly t u Unchanged reported = reported
told_honestly t u Changed (k, live, none) = λ same. let y = some_of (head_of t k) live in not_none (sym none ∙ ap (λ z. z.head) (same.operations k) ∙ y.1)

-- each operation that was well linked and still stands is so
pub linked_still : (m : Meaning) (t u : Tree) (root : ℕ) → IsTree t → IsTree u → IsWholeChange m t u root → (r : ℕ) → IsLive t r → IsWellLinked m t r → IsLive u r → IsWellLinked m u r
linked_still m t u root w wu change r live linked left = links_stay m t u root w wu change.inside r live left linked change.linked

-- What folding, removal and merging come to, one after the other.
use Rattle.std.proofs.Common.{◌≡◌, ◌⊎◌, inl, inr, ⊎_elim, ℕ, Bool, true, Option, Some, None, Result, Err, IfErr, is_some, refl, sym, ap, ◌∙◌, subst, arith}
use Rattle.pliron_core.specs.declared.attrs.IRStatus.{IRStatus}
use Rattle.pliron_core.specs.declared.attrs.IRStatus.TheVariants.{Changed, Unchanged}
use Rattle.pliron_core.specs.Status.{changed_by_either}
use Rattle.pliron_core.specs.Tree.{Tree, IsLive, IsBlock, head_of, block_parent_of}
use Rattle.pliron_core.specs.Changes.{IsSameTree}
use Rattle.pliron_core.proofs.HoldingLemmas.{not_none, some_of}
use Rattle.pliron_core.proofs.TreeLemmas.{live-within}
use Rattle.pliron_laws.specs.Datum.{Head, Meaning}
use Rattle.pliron_laws.specs.Folding.{Constants}
use Rattle.pliron_laws.specs.InPlace.{Outcome, ReportsChange}
use Rattle.pliron_theory.specs.Change.{IsWholeChange}
use Rattle.pliron_theory.proofs.WholeChanges.{whole_trans}
use Rattle.pliron_opt_cfg.specs.Visited.{Start, OfOperation, IsUnreachable, IsCutOff}
use Rattle.pliron_opt_cfg.specs.Folded.{branches_of, FoldsAll}
use Rattle.pliron_opt_cfg.specs.FoldSteps.{ReportsAnyErased}
use Rattle.pliron_opt_cfg.specs.Removed.{IsWithout, IsBlockErasedWith, RemovesSome, RemovesSome.Nothing, RemovesSome.Then, RemovesAll}
use Rattle.pliron_opt_cfg.specs.Merged.{MergesAll, LosesOperation, HasPair}
use Rattle.pliron_opt_cfg.specs.Simplified.{Simplifies}

-- blocks that stand without some of them stood before
block_was : (t u : Tree) (Dropped : ℕ → Type 0) → IsWithout t u Dropped → (c : ℕ) → IsBlock u c → IsBlock t c
block_was t u Dropped h c is = go (block_parent_of t c) refl
  where
    go : (o : Option ℕ) → block_parent_of t c ≡ o → IsBlock t c
    go (Some r) e = ap is_some e
    go None e =
        let here = some_of (block_parent_of u c) is in
        let stays : IsBlockErasedWith t Dropped c → ⊥ = λ x. not_none (sym (h.detached_blocks c x) ∙ here.1) in
        absurd (not_none (sym e ∙ sym (h.block_parents c stays) ∙ here.1))

removed_were : (start : Start) (t u : Tree) → RemovesSome start t u → (c : ℕ) → IsBlock u c → IsBlock t c
removed_were start t u Nothing c is = is
removed_were start t u (Then {u = x} r b before searched cut without) c is = removed_were start t x before c (block_was x u (IsCutOff x r) without c is)

-- a block went, unless nothing did
block_went : (start : Start) (t u : Tree) → RemovesSome start t u → (u ≡ t) ⊎ ((b : ℕ) × IsBlock t b × (block_parent_of u b ≡ None))
block_went start t u Nothing = inl refl
block_went start t u (Then {u = x} r b before searched cut without) = inr (b, removed_were start t x before b (ap is_some cut.0), without.detached_blocks b (b, cut, inl refl))

-- what went does not come back
gone_stays : (m : Meaning) (t u v : Tree) (op : ℕ) → IsWholeChange m t u op → IsWholeChange m u v op → (k : ℕ) → IsLive t k → head_of u k ≡ None → head_of v k ≡ None
gone_stays m t u v op first second k live none = go (head_of v k) refl
  where
    go : (o : Option Head) → head_of v k ≡ o → head_of v k ≡ None
    go None e = e
    go (Some h) e =
        let back = (second.runs m.may_be_root).fewer k (omega (arith, live-within t k live, (first.runs m.may_be_root).grows)) (ap is_some e) in
        let y = some_of (head_of u k) back in
        absurd (not_none (sym none ∙ y.1))

-- a tree in which an operation or a block went is another one
operation_tells : (t u : Tree) (k : ℕ) → IsLive t k → head_of u k ≡ None → IsSameTree t u → ⊥
operation_tells t u k live none same = let y = some_of (head_of t k) live in not_none (sym none ∙ ap (λ z. z.head) (same.operations k) ∙ y.1)

block_tells : (t u : Tree) (b : ℕ) → IsBlock t b → block_parent_of u b ≡ None → IsSameTree t u → ⊥
block_tells t u b is none same = let y = some_of (block_parent_of t b) is in not_none (sym none ∙ same.block_parents b ∙ y.1)

module _ (m : Meaning) (op : ℕ) (t u v w : Tree) (first : IsWholeChange m t u op) (second : IsWholeChange m u v op) (third : IsWholeChange m v w op) (blocks : (b : ℕ) → block_parent_of u b ≡ block_parent_of t b) (no_block : (b : ℕ) → IsBlock w b → IsBlock v b) (unreachable : (b : ℕ) → IsUnreachable (OfOperation op) w b → IsUnreachable (OfOperation op) v b) where
  none_there : (s : IRStatus) → RemovesAll (OfOperation op) u v s → (b : ℕ) → IsUnreachable (OfOperation op) v b → ⊥
  none_there Changed removes b i = removes.3 b i
  none_there Unchanged (none, same) b i = none b (subst (λ (z : Tree). IsUnreachable (OfOperation op) z b) same i)

  pub none_left : (s : IRStatus) → RemovesAll (OfOperation op) u v s → (b : ℕ) → IsUnreachable (OfOperation op) w b → ⊥
  none_left s removes b i = none_there s removes b (unreachable b i)

  no_pair_left : (s : IRStatus) → MergesAll (OfOperation op) m v w s → HasPair (OfOperation op) m w → ⊥
  no_pair_left Changed merges p = merges.2 p
  no_pair_left Unchanged (same, none) p = none (subst (HasPair (OfOperation op) m) same p)

  detached_block : (b : ℕ) → block_parent_of v b ≡ None → block_parent_of w b ≡ None
  detached_block b none = go (block_parent_of w b) refl
    where
      go : (o : Option ℕ) → block_parent_of w b ≡ o → block_parent_of w b ≡ None
      go None e = e
      go (Some r) e = let y = some_of (block_parent_of v b) (no_block b (ap is_some e)) in absurd (not_none (sym none ∙ y.1))

  pub reports_change : (a b c : IRStatus) → ReportsAnyErased a t u → RemovesAll (OfOperation op) u v b → MergesAll (OfOperation op) m v w c → LosesOperation c v w → ReportsChange (Some (changed_by_either (changed_by_either a b) c)) t w
  reports_change Changed b c (k, live, none) removes merges reported = operation_tells t w k live (gone_stays m t u w op first (whole_trans m u v w op second third) k live none)
  reports_change Unchanged Changed c same removes merges reported = ⊎_elim
      (λ e. absurd (none_there Changed removes removes.0.0 (subst (λ (z : Tree). IsUnreachable (OfOperation op) z removes.0.0) (sym e) removes.0.1)))
      (λ x. block_tells t w x.0 (subst (λ z. is_some z ≡ true) (blocks x.0) x.1) (detached_block x.0 x.2))
      (block_went (OfOperation op) u v removes.2)
  reports_change Unchanged Unchanged Changed same (none, stays) merges (k, live, deleted) = operation_tells t w k (subst (λ z. is_some z.head ≡ true) (same.operations k) (subst (λ (z : Tree). IsLive z k) stays live)) deleted
  reports_change Unchanged Unchanged Unchanged same (none, stays) (still, pairs) reported = subst (λ (z : Tree). IsSameTree t z) (sym (still ∙ stays)) same

  pub simplified : (can_fold can_fold_branch : Head → Bool) (constants : Constants) (outcome : Outcome) (a b c status : IRStatus) → FoldsAll m can_fold constants outcome (branches_of can_fold_branch t op) t u a → ReportsAnyErased a t u → RemovesAll (OfOperation op) u v b → MergesAll (OfOperation op) m v w c → LosesOperation c v w → status ≡ changed_by_either (changed_by_either a b) c → Simplifies m can_fold can_fold_branch constants outcome op t w status
  simplified can_fold can_fold_branch constants outcome a b c status folds reported removes merges lost is = record {
    folded = u;
    removed = v;
    fold_status = a;
    removal_status = b;
    merge_status = c;
    folds = folds;
    removes = removes;
    merges = merges;
    answer = is;
    reports_change = subst (λ s. ReportsChange (Some s) t w) (sym is) (reports_change a b c reported removes merges lost);
    none_unreachable = none_left b removes;
    no_pair = no_pair_left c merges;
  }

-- what is answered for a fault
pub fails : {A E : Type 0} (r : Result A E) (P : E → Type 0) (e : E) → r ≡ Err e → P e → IfErr r P
fails r P e is p = subst (λ z. IfErr z P) (sym is) p

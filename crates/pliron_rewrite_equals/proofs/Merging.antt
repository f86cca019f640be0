-- The uses of all results of a redundant operation go to those of the operation that stands before it.
use Rattle.std.proofs.Common.{◌≡◌, ◌≢◌, ◌⊎◌, ◌<◌, ℕ, zero, suc, Bool, List, [], ◌∷◌, length, take, Option, Some, None, IsSome, inl, inr, ⊎_elim, slice_get, refl, sym, ap, ◌∙◌, subst, arith}
use Rattle.pliron_core.specs.declared.context.Def.{Def}
use Rattle.pliron_core.specs.declared.context.Def.TheVariants.{Result, Argument}
use Rattle.pliron_core.specs.Tree.{Tree, In, IsLive, head_of, IsInside, IsWithin, IsMadeBy, IsDefinedWithin, HoldsBlock, operands_of, results_of, regions_of, definition_of}
use Rattle.pliron_core.specs.Invariant.{IsTree}
use Rattle.pliron_core.specs.Writes.{after_replacing}
use Rattle.pliron_core.specs.Erased.{IsSelfContained}
use Rattle.pliron_core.proofs.HoldingLemmas.{some_is, not_none, in_slice}
use Rattle.pliron_core.proofs.WalkLemmas.{inside_first, place_of, place_listed}
use Rattle.pliron_laws.specs.Datum.{Head, Meaning}
use Rattle.pliron_laws.specs.Laws.{KeepsCounts, GivesAtOnce}
use Rattle.pliron_laws.proofs.Records.{op_shows}
use Rattle.pliron_theory.proofs.SweptKeeps.{gives_now}
use Rattle.pliron_theory.proofs.ErasedKeeps.{erased_keeps}
use Rattle.pliron_theory.specs.Keeps.{KeepsRuns, KeepsAllRuns, with_roots}
use Rattle.pliron_theory.proofs.Keeping.{keeps_refl, keeps_trans}
use Rattle.pliron_theory.proofs.SweptParts.{block_place_of}
use Rattle.pliron_rewrite_equals.specs.Redundancy.{IsLeader}
use Rattle.pliron_rewrite_equals.specs.Merging.{replaced_all, partly_merged, IsPartlyMerged, results_merged, after_merging, MergingLaw}
use Rattle.pliron_rewrite_equals.proofs.Replaced.{IsUnused, tree_kept, old_unused, still_unused, new_defined, leader_kept}
use Rattle.pliron_rewrite_equals.proofs.Redundancy.{leaders_stand, chosen_counts}

-- what has no regions holds nothing
pub nothing_inside : (t : Tree) (b x : ℕ) → IsTree t → regions_of t b ≡ [] → IsInside t b x → ⊥
nothing_inside t b x w none i =
    let y = inside_first t b x i in
    let p = place_of t y.0 b y.1 in
    subst (In p.region) none (in_slice (regions_of t b) p.index p.region (place_listed t w y.0 b p))

pub nothing_held : (t : Tree) (b c : ℕ) → IsTree t → regions_of t b ≡ [] → HoldsBlock t b c → ⊥
nothing_held t b c w none h = ⊎_elim
    (λ s.
    let p = block_place_of t w c h.0 h.1 in
    subst (In p.region) (ap (regions_of t) s ∙ none) (in_slice (regions_of t h.0) p.index p.region p.listed))
    (λ i. nothing_inside t b h.0 w none i)
    h.2

pub results_same : (vs xs : List ℕ) (t : Tree) (k : ℕ) → results_of (replaced_all t vs xs) k ≡ results_of t k
results_same [] xs t k = refl
results_same (v ∷ vs) [] t k = refl
results_same (v ∷ vs) (x ∷ xs) t k = results_same vs xs (after_replacing t v x) k

module _ (side_effects : Head → Option Bool) (a b : ℕ) where
  -- each of these values is a result of b, and stands there where the one at its place stands among those of a
  abbrev pub ArePairs : Tree → List ℕ → List ℕ → Type 0
  ArePairs t vs xs = (i v x : ℕ) → slice_get vs i ≡ Some v → slice_get xs i ≡ Some x → (j : ℕ) × (slice_get (results_of t b) j ≡ Some v) × (slice_get (results_of t a) j ≡ Some x)

  -- results of two operations are two
  apart : (t : Tree) (w : IsTree t) → a ≢ b → (i j v x : ℕ) → slice_get (results_of t b) i ≡ Some v → slice_get (results_of t a) j ≡ Some x → v ≢ x
  apart t w ne i j v x p q e =
      let f : Result a j ≡ Result b i = some_is (sym (w.joined.results a j x q) ∙ ap (definition_of t) (sym e) ∙ w.joined.results b i v p) in
      let g : a ≡ b = cc in
      ne g

  pub tree_all : (vs xs : List ℕ) (t : Tree) → IsTree t → ArePairs t vs xs → IsTree (replaced_all t vs xs)
  tree_all [] xs t w pairs = w
  tree_all (v ∷ vs) [] t w pairs = w
  tree_all (v ∷ vs) (x ∷ xs) t w pairs =
      let p = pairs zero v x refl refl in
      tree_all vs xs (after_replacing t v x) (tree_kept t v x w (new_defined t v x side_effects a b p.0 w p.1 p.2)) (λ i y z e f. pairs (suc i) y z e f)

  leader_all : (vs xs : List ℕ) (t : Tree) → IsTree t → ArePairs t vs xs → IsLeader side_effects t a b → IsLeader side_effects (replaced_all t vs xs) a b
  leader_all [] xs t w pairs leads = leads
  leader_all (v ∷ vs) [] t w pairs leads = leads
  leader_all (v ∷ vs) (x ∷ xs) t w pairs leads =
      let p = pairs zero v x refl refl in
      leader_all vs xs (after_replacing t v x) (tree_kept t v x w (new_defined t v x side_effects a b p.0 w p.1 p.2)) (λ i y z e f. pairs (suc i) y z e f) (leader_kept t v x side_effects a b p.0 w p.1 p.2 leads)

  pub runs_all : (m : Meaning) → KeepsCounts m → GivesAtOnce m side_effects → (vs xs : List ℕ) (t : Tree) → IsTree t → ArePairs t vs xs → IsLeader side_effects t a b → KeepsAllRuns m t (replaced_all t vs xs)
  runs_all m counts free [] xs t w pairs leads = λ chosen. keeps_refl (with_roots m chosen) t
  runs_all m counts free (v ∷ vs) [] t w pairs leads = λ chosen. keeps_refl (with_roots m chosen) t
  runs_all m counts free (v ∷ vs) (x ∷ xs) t w pairs leads = λ chosen.
      let p = pairs zero v x refl refl in
      keeps_trans (with_roots m chosen) t (after_replacing t v x) (replaced_all (after_replacing t v x) vs xs)
      (leaders_stand m side_effects counts free t a b p.0 v x w leads p.1 p.2 chosen)
      (runs_all m counts free vs xs (after_replacing t v x) (tree_kept t v x w (new_defined t v x side_effects a b p.0 w p.1 p.2)) (λ i y z e f. pairs (suc i) y z e f) (leader_kept t v x side_effects a b p.0 w p.1 p.2 leads) chosen)

  -- none of the values is used any more
  unused_all : (vs xs : List ℕ) (t : Tree) → IsTree t → a ≢ b → ArePairs t vs xs → length vs ≡ length xs → (u i : ℕ) → slice_get (results_of t b) i ≡ Some u → In u vs ⊎ IsUnused t u → IsUnused (replaced_all t vs xs) u
  unused_all [] xs t w ne pairs long u i at (inl j) = absurd j
  unused_all [] xs t w ne pairs long u i at (inr none) = none
  unused_all (v ∷ vs) [] t w ne pairs long u i at k = grind arith
  unused_all (v ∷ vs) (x ∷ xs) t w ne pairs long u i at k =
      let p = pairs zero v x refl refl in
      unused_all vs xs (after_replacing t v x) (tree_kept t v x w (new_defined t v x side_effects a b p.0 w p.1 p.2)) ne (λ n y z e f. pairs (suc n) y z e f) (shorter long) u i at (⊎_elim
      (λ j. ⊎_elim (λ e. inr (subst (IsUnused (after_replacing t v x)) (sym e) (old_unused t v x (apart t w ne p.0 p.0 v x p.1 p.2)))) (λ y. inl y) j)
      (λ none. inr (still_unused t v x u (apart t w ne i p.0 u x at p.2) none))
      k)
    where
      shorter : length (v ∷ vs) ≡ length (x ∷ xs) → length vs ≡ length xs
      shorter e = grind (arith, e)

  pub own_pairs : (t : Tree) → ArePairs t (results_of t b) (results_of t a)
  own_pairs t i v x p q = (i, p, q)

  pub contained_all : (t : Tree) → IsTree t → IsLeader side_effects t a b → IsSelfContained (results_merged t a b) b
  contained_all t w leads = record { values = λ x v i within. values x v i (definition_of u v) refl within; blocks = λ x c i held. absurd (nothing_held u b c tree after.alike.no_regions held) }
    where
      u : Tree
      u = results_merged t a b

      tree : IsTree (results_merged t a b)
      tree = tree_all (results_of t b) (results_of t a) t w (own_pairs t)

      after : IsLeader side_effects (results_merged t a b) a b
      after = leader_all (results_of t b) (results_of t a) t w (own_pairs t) leads

      values : (x v : ℕ) → In v (operands_of (results_merged t a b) x) → (d : Option Def) → definition_of (results_merged t a b) v ≡ d → IsDefinedWithin (results_merged t a b) b d → IsWithin (results_merged t a b) b x
      values x v i None e within = absurd within
      values x v i (Some (Argument c j)) e within = absurd (nothing_held (results_merged t a b) b c tree after.alike.no_regions within)
      values x v i (Some (Result k j)) e (inr within) = absurd (nothing_inside (results_merged t a b) b k tree after.alike.no_regions within)
      values x v i (Some (Result k j)) e (inl s) = absurd (deleted x i)
        where
          made : slice_get (results_of (results_merged t a b) k) j ≡ Some v
          made = subst (IsMadeBy (results_merged t a b) v) e (tree.joined.operands x v i)

          same : results_of (results_merged t a b) b ≡ results_of t b
          same = results_same (results_of t b) (results_of t a) t b

          at : slice_get (results_of t b) j ≡ Some v
          at = ap (λ l. slice_get l j) (sym same) ∙ ap (λ z. slice_get (results_of (results_merged t a b) z) j) (sym s) ∙ made

          deleted : IsUnused (results_merged t a b) v
          deleted = unused_all (results_of t b) (results_of t a) t w leads.apart (own_pairs t) leads.alike.results v j at (inl (in_slice (results_of t b) j v at))

module _ (m : Meaning) (side_effects : Head → Option Bool) (counts : KeepsCounts m) (free : GivesAtOnce m side_effects) where
  pub deleted : (t : Tree) (a b : ℕ) → IsTree t → IsTree (after_merging t a b) → IsLeader side_effects t a b → KeepsAllRuns m t (after_merging t a b)
  deleted t a b w w' leads = λ chosen.
      let tree = tree_all side_effects a b (results_of t b) (results_of t a) t w (own_pairs side_effects a b t) in
      let after = leader_all side_effects a b (results_of t b) (results_of t a) t w (own_pairs side_effects a b t) leads in
      keeps_trans (with_roots m chosen) t (results_merged t a b) (after_merging t a b)
      (runs_all side_effects a b m counts free (results_of t b) (results_of t a) t w (own_pairs side_effects a b t) leads chosen)
      (erased_keeps (results_merged t a b) b tree (live (results_merged t a b) tree after) (contained_all side_effects a b t w leads) (with_roots m chosen) w' (λ root f i. gives_now (with_roots m chosen) side_effects (chosen_counts m chosen counts) free (results_merged t a b) b (f.linked.admitted b (inr i)) (λ o e. after.alike.harmless o.head (op_shows (results_merged t a b) b o e).head)))
    where
      live : (u : Tree) → IsTree u → IsLeader side_effects u a b → IsLive u b
      live u tree x = subst (λ h. IsSome h) (sym x.alike.head) (tree.joined.all_in_place a x.before.home x.before.in_home).0

  taken_first : (t : Tree) (a b n : ℕ) → ArePairs side_effects a b t (take n (results_of t b)) (take n (results_of t a))
  taken_first t a b n i v x p q = (i, first n (results_of t b) i v p, first n (results_of t a) i x q)
    where
      first : (n : ℕ) (xs : List ℕ) (i v : ℕ) → slice_get (take n xs) i ≡ Some v → slice_get xs i ≡ Some v
      first zero xs i v e = absurd (not_none e)
      first (suc n) [] i v e = e
      first (suc n) (x ∷ xs) zero v e = e
      first (suc n) (x ∷ xs) (suc i) v e = first n xs i v e

  pub partly : (t : Tree) (a b n : ℕ) → IsTree t → IsLeader side_effects t a b → KeepsAllRuns m t (partly_merged t a b n)
  partly t a b n w leads = runs_all side_effects a b m counts free (take n (results_of t b)) (take n (results_of t a)) t w (taken_first t a b n) leads

-- some results of several, or none
pub part_of : (t t' : Tree) (a b n : ℕ) → n < length (results_of t b) → t' ≡ partly_merged t a b n → IsPartlyMerged t t' a b
part_of t t' a b zero l e = inl e
part_of t t' a b (suc n) l e = inr (record { count = suc n; some = omega arith; fewer = l; tree = e })

pub part_keeps : (m : Meaning) (side_effects : Head → Option Bool) → KeepsCounts m → GivesAtOnce m side_effects → (t t' : Tree) (a b : ℕ) → IsTree t → IsLeader side_effects t a b → IsPartlyMerged t t' a b → KeepsAllRuns m t t'
part_keeps m side_effects counts free t t' a b w leads (inl e) = λ chosen. subst (λ z. KeepsRuns (with_roots m chosen) t z) (sym e) (keeps_refl (with_roots m chosen) t)
part_keeps m side_effects counts free t t' a b w leads (inr h) = λ chosen. subst (λ z. KeepsRuns (with_roots m chosen) t z) (sym h.tree) (partly m side_effects counts free t a b h.count w leads chosen)

-- one more result
pub one_more : (t : Tree) (vs xs : List ℕ) (n v x : ℕ) → slice_get vs n ≡ Some v → slice_get xs n ≡ Some x → replaced_all t (take (suc n) vs) (take (suc n) xs) ≡ after_replacing (replaced_all t (take n vs) (take n xs)) v x
one_more t [] xs n v x p q = absurd (not_none p)
one_more t (y ∷ vs) [] n v x p q = absurd (not_none q)
one_more t (y ∷ vs) (z ∷ xs) zero v x p q = let a : y ≡ v = some_is p in let b : z ≡ x = some_is q in ap (λ c. after_replacing t c z) a ∙ ap (λ c. after_replacing t v c) b
one_more t (y ∷ vs) (z ∷ xs) (suc n) v x p q = one_more (after_replacing t y z) vs xs n v x p q

pub rows_same : (vs xs : List ℕ) (t : Tree) (k : ℕ) → head_of (replaced_all t vs xs) k ≡ head_of t k
rows_same [] xs t k = refl
rows_same (v ∷ vs) [] t k = refl
rows_same (v ∷ vs) (x ∷ xs) t k = rows_same vs xs (after_replacing t v x) k

-- both stand on the way
pub leader_lives : (side_effects : Head → Option Bool) (t : Tree) (a b n : ℕ) → IsTree t → IsLeader side_effects t a b → IsLive (partly_merged t a b n) a
leader_lives side_effects t a b n w leads = subst (λ h. IsSome h) (sym (rows_same (take n (results_of t b)) (take n (results_of t a)) t a)) (w.joined.all_in_place a leads.before.home leads.before.in_home).0

pub redundant_lives : (side_effects : Head → Option Bool) (t : Tree) (a b n : ℕ) → IsTree t → IsLeader side_effects t a b → IsLive (partly_merged t a b n) b
redundant_lives side_effects t a b n w leads = subst (λ h. IsSome h) (sym (rows_same (take n (results_of t b)) (take n (results_of t a)) t b ∙ leads.alike.head)) (w.joined.all_in_place a leads.before.home leads.before.in_home).0

pub partly_results : (t : Tree) (a b n k : ℕ) → results_of (partly_merged t a b n) k ≡ results_of t k
partly_results t a b n k = results_same (take n (results_of t b)) (take n (results_of t a)) t k

pub merged_lives : (side_effects : Head → Option Bool) (t : Tree) (a b : ℕ) → IsTree t → IsLeader side_effects t a b → IsLive (results_merged t a b) b
merged_lives side_effects t a b w leads = subst (λ h. IsSome h) (sym (rows_same (results_of t b) (results_of t a) t b ∙ leads.alike.head)) (w.joined.all_in_place a leads.before.home leads.before.in_home).0

pub merging : (m : Meaning) (side_effects : Head → Option Bool) → KeepsCounts m → GivesAtOnce m side_effects → MergingLaw m side_effects
merging m side_effects counts free = record {
  runs = λ t a b w leads. runs_all side_effects a b m counts free (results_of t b) (results_of t a) t w (own_pairs side_effects a b t) leads;
  leads = λ t a b w leads. leader_all side_effects a b (results_of t b) (results_of t a) t w (own_pairs side_effects a b t) leads;
  partly = λ t a b n w leads. partly m side_effects counts free t a b n w leads;
  deleted = λ t a b w w' leads. deleted m side_effects counts free t a b w w' leads;
  contained = λ t a b w leads. contained_all side_effects a b t w leads;
}

-- One operation after the other is visited.
use Rattle.std.proofs.Common.{◌≡◌, ◌↔◌, ℕ, ◌<◌, ◌≤◌, ◌+◌, Bool, true, false, List, [], ◌∷◌, ◌++◌, length, get_or, Option, refl, sym, ◌∙◌, subst, inl, inr}
use Rattle.pliron_core.specs.declared.attrs.IRStatus.{IRStatus}
use Rattle.pliron_core.specs.declared.attrs.IRStatus.TheVariants.{Changed, Unchanged}
use Rattle.pliron_core.specs.Invariant.{IsTree}
use Rattle.pliron_core.specs.Tree.{Tree, IsLive}
use Rattle.pliron_laws.specs.Datum.{Head, Meaning}
use Rattle.pliron_laws.specs.Laws.{KeepsCounts, GivesAtOnce}
use Rattle.pliron_laws.specs.Linked.{IsWellLinked}
use Rattle.pliron_rewrite_equals.specs.Merging.{after_merging, partly_merged}
use Rattle.pliron_opt_cse.specs.Left.{LeavesNoRedundancy, ReportsEquivalent}
use Rattle.pliron_opt_cse.specs.MergingSteps.{IsMergingOnWay, AreOrderedOperations, IsMergedUpTo, LeadsAt, LeadsOn, MergesInPart, MergesOrStays, ReportsMerging, status_after}
use Rattle.pliron_opt_cse.specs.Merges.{IsPair, AreMergedSoFar, Pair}
use Rattle.pliron_opt_cse.proofs.Exact.{exact_start, exact_merged, exact_stays, exact_end}
use Rattle.pliron_opt_cse.proofs.OnWay.{way_start, way_more, way_merged, way_partly, ordered_merged, ordered_on, merged_gone, pair_of, turn_more}

pub tells_unchanged : (t0 t : Tree) (status : IRStatus) → ReportsMerging t0 t status → status ≡ Unchanged → t ≡ t0
tells_unchanged t0 t Unchanged reported e = reported
tells_unchanged t0 t Changed reported e = absurd (cc e)

pub tells_same : (t0 t : Tree) (status : IRStatus) → ReportsMerging t0 t status → (status ≡ Unchanged) ↔ (t ≡ t0)
tells_same t0 t Unchanged reported = (λ e. reported, λ e. refl)
tells_same t0 t Changed reported = (λ e. absurd (cc e), λ e. absurd (reported.2 (subst (λ z. IsLive z reported.0) (sym e) reported.1)))

module _ (m : Meaning) (side_effects : Head → Option Bool) (counts : KeepsCounts m) (free : GivesAtOnce m side_effects) (t0 : Tree) (root : ℕ) (live : IsLive t0 root) (linked : IsWellLinked m t0 root) (ops ends : List ℕ) where
  pub merging_start : (find : List ℕ → Option ℕ) → AreOrderedOperations t0 root ops ends 0 → IsMergedUpTo m side_effects t0 t0 root ops ends 0 find Unchanged
  merging_start find o = record { way = way_start m t0 root live linked; merged = ([], refl); accurate = refl; ordered = o; exact = exact_start side_effects t0 root ops ends find }

  module _ (t : Tree) (place : ℕ) (find find' : List ℕ → Option ℕ) (status : IRStatus) (w : IsTree t) (low : place < length ops) (h : IsMergedUpTo m side_effects t0 t root ops ends place find status) where
    linked_now : IsWellLinked m t root
    linked_now = h.way.links root linked

    live_now : IsLive t root
    live_now = h.way.change.liveness

    pair : (i : ℕ) → LeadsAt side_effects t ops ends i place → IsPair side_effects t root (get_or ops i 0) (get_or ops place 0)
    pair i q = pair_of side_effects t w root ops ends i place (get_or ops i 0) (get_or ops place 0) h.ordered q.first low q.within refl refl q.live q.alike

    merged_one : (a : ℕ) → IsPair side_effects t root a (get_or ops place 0) → IsTree (after_merging t a (get_or ops place 0)) → ((key : List ℕ) → find' key ≡ find key) → IsMergedUpTo m side_effects t0 (after_merging t a (get_or ops place 0)) root ops ends (place + 1) find' Changed
    merged_one a p w' same = record {
      way = way_more m t0 t (after_merging t a b) root h.way (way_merged m side_effects counts free t a b root w live_now linked_now p w');
      merged = (h.merged.0 ++ record { leader = a; redundant = b } ∷ [], turn_more side_effects root h.merged.0 (record { leader = a; redundant = b }) t0 t h.merged.1 p);
      accurate = (b, h.way.fewer b lives, λ l. merged_gone m side_effects counts free t a b root w live_now linked_now p w' b l refl);
      ordered = ordered_merged m side_effects counts free t a b root w live_now linked_now p w' ops ends place low refl h.ordered;
      exact = exact_merged m side_effects counts free t a b root w live_now linked_now p w' t0 ops ends place find find' status low refl h.ordered h.way.fewer (tells_unchanged t0 t status h.accurate) same h.exact;
    }
      where
        b : ℕ
        b = get_or ops place 0

        lives : IsLive t (get_or ops place 0)
        lives = (w.joined.all_in_place (get_or ops place 0) p.second.block p.second.in_block).0

    pub merging_next : (t' : Tree) (merged : Bool) → IsTree t' → MergesOrStays side_effects t t' ops ends place merged → LeadsOn side_effects t ops ends place find find' merged → IsMergedUpTo m side_effects t0 t' root ops ends (place + 1) find' (status_after status merged)
    merging_next t' true w' (i, q, is) same = subst (λ z. IsMergedUpTo m side_effects t0 z root ops ends (place + 1) find' Changed) (sym is) (merged_one (get_or ops i 0) (pair i q) (subst IsTree is w') same)
    merging_next t' false w' is alone = subst (λ z. IsMergedUpTo m side_effects t0 z root ops ends (place + 1) find' status) (sym is) (record {
      way = h.way;
      merged = h.merged;
      accurate = h.accurate;
      ordered = ordered_on t root ops ends place h.ordered;
      exact = exact_stays side_effects t0 t root ops ends place find find' status alone h.exact;
    })

    -- memory was refused
    pub refused_way : (t' : Tree) → IsTree t' → MergesInPart side_effects t t' ops ends place → IsMergingOnWay m t0 t' root
    refused_way t' w' (inl e) = subst (λ z. IsMergingOnWay m t0 z root) (sym e) h.way
    refused_way t' w' (inr (i, q, part)) = subst (λ z. IsMergingOnWay m t0 z root) (sym part.tree) (way_more m t0 t (partly_merged t (get_or ops i 0) (get_or ops place 0) part.count) root h.way (way_partly m side_effects counts free t (get_or ops i 0) (get_or ops place 0) root w live_now linked_now (pair i q) part.count (subst IsTree part.tree w')))

    pub refused_merged : (t' : Tree) → MergesInPart side_effects t t' ops ends place → (xs : List Pair) × AreMergedSoFar side_effects root xs t0 t'
    refused_merged t' (inl e) = (h.merged.0, (t, h.merged.1, inl e))
    refused_merged t' (inr (i, q, part)) = (h.merged.0, (t, h.merged.1, inr (record { leader = get_or ops i 0; redundant = get_or ops place 0 }, pair i q, part)))

  pub merging_end : (t : Tree) (place : ℕ) (find : List ℕ → Option ℕ) (status : IRStatus) → IsTree t → length ops ≤ place → IsMergedUpTo m side_effects t0 t root ops ends place find status → LeavesNoRedundancy side_effects t0 t root × ReportsEquivalent side_effects t0 root status
  merging_end t place find status w all h = exact_end side_effects t0 t w root ops ends place find status all h.ordered (tells_unchanged t0 t status h.accurate) h.exact

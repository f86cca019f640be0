-- Stamps of looks and of falls: what was visited since a value fell goes on being so until it falls again.
use Rattle.std.proofs.Common.{◌≡◌, ◌⊎◌, inl, inr, ⊎_elim, ℕ, ◌≤◌, Bool, true, false, nat_eq, List, [], ◌∷◌, Some, slice_get, ◌<◌, refl, sym, ap, ◌∙◌, subst, arith}
use Rattle.std.proofs.lemmas.Bool.{eqb-true}
use Rattle.pliron_core.specs.Tree.{Tree, results_of, definition_of}
use Rattle.pliron_core.specs.declared.context.Def.TheVariants.{Result}
use Rattle.pliron_core.specs.Invariant.{IsTree}
use Rattle.pliron_core.proofs.HoldingLemmas.{some_is, not_none}
use Rattle.pliron_opt_sccp.specs.declared.lattice_tables.Tables.{Tables}
use Rattle.pliron_opt_sccp.specs.LatticeTables.{lattice_value_in, lowered_stamp, visit_stamp, is_value_on_worklist, KeepsStamps, StampsLowered, StampsEachLowered, StampsVisit}
use Rattle.pliron_opt_sccp.specs.Lowering.{ValuesAreLowered}
use Rattle.pliron_opt_sccp.specs.OperationVisits.{stamp_of, CallsForVisit, IsVisitOutdated, IsStamped, StampsIt}

pub kept_back : (s u : Tables) → KeepsStamps s u → KeepsStamps u s
kept_back s u k = record { visit_stamps = λ f. sym (k.visit_stamps f); lowered = λ v. sym (k.lowered v) }

pub kept_both : (s u w : Tables) → KeepsStamps s u → KeepsStamps u w → KeepsStamps s w
kept_both s u w k l = record { visit_stamps = λ f. l.visit_stamps f ∙ k.visit_stamps f; lowered = λ v. l.lowered v ∙ k.lowered v }

pub fallen_none : (s : Tables) → StampsEachLowered s s
fallen_none s = record { visit_stamps = λ f. refl; lowered = λ v. inl (refl, refl) }

pub kept_fallen : (s u : Tables) → ((v : ℕ) → lattice_value_in u v ≡ lattice_value_in s v) → KeepsStamps s u → StampsEachLowered s u
kept_fallen s u facts k = record { visit_stamps = k.visit_stamps; lowered = λ v. inl (facts v, k.lowered v) }

no_earlier : (l l' f f' : ℕ) → l' ≡ l → f' ≡ f → l ≤ f → l' ≤ f'
no_earlier l l' f f' e d le = omega (arith, e, d, le)

pub fallen_both : (s u w : Tables) → StampsEachLowered s u → StampsEachLowered u w → StampsEachLowered s w
fallen_both s u w p q = record { visit_stamps = λ f. q.visit_stamps f ∙ p.visit_stamps f; lowered = λ v. by v (q.lowered v) (p.lowered v) }
  where
    by : (v : ℕ) → ((lattice_value_in w v ≡ lattice_value_in u v) × (lowered_stamp w v ≡ lowered_stamp u v)) ⊎ ((f : ℕ) → visit_stamp w f ≤ lowered_stamp w v) → ((lattice_value_in u v ≡ lattice_value_in s v) × (lowered_stamp u v ≡ lowered_stamp s v)) ⊎ ((f : ℕ) → visit_stamp u f ≤ lowered_stamp u v) → ((lattice_value_in w v ≡ lattice_value_in s v) × (lowered_stamp w v ≡ lowered_stamp s v)) ⊎ ((f : ℕ) → visit_stamp w f ≤ lowered_stamp w v)
    by v (inr all) before = inr all
    by v (inl same) (inl old) = inl (same.0 ∙ old.0, same.1 ∙ old.1)
    by v (inl same) (inr all) = inr (λ f. no_earlier (visit_stamp u f) (visit_stamp w f) (lowered_stamp u v) (lowered_stamp w v) (q.visit_stamps f) same.1 (all f))

of_same : (s u : Tables) → ((f : ℕ) → visit_stamp u f ≡ visit_stamp s f) → (rs : List ℕ) → stamp_of u rs ≡ stamp_of s rs
of_same s u visit_stamps [] = refl
of_same s u visit_stamps (r ∷ rs) = visit_stamps r

-- no look is stamped later than the fall
of_all : (s : Tables) (n : ℕ) → ((f : ℕ) → visit_stamp s f ≤ n) → (rs : List ℕ) → stamp_of s rs ≤ n
of_all s n all [] = omega arith
of_all s n all (r ∷ rs) = all r

module _ (t : Tree) where
  pub behind_all : (s : Tables) (k v : ℕ) → ((f : ℕ) → visit_stamp s f ≤ lowered_stamp s v) → IsVisitOutdated t s k v
  behind_all s k v all = of_all s (lowered_stamp s v) all (results_of t k)

  pub behind_then : (s u : Tables) (k v : ℕ) → stamp_of u (results_of t k) ≡ stamp_of s (results_of t k) → lowered_stamp u v ≡ lowered_stamp s v → IsVisitOutdated t s k v → IsVisitOutdated t u k v
  behind_then s u k v look fall b = no_earlier (stamp_of s (results_of t k)) (stamp_of u (results_of t k)) (lowered_stamp s v) (lowered_stamp u v) look fall b

  pub behind_same : (s u : Tables) → KeepsStamps s u → (k v : ℕ) → IsVisitOutdated t s k v → IsVisitOutdated t u k v
  behind_same s u kept k v b = behind_then s u k v (of_same s u kept.visit_stamps (results_of t k)) (kept.lowered v) b

  -- what fell calls for every operation
  pub told_calls : (s u : Tables) → ValuesAreLowered s u → StampsLowered s u → (k v : ℕ) → (lattice_value_in u v ≡ lattice_value_in s v) ⊎ CallsForVisit t u k v
  told_calls s u f p k v = by (p v) (f.waits_if_lowered v)
    where
      by : ((lattice_value_in u v ≡ lattice_value_in s v) × (lowered_stamp u v ≡ lowered_stamp s v)) ⊎ ((first : ℕ) → visit_stamp u first ≤ lowered_stamp u v) → (lattice_value_in u v ≡ lattice_value_in s v) ⊎ (is_value_on_worklist u v ≡ true) → (lattice_value_in u v ≡ lattice_value_in s v) ⊎ CallsForVisit t u k v
      by (inl same) waits_if_lowered = inl same.0
      by (inr all) (inl e) = inl e
      by (inr all) (inr w) = inr (w, behind_all u k v all)

  -- what called for an operation that was not looked at goes on calling for it
  pub calls_still : (s u : Tables) → ValuesAreLowered s u → StampsLowered s u → (k v : ℕ) → stamp_of u (results_of t k) ≡ stamp_of s (results_of t k) → CallsForVisit t s k v → CallsForVisit t u k v
  calls_still s u f p k v look (w, b) = (f.values v w, by (p v))
    where
      by : ((lattice_value_in u v ≡ lattice_value_in s v) × (lowered_stamp u v ≡ lowered_stamp s v)) ⊎ ((first : ℕ) → visit_stamp u first ≤ lowered_stamp u v) → IsVisitOutdated t u k v
      by (inl same) = behind_then s u k v look same.1 b
      by (inr all) = behind_all u k v all

  -- a look is stamped, and then facts fall
  pub stamped_then : (k : ℕ) (s u w : Tables) → StampsIt t k s u → StampsEachLowered u w → IsStamped t k s w
  stamped_then k s u w it queued = record {
    others = λ j n. of_same u w queued.visit_stamps (results_of t j) ∙ it.visit_stamps j n;
    lowered = λ v. ⊎_elim (λ same. inl (same.0 ∙ it.facts v, same.1 ∙ it.lowered v)) (λ all. inr all) (queued.lowered v);
  }

made_by : {b c i j : ℕ} → Some (Result b i) ≡ Some (Result c j) → b ≡ c
made_by e = cc

-- the stamp of a look is kept with the first result, which no other operation has
module _ (t : Tree) (w : IsTree t) (k first : ℕ) (here : slice_get (results_of t k) 0 ≡ Some first) (s u : Tables) (l : StampsVisit first s u) where
  others_keep : (j : ℕ) → (j ≡ k → ⊥) → stamp_of u (results_of t j) ≡ stamp_of s (results_of t j)
  others_keep j other = by (results_of t j) refl
    where
      apart : (r : ℕ) → slice_get (results_of t j) 0 ≡ Some r → nat_eq first r ≡ true → ⊥
      apart r at e = other (made_by (sym (w.joined.results j 0 r at) ∙ ap (definition_of t) (sym (eqb-true first r e)) ∙ w.joined.results k 0 first here))

      differs : (r : ℕ) (q : Bool) → nat_eq first r ≡ q → slice_get (results_of t j) 0 ≡ Some r → nat_eq first r ≡ false
      differs r true e at = absurd (apart r at e)
      differs r false e at = e

      by : (rs : List ℕ) → results_of t j ≡ rs → stamp_of u rs ≡ stamp_of s rs
      by [] e = refl
      by (r ∷ rs) e = l.visit_stamps r (differs r (nat_eq first r) refl (ap (λ z. slice_get z 0) e))

  pub stamps_it : StampsIt t k s u
  stamps_it = record {
    facts = l.facts;
    reached = l.reached;
    blocks = l.blocks;
    values = l.values;
    numbers = l.numbers;
    constants = l.constants;
    visit_stamps = others_keep;
    lowered = l.lowered;
  }

-- a greater stamp of the look than of the fall: it came later
pub not_behind : (t : Tree) (s : Tables) (k first v : ℕ) → slice_get (results_of t k) 0 ≡ Some first → lowered_stamp s v < visit_stamp s first → IsVisitOutdated t s k v → ⊥
not_behind t s k first v at later b = by (results_of t k) refl
  where
    by : (rs : List ℕ) → results_of t k ≡ rs → ⊥
    by [] e = absurd (not_none (sym (ap (λ z. slice_get z 0) e) ∙ at))
    by (r ∷ rs) e =
        let same = some_is (sym (ap (λ z. slice_get z 0) e) ∙ at) in
        let l : visit_stamp s r ≤ lowered_stamp s v = subst (λ z. stamp_of s z ≤ lowered_stamp s v) e b in
        let n = ap (visit_stamp s) same in
        omega (arith, l, n, later)

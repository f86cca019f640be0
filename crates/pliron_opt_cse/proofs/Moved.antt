-- While uses move from values to others, everything stands where it stood.
use Rattle.std.proofs.Common.{◌≡◌, ◌≢◌, ◌↔◌, ℕ, zero, suc, List, [], ◌∷◌, Bool, Option, Some, None, slice_get, take, refl, subst}
use Rattle.pliron_core.specs.declared.context.Def.{Def}
use Rattle.pliron_core.specs.declared.context.Def.TheVariants.{Result, Argument}
use Rattle.pliron_core.specs.Tree.{Tree, In, IsLive, regions_of, successors_of, results_of}
use Rattle.pliron_core.specs.Writes.{after_replacing}
use Rattle.pliron_core.proofs.HoldingLemmas.{not_none}
use Rattle.pliron_laws.specs.Datum.{Head}
use Rattle.pliron_laws.specs.Paths.{Path}
use Rattle.pliron_laws.specs.Root.{HasPassed}
use Rattle.pliron_theory.specs.Edges.{EdgesAlike}
use Rattle.pliron_theory.proofs.KeptPlaces.{within_back}
use Rattle.pliron_rewrite_equals.specs.OperationDominance.{DominatesOperation}
use Rattle.pliron_rewrite_equals.specs.Merging.{replaced_all}
use Rattle.pliron_rewrite_equals.proofs.Replaced.{places_kept, stands_kept}
use Rattle.pliron_rewrite_equals.proofs.Merging.{ArePairs}
use Rattle.pliron_graph_order.specs.Seen.{IsSeen}
use Rattle.pliron_laws.specs.EdgeChecks.{region_around}
use Rattle.pliron_opt_cse.proofs.SeenStays.{Shows, seen_on}

module _ (t : Tree) (old new : ℕ) where
  path_forth : (a b : ℕ) (before : List ℕ) → Path t a b before → Path (after_replacing t old new) a b before
  path_forth a b [] p = p
  path_forth a b (c ∷ before) p = (record { successor = p.0.successor; same_region = p.0.same_region }, path_forth a c before p.1)

  path_back : (a b : ℕ) (before : List ℕ) → Path (after_replacing t old new) a b before → Path t a b before
  path_back a b [] p = p
  path_back a b (c ∷ before) p = (record { successor = p.0.successor; same_region = p.0.same_region }, path_back a c before p.1)

  passed_back : (d : Option Def) (before : List ℕ) (b : ℕ) (done : List ℕ) → HasPassed (after_replacing t old new) d before b done → HasPassed t d before b done
  passed_back None before b done p = p
  passed_back (Some (Argument c j)) before b done p = p
  passed_back (Some (Result k j)) before b done p = p

  stands_back : (a b : ℕ) → DominatesOperation (after_replacing t old new) a b → DominatesOperation t a b
  stands_back a b p = record {
    around = p.around;
    holds = within_back (places_kept t old new) p.around b p.holds;
    home = p.home;
    in_home = p.in_home;
    block = p.block;
    in_block = p.in_block;
    region = p.region;
    home_region = p.home_region;
    in_region = p.in_region;
    passes = λ entry before done rest fe path split. passed_back (Some (Result a 0)) before p.block done (p.passes entry before done rest fe (path_forth entry p.block before path) split);
  }

  module _ (b : ℕ) (none : regions_of t b ≡ []) where
    other : (k r : ℕ) → In r (regions_of t k) → k ≢ b
    other k r i e = subst (In r) none (subst (λ z. In r (regions_of t z)) e i)

    forth : Shows t (after_replacing t old new) b
    forth = record { regions = λ k. refl; layouts = λ r. refl; homes = λ c. refl; placed = λ k ne. refl; others = other; ssa = λ k r i. refl; paths = path_forth }

    back : Shows (after_replacing t old new) t b
    back = record { regions = λ k. refl; layouts = λ r. refl; homes = λ c. refl; placed = λ k ne. refl; others = other; ssa = λ k r i. refl; paths = path_back }

pub moved_regions : (vs xs : List ℕ) (t : Tree) (k : ℕ) → regions_of (replaced_all t vs xs) k ≡ regions_of t k
moved_regions [] xs t k = refl
moved_regions (v ∷ vs) [] t k = refl
moved_regions (v ∷ vs) (x ∷ xs) t k = moved_regions vs xs (after_replacing t v x) k

pub moved_successors : (vs xs : List ℕ) (t : Tree) (k : ℕ) → successors_of (replaced_all t vs xs) k ≡ successors_of t k
moved_successors [] xs t k = refl
moved_successors (v ∷ vs) [] t k = refl
moved_successors (v ∷ vs) (x ∷ xs) t k = moved_successors vs xs (after_replacing t v x) k

pub moved_around : (vs xs : List ℕ) (t : Tree) (k : ℕ) → region_around (replaced_all t vs xs) k ≡ region_around t k
moved_around [] xs t k = refl
moved_around (v ∷ vs) [] t k = refl
moved_around (v ∷ vs) (x ∷ xs) t k = moved_around vs xs (after_replacing t v x) k

pub moved_stands : (vs xs : List ℕ) (t : Tree) (a b : ℕ) → DominatesOperation t a b ↔ DominatesOperation (replaced_all t vs xs) a b
moved_stands [] xs t a b = (λ p. p, λ p. p)
moved_stands (v ∷ vs) [] t a b = (λ p. p, λ p. p)
moved_stands (v ∷ vs) (x ∷ xs) t a b =
    let rest = moved_stands vs xs (after_replacing t v x) a b in
    (λ p. rest.0 (stands_kept t v x a b p), λ p. stands_back t v x a b (rest.1 p))

pub moved_seen : (vs xs : List ℕ) (t : Tree) (b root k : ℕ) → regions_of t b ≡ [] → k ≢ b → IsSeen t root k ↔ IsSeen (replaced_all t vs xs) root k
moved_seen [] xs t b root k none ne = (λ p. p, λ p. p)
moved_seen (v ∷ vs) [] t b root k none ne = (λ p. p, λ p. p)
moved_seen (v ∷ vs) (x ∷ xs) t b root k none ne =
    let rest = moved_seen vs xs (after_replacing t v x) b root k none ne in
    (λ p. rest.0 (seen_on t (after_replacing t v x) b root (forth t v x b none) k ne p), λ p. seen_on (after_replacing t v x) t b root (back t v x b none) k ne (rest.1 p))

pub moved_alike : (vs xs : List ℕ) (t : Tree) → EdgesAlike t t → EdgesAlike t (replaced_all t vs xs)
moved_alike [] xs t e = e
moved_alike (v ∷ vs) [] t e = e
moved_alike (v ∷ vs) (x ∷ xs) t e =
    let rest = moved_alike vs xs (after_replacing t v x) (record { grows = e.grows; regions = λ op. refl; layouts = λ r. refl; successors = λ b. refl; bodies = λ b. refl }) in
    record { grows = rest.grows; regions = rest.regions; layouts = rest.layouts; successors = rest.successors; bodies = rest.bodies }

pub moved_live : (vs xs : List ℕ) (t : Tree) (k : ℕ) → IsLive t k ↔ IsLive (replaced_all t vs xs) k
moved_live [] xs t k = (λ l. l, λ l. l)
moved_live (v ∷ vs) [] t k = (λ l. l, λ l. l)
moved_live (v ∷ vs) (x ∷ xs) t k = moved_live vs xs (after_replacing t v x) k

-- the first of the results are pairs too
pub merged_pairs : (side_effects : Head → Option Bool) (t : Tree) (a b n : ℕ) → ArePairs side_effects a b t (take n (results_of t b)) (take n (results_of t a))
merged_pairs side_effects t a b n i v x p q = (i, first n (results_of t b) i v p, first n (results_of t a) i x q)
  where
    first : (n : ℕ) (xs : List ℕ) (i v : ℕ) → slice_get (take n xs) i ≡ Some v → slice_get xs i ≡ Some v
    first zero xs i v e = absurd (not_none e)
    first (suc n) [] i v e = e
    first (suc n) (x ∷ xs) zero v e = e
    first (suc n) (x ∷ xs) (suc i) v e = first n xs i v e

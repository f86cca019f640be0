-- Sites in a list.
use Rattle.std.proofs.Common.{◌≡◌, ◌≢◌, ◌⊎◌, ◌<◌, ◌+◌, ℕ, zero, suc, List, [], ◌∷◌, ◌++◌, length, Option, Some, None, inl, inr, ⊎_elim, slice_get, get_or, refl, sym, ap, ◌∙◌, subst, arith}
use Rattle.std.proofs.lemmas.Option.{slice_get_read, slice_get_within}
use Rattle.pliron_core.specs.Invariant.{IsTree}
use Rattle.pliron_core.specs.Tree.{Tree, In, IsLive, body_of, first_of, parent_of}
use Rattle.pliron_core.proofs.GrownLemmas.{slice_get_added, slice_get_kept}
use Rattle.pliron_core.proofs.HoldingLemmas.{in_slice, not_none, slice_in, some_is}
use Rattle.pliron_core.proofs.NeighbourLemmas.{first_of-In}
use Rattle.pliron_graph_order.specs.Order.{IsOrder}
use Rattle.pliron_graph_order.specs.Seen.{IsSeen}
use Rattle.pliron_opt_canonicalize.specs.Sites.{AddsSites, AreListed, AreSitesOf, IsAmong, IsSeenAt, IsVisitedAt}
use Rattle.pliron_opt_canonicalize.specs.declared.sites.Site.{Site}
use Rattle.pliron_opt_canonicalize.specs.declared.sites.Site.TheVariants.{Arguments, Results}

last_or_before : (xs : List Site) (y : Site) (j : ℕ) (s : Site) → slice_get (xs ++ y ∷ []) j ≡ Some s → (slice_get xs j ≡ Some s) ⊎ (s ≡ y)
last_or_before [] y zero s e = inr (sym (some_is e))
last_or_before [] y (suc j) s e = absurd (not_none e)
last_or_before (x ∷ xs) y zero s e = inl e
last_or_before (x ∷ xs) y (suc j) s e = last_or_before xs y j s e

at_end : (xs : List Site) (y : Site) → slice_get (xs ++ y ∷ []) (length xs) ≡ Some y
at_end xs y = let z : length xs + 0 ≡ length xs = omega arith in ap (slice_get (xs ++ y ∷ [])) (sym z) ∙ slice_get_added xs (y ∷ []) 0

among : (xs : List Site) (j : ℕ) (s : Site) → slice_get xs j ≡ Some s → IsAmong xs (length xs) s
among xs j s at = (j, slice_get_within xs j s at, at)

abbrev with_arguments : List Site → ℕ → List Site
with_arguments sites block = sites ++ Arguments block ∷ []

module _ (t : Tree) (op : ℕ) (old : List Site) where
  adds_one : (new : List Site) → new ≡ old ++ Results op ∷ [] → ((block : ℕ) → first_of (body_of t block) None ≡ Some op → ⊥) → AddsSites t op old new
  adds_one new is none = subst (AddsSites t op old) (sym is) (record {
    kept = λ j s at. slice_get_kept old (Results op ∷ []) j s at;
    added = λ j s at. ⊎_elim (λ before. inl before) (λ e. inr (subst (IsVisitedAt t op) (sym e) refl)) (last_or_before old (Results op) j s at);
    results = among (old ++ Results op ∷ []) (length old) (Results op) (at_end old (Results op));
    arguments = λ block first. absurd (none block first);
  })

  pub adds_results : (new : List Site) (begun : Option ℕ) → new ≡ old ++ Results op ∷ [] → ((block : ℕ) → first_of (body_of t block) None ≡ Some op → begun ≡ Some block) → begun ≡ None → AddsSites t op old new
  adds_results new begun is first none = adds_one new is (λ block e. not_none (sym none ∙ first block e))

  pub adds_both : (new middle : List Site) (begun : Option ℕ) (block : ℕ) → begun ≡ Some block → parent_of t op ≡ Some block → ((b : ℕ) → first_of (body_of t b) None ≡ Some op → begun ≡ Some b) → middle ≡ old ++ Arguments block ∷ [] → new ≡ middle ++ Results op ∷ [] → AddsSites t op old new
  adds_both new middle begun block here home first e f = subst (AddsSites t op old) (sym (f ∙ ap (λ z. z ++ Results op ∷ []) e)) (record {
    kept = λ j s at. slice_get_kept (with_arguments old block) (Results op ∷ []) j s (slice_get_kept old (Arguments block ∷ []) j s at);
    added = λ j s at. ⊎_elim
        (λ before. ⊎_elim (λ first. inl first) (λ e. inr (subst (IsVisitedAt t op) (sym e) home)) (last_or_before old (Arguments block) j s before))
        (λ e. inr (subst (IsVisitedAt t op) (sym e) refl))
        (last_or_before (with_arguments old block) (Results op) j s at);
    results = among ((with_arguments old block) ++ Results op ∷ []) (length (with_arguments old block)) (Results op) (at_end (with_arguments old block) (Results op));
    arguments = λ b e. subst (λ z. IsAmong ((with_arguments old block) ++ Results op ∷ []) (length ((with_arguments old block) ++ Results op ∷ [])) (Arguments z)) (some_is (sym here ∙ first b e))
        (among ((with_arguments old block) ++ Results op ∷ []) (length old) (Arguments block) (slice_get_kept (with_arguments old block) (Results op ∷ []) (length old) (Arguments block) (at_end old (Arguments block))));
  })

module _ (t : Tree) (ops : List ℕ) where
  pub sites_none : AreSitesOf t ops 0 []
  sites_none = record { from = λ j s at. absurd (not_none at); results = λ i op lt at. absurd (omega (arith, lt)); arguments = λ i op block lt at first. absurd (omega (arith, lt)) }

  pub sites_more : (n op : ℕ) (old new : List Site) → AreSitesOf t ops n old → AddsSites t op old new → slice_get ops n ≡ Some op → AreSitesOf t ops (n + 1) new
  sites_more n op old new so_far adds at = record {
    from = λ j s here. ⊎_elim (λ before. so_far.from j s before) (λ v. (op, in_slice ops n op at, v)) (adds.added j s here);
    results = λ i k lt there. ⊎_elim
        (λ e. subst (λ z. IsAmong new (length new) (Results z)) (same i k e there) adds.results)
        (λ ne. kept (Results k) (so_far.results i k (omega (arith, lt, ne)) there))
        (cases i n);
    arguments = λ i k block lt there first. ⊎_elim
        (λ e. adds.arguments block (first ∙ ap Some (sym (same i k e there))))
        (λ ne. kept (Arguments block) (so_far.arguments i k block (omega (arith, lt, ne)) there first))
        (cases i n);
  }
    where
      cases : (x y : ℕ) → (x ≡ y) ⊎ (x ≢ y)
      cases x y = grind arith

      same : (i k : ℕ) → i ≡ n → slice_get ops i ≡ Some k → op ≡ k
      same i k e there = some_is (sym at ∙ ap (slice_get ops) (sym e) ∙ there)

      kept : (s : Site) → IsAmong old (length old) s → IsAmong new (length new) s
      kept s a = among new a.0 s (adds.kept a.0 s a.2)

  pub seen_live : (root : ℕ) (ends : List ℕ) → IsTree t → IsOrder t root ops ends → (k : ℕ) → In k ops → IsLive t k
  seen_live root ends w order k i = let s = (order.each k).0 i in (w.joined.all_in_place k s.block s.in_block).0

  pub sites_listed : (root : ℕ) (ends : List ℕ) (sites : List Site) → IsTree t → IsOrder t root ops ends → AreSitesOf t ops (length ops) sites → AreListed t root sites
  sites_listed root ends sites w order are = record {
    seen = λ j s at. let x = are.from j s at in seen_of s x.0 ((order.each x.0).0 x.1) x.2;
    blocks = λ block x.
        let first = first_there (body_of t block) x.0 (w.bodies.listed x.0 block x.2) in
        let home : parent_of t first.0 ≡ Some block = w.bodies.owned first.0 block (first_of-In first.0 (body_of t block) first.1) in
        let same : x.1.block ≡ block = some_is (sym x.1.in_block ∙ x.2) in
        let at = place first.0 (seen_beside x.0 first.0 x.1 (home ∙ ap Some (sym same))) in
        are.arguments at.0 first.0 block (slice_get_within ops at.0 first.0 at.1) at.1 first.1;
    operations = λ k seen. let at = place k seen in inl (are.results at.0 k (slice_get_within ops at.0 k at.1) at.1);
  }
    where
      seen_of : (s : Site) (k : ℕ) → IsSeen t root k → IsVisitedAt t k s → IsSeenAt t root s
      seen_of (Arguments block) k seen v = (k, seen, v)
      seen_of (Results j) k seen v = subst (IsSeen t root) (sym v) seen

      first_there : (xs : List ℕ) (k : ℕ) → In k xs → (x : ℕ) × (first_of xs None ≡ Some x)
      first_there [] k i = absurd i
      first_there (x ∷ xs) k i = (x, refl)

      seen_beside : (k j : ℕ) (s : IsSeen t root k) → parent_of t j ≡ Some s.block → IsSeen t root j
      seen_beside k j s at = record { block = s.block; region = s.region; in_block = at; in_region = s.in_region; visited = s.visited; dominance = s.dominance; reached = s.reached }

      place : (k : ℕ) → IsSeen t root k → (j : ℕ) × (slice_get ops j ≡ Some k)
      place k seen = slice_in ops k ((order.each k).1 seen)

pub read_op : (ops : List ℕ) (n op : ℕ) → n < length ops → op ≡ get_or ops n op → slice_get ops n ≡ Some op
read_op ops n op lt e = slice_get_read ops (length ops) n op refl lt e

-- Where a call on a block starts, and that this stays.
use Rattle.std.proofs.Common.{◌≡◌, ◌≢◌, inl, inr, ⊎_elim, ℕ, List, Option, Some, None, refl, sym, ap, ◌∙◌, subst}
use Rattle.std.proofs.lemmas.Bool.{cases_eq}
use Rattle.pliron_core.specs.Tree.{Tree, In, IsInside.Directly, IsWithin, regions_of, parent_of, block_parent_of, block_parent_operation_of, region_parent_of}
use Rattle.pliron_core.specs.Invariant.{IsTree}
use Rattle.pliron_core.proofs.HoldingLemmas.{some_is, not_none, slice_in, holder_by, inside_by, not_itself, region_parent_is, region_by}
use Rattle.pliron_core.proofs.WithinLemmas.{block_holder_from}
use Rattle.pliron_laws.specs.Linked.{EdgesLast}
use Rattle.pliron_theory.specs.Splicing.{IsSpliced}
use Rattle.pliron_opt_cfg.specs.Visited.{OfBlock, IsVisited, IsVisited.Starts, IsVisited.Nested}
use Rattle.pliron_opt_cfg.proofs.RegionReach.{IsHeld, visited_held, entered_in}
use Rattle.pliron_opt_cfg.proofs.VisitsKept.{spliced_regions}
use Rattle.pliron_opt_cfg.proofs.Opens.{IsLasting}

pub block_starts : (t : Tree) → IsTree t → (block root : ℕ) → block_parent_operation_of t block ≡ Some root → (r : ℕ) → OfBlock block t r → IsHeld t root r
block_starts t w block root held r (k, at, i) =
    let x = slice_in (regions_of t k) r i in
    let slot = w.joined.regions k x.0 r x.1 in
    record { holder = k; held = region_parent_is t r (record { op = k; index = x.0 }) slot; liveness = region_by t r (record { op = k; index = x.0 }) slot x.1; within = inr (Directly (holder_by t k block root at held)) }

-- what is visited is held by an operation of the block, or inside one
record IsBelow (t : Tree) (block r : ℕ) : Type 0 where
  top : ℕ
  holder : ℕ
  at : parent_of t top ≡ Some block
  held : region_parent_of t r ≡ Some holder
  within : IsWithin t top holder

module _ (u : Tree) (w : IsTree u) (root block : ℕ) (edges : EdgesLast u root) (starts : (r : ℕ) → OfBlock block u r → IsHeld u root r) where
  held_by : (k r : ℕ) → In r (regions_of u k) → region_parent_of u r ≡ Some k
  held_by k r i = let x = slice_in (regions_of u k) r i in region_parent_is u r (record { op = k; index = x.0 }) (w.joined.regions k x.0 r x.1)

  below : (r : ℕ) → IsVisited u (OfBlock block u) r → IsBelow u block r
  below r (Starts (k, at, i)) = record { top = k; holder = k; at = at; held = held_by k r i; within = inl refl }
  below r (Nested outer c k v e at i) =
      let b = below outer v in
      let there = entered_in u w root edges outer c (visited_held u w root edges (OfBlock block u) starts outer v) e in
      record { top = b.top; holder = k; at = b.at; held = held_by k r i; within = inr (inside_by b.holder (holder_by u k c b.holder at (block_holder_from u c outer there ∙ b.held)) b.within) }

  -- so the block stands in none of these regions
  pub block_apart : (r : ℕ) → IsVisited u (OfBlock block u) r → block_parent_of u block ≡ Some r → ⊥
  block_apart r v e =
      let b = below r v in
      let up = holder_by u b.top block b.holder b.at (block_holder_from u block r e ∙ b.held) in
      not_itself {t = u} w.joined.rooted (inside_by b.holder up b.within)

pub block_lasts : (block root : ℕ) → IsLasting (OfBlock block) root
block_lasts block root = record {
  operands = λ t xs r x. x;
  forth = λ u v a b jump region front w wv s edges starts in_region visited r x. forth u v a b jump region front w wv s edges starts in_region visited r x;
  back = λ u v a b jump region front w wv s edges starts in_region visited r x. back u v a b jump region front w wv s edges starts in_region visited r x;
}
  where
    not_jump : (u v : Tree) (a b jump : ℕ) (front : List ℕ) → IsSpliced u v a b jump front → (k r : ℕ) → In r (regions_of u k) → k ≢ jump
    not_jump u v a b jump front s k r i e = subst (In r) (ap (regions_of u) e ∙ s.childless) i

    forth : (u v : Tree) (a b jump region : ℕ) (front : List ℕ) → IsTree u → IsTree v → IsSpliced u v a b jump front → EdgesLast u root → ((r : ℕ) → OfBlock block u r → IsHeld u root r) → block_parent_of u a ≡ Some region → IsVisited u (OfBlock block u) region → (r : ℕ) → OfBlock block u r → OfBlock block v r
    forth u v a b jump region front w wv s edges starts in_region visited r (k, at, i) = (
      k,
      s.parents k (not_jump u v a b jump front s k r i) (λ q. block_apart u w root block edges starts region visited (ap (block_parent_of u) (some_is (sym at ∙ q)) ∙ s.beside ∙ in_region)) ∙ at,
      subst (In r) (sym (spliced_regions u v wv a b jump front s k)) i,
    )

    back : (u v : Tree) (a b jump region : ℕ) (front : List ℕ) → IsTree u → IsTree v → IsSpliced u v a b jump front → EdgesLast u root → ((r : ℕ) → OfBlock block u r → IsHeld u root r) → block_parent_of u a ≡ Some region → IsVisited u (OfBlock block u) region → (r : ℕ) → OfBlock block v r → OfBlock block u r
    back u v a b jump region front w wv s edges starts in_region visited r (k, at, i) = (k, go (parent_of u k) refl, i')
      where
        i' : In r (regions_of u k)
        i' = subst (In r) (spliced_regions u v wv a b jump front s k) i

        ne : k ≢ jump
        ne = not_jump u v a b jump front s k r i'

        go : (o : Option ℕ) → parent_of u k ≡ o → parent_of u k ≡ Some block
        go None f = absurd (not_none (sym (s.parents k ne (λ q. not_none (sym f ∙ q)) ∙ f) ∙ at))
        go (Some d) f = ⊎_elim
            (λ z. absurd (block_apart u w root block edges starts region visited (ap (block_parent_of u) (some_is (sym at ∙ s.moved k (f ∙ ap Some z))) ∙ in_region)))
            (λ nb. sym (s.parents k ne (λ q. nb (some_is (sym f ∙ q)))) ∙ at)
            (cases_eq d b)

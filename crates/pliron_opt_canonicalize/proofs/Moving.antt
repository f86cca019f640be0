-- The uses of a value went to another one, before which at most one new operation was put.
use Rattle.std.proofs.Common.{◌≡◌, ◌≢◌, ◌⊎◌, ◌↔◌, ◌&&◌, ◌<◌, ◌+◌, ℕ, suc, Bool, true, false, true≢false, List, [], ◌∷◌, ◌++◌, length, map, Option, Some, None, IsSome, IsTrue, inl, inr, ⊎_elim, slice_get, get_or, if◌then◌else◌, refl, sym, ap, ◌∙◌, subst, arith}
use Rattle.std.proofs.lemmas.List.{get_or_past, get_or-set_other, get_or-set_same, length-append}
use Rattle.std.proofs.lemmas.Option.{slice_get-get_or}
use Rattle.pliron_core.specs.declared.attrs.Head.{Head}
use Rattle.pliron_core.specs.declared.context.Def.{Def}
use Rattle.pliron_core.specs.declared.context.Def.TheVariants.{Result, Argument}
use Rattle.pliron_core.specs.Invariant.{IsTree}
use Rattle.pliron_core.specs.Lists.{put_before}
use Rattle.pliron_core.specs.Reads.{has_ssa, has_ssa_at, ssa_in}
use Rattle.pliron_core.specs.Tree.{Tree, In, IsDefined, IsLive, no_entry, row_of, operands_of, regions_of, results_of, arguments_of, parent_of, body_of, block_parent_of, region_parent_of, definition_of, first_of, op_of_slot}
use Rattle.pliron_core.specs.Uses.{replace_target}
use Rattle.pliron_core.specs.Writes.{after_creating, after_placing, after_replacing}
use Rattle.pliron_core.proofs.BesideLemmas.{created_beside}
use Rattle.pliron_core.proofs.GrownLemmas.{get_grown, slice_get_added}
use Rattle.pliron_core.proofs.HoldingLemmas.{past_live, slice_in, some_is}
use Rattle.pliron_core.proofs.UsedLemmas.{get_map, in_map}
use Rattle.pliron_laws.specs.Outcomes.{after_materialising}
use Rattle.pliron_laws.specs.Paths.{Path}
use Rattle.pliron_laws.proofs.ConstantLemmas.{made_row}
use Rattle.pliron_laws.proofs.LinkedLemmas.{put_is, tree_put}
use Rattle.pliron_theory.specs.Edges.{EdgesAlike, KeepsEdges, has_entries}
use Rattle.pliron_theory.proofs.EdgeLemmas.{edges_alike}
use Rattle.pliron_theory.proofs.PutEdges.{put_alike}
use Rattle.pliron_rewrite_equals.proofs.Replaced.{operands_replaced, target_cases, tree_kept}
use Rattle.pliron_graph_order.specs.Seen.{IsOnPathIn, IsVisitedBlockFromIf, IsVisitedFrom, Starts, Nested, IsSeen, IsUsed}
use Rattle.pliron_opt_canonicalize.specs.Counts.{count_below, foldable_count, counts_as_foldable, is_foldable, is_used}
use Rattle.pliron_opt_canonicalize.specs.Folds.{IsSeenBlock}
use Rattle.pliron_opt_canonicalize.proofs.Counting.{count_less, told_used, used_told}

-- the new value was used before, or a new operation of nothing makes it
abbrev pub IsKnownOrNew : (t t' : Tree) → ℕ → Type 0
IsKnownOrNew t t' new = ((length t'.definitions ≡ length t.definitions) × IsUsed t new) ⊎ ((length t'.definitions ≡ suc (length t.definitions)) × (new ≡ length t.definitions) × (definition_of t' (length t.definitions) ≡ Some (Result (length t.operations) 0)))

pub record Moves (t t' : Tree) (old new : ℕ) : Type 0 where
  pub tree : IsTree t
  pub after : IsTree t'
  pub apart : old ≢ new
  pub operands : (k : ℕ) → operands_of t' k ≡ map (replace_target old new) (operands_of t k)
  pub rows : (k : ℕ) → k ≢ length t.operations → row_of t' k ≡ row_of t k
  pub childless : regions_of t' (length t.operations) ≡ []
  pub parents : (k : ℕ) → k ≢ length t.operations → parent_of t' k ≡ parent_of t k
  pub homes : (b : ℕ) → block_parent_of t' b ≡ block_parent_of t b
  pub arguments : (b : ℕ) → arguments_of t' b ≡ arguments_of t b
  pub beside : (b : ℕ) → parent_of t' (length t.operations) ≡ Some b → (k : ℕ) × (parent_of t k ≡ Some b)
  pub alike : EdgesAlike t t'
  pub definitions : (v : ℕ) → v < length t.definitions → definition_of t' v ≡ definition_of t v
  pub new_is : IsKnownOrNew t t' new

mapped_none : (f : ℕ → ℕ) (xs : List ℕ) → xs ≡ [] → map f xs ≡ []
mapped_none f xs e = ap (map f) e

mapped_entries : (f : ℕ → ℕ) (xs : List ℕ) → has_entries (map f xs) ≡ has_entries xs
mapped_entries f [] = refl
mapped_entries f (x ∷ xs) = refl

and_left : (a b : Bool) → (a && b) ≡ true → a ≡ true
and_left true b e = refl
and_left false b e = absurd (true≢false (sym e))

and_right : (a b : Bool) → (a && b) ≡ true → b ≡ true
and_right true b e = e
and_right false b e = absurd (true≢false (sym e))

and_both : (a b : Bool) → a ≡ true → b ≡ true → (a && b) ≡ true
and_both true b e f = f
and_both false b e f = absurd (true≢false (sym e))

not_true : (b : Bool) → (b ≡ true → ⊥) → b ≡ false
not_true true n = absurd (n refl)
not_true false n = refl

cases : (x y : ℕ) → (x ≡ y) ⊎ (x ≢ y)
cases x y = grind arith

module _ (t t' : Tree) (old new : ℕ) (h : Moves t t' old new) where
  abbrev n : ℕ
  n = length t.operations

  no_row : row_of t (length t.operations) ≡ no_entry
  no_row = get_or_past t.operations (length t.operations) no_entry (omega arith)

  none_used : operands_of t (length t.operations) ≡ []
  none_used = get_or_past t.operands (length t.operations) [] (omega (arith, h.tree.keys.operands))

  pub empty : (k : ℕ) → operands_of t k ≡ [] → operands_of t' k ≡ []
  empty k e = h.operands k ∙ mapped_none (replace_target old new) (operands_of t k) e

  pub new_empty : operands_of t' (length t.operations) ≡ []
  new_empty = empty (length t.operations) none_used

  not_new : (k : ℕ) → IsLive t k → k ≢ length t.operations
  not_new k l e = let lt = past_live t k l in omega (arith, lt, e)

  pub live : (k : ℕ) → IsLive t k → IsLive t' k
  live k l = subst (λ z. IsSome z.head) (sym (h.rows k (not_new k l))) l

  pub same_results : (k : ℕ) → IsLive t k → results_of t' k ≡ results_of t k
  same_results k l = ap (λ z. z.results) (h.rows k (not_new k l))

  pub edges_kept : KeepsEdges t t'
  edges_kept = edges_alike t t' h.tree h.after h.alike

  -- the old value is used no more, and no other value gets uses but the new one
  pub unused : IsUsed t' old → ⊥
  unused u =
      let x = in_map (replace_target old new) (operands_of t u.0) old (subst (In old) (h.operands u.0) u.1) in
      ⊎_elim (λ y. h.apart (x.2 ∙ y.1)) (λ y. y.0 (sym (x.2 ∙ y.1))) (target_cases old new x.0)

  pub used_back : (v : ℕ) → IsUsed t' v → IsUsed t v ⊎ (v ≡ new)
  used_back v u =
      let x = in_map (replace_target old new) (operands_of t u.0) v (subst (In v) (h.operands u.0) u.1) in
      ⊎_elim (λ y. inr (x.2 ∙ y.1)) (λ y. inl (u.0, subst (λ z. In z (operands_of t u.0)) (sym (x.2 ∙ y.1)) x.1)) (target_cases old new x.0)

  same_entries : (k : ℕ) → has_entries (operands_of t' k) ≡ has_entries (operands_of t k)
  same_entries k = ap has_entries (h.operands k) ∙ mapped_entries (replace_target old new) (operands_of t k)

  same_foldable : (d : Option Def) → is_foldable t' d ≡ is_foldable t d
  same_foldable None = refl
  same_foldable (Some (Argument b i)) = refl
  same_foldable (Some (Result k i)) = same_entries k

  fewer : (v : ℕ) → v < length t.definitions → counts_as_foldable t' v ≡ true → counts_as_foldable t v ≡ true
  fewer v lt e =
      let d : definition_of t' v ≡ definition_of t v = h.definitions v lt in
      let foldable : is_foldable t (definition_of t v) ≡ true = sym (same_foldable (definition_of t v)) ∙ ap (is_foldable t') (sym d) ∙ and_right (is_used t' v) (is_foldable t' (definition_of t' v)) e in
      let used : IsUsed t v = ⊎_elim (λ u. u) by_new (used_back v (told_used t' v (and_left (is_used t' v) (is_foldable t' (definition_of t' v)) e))) in
      and_both (is_used t v) (is_foldable t (definition_of t v)) (used_told t v used) foldable
    where
      by_new : v ≡ new → IsUsed t v
      by_new s = ⊎_elim
          (λ q. subst (IsUsed t) (sym s) q.1)
          (λ q. absurd (omega (arith, lt, s, q.1)))
          h.new_is

  deleted : counts_as_foldable t' old ≡ false
  deleted = not_true (counts_as_foldable t' old) (λ e. unused (told_used t' old (and_left (is_used t' old) (is_foldable t' (definition_of t' old)) e)))

  new_uncounted : definition_of t' (length t.definitions) ≡ Some (Result (length t.operations) 0) → counts_as_foldable t' (length t.definitions) ≡ false
  new_uncounted d = not_true (counts_as_foldable t' (length t.definitions)) (λ e. true≢false (sym (and_right (is_used t' (length t.definitions)) (is_foldable t' (definition_of t' (length t.definitions))) e) ∙ ap (is_foldable t') d ∙ ap has_entries new_empty))

  pub count_lessened : old < length t.definitions → counts_as_foldable t old ≡ true → foldable_count t' < foldable_count t
  unfolding foldable_count
  count_lessened lt counted =
      let less = count_less (λ v. counts_as_foldable t v) (λ v. counts_as_foldable t' v) (length t.definitions) old lt counted deleted fewer in
      ⊎_elim
      (λ q. subst (λ z. count_below (λ v. counts_as_foldable t' v) z < count_below (λ v. counts_as_foldable t v) (length t.definitions)) (sym q.0) less)
      (λ q. subst (λ z. count_below (λ v. counts_as_foldable t' v) z < count_below (λ v. counts_as_foldable t v) (length t.definitions)) (sym q.0)
      (subst (λ b. (if b then 1 else 0) + count_below (λ v. counts_as_foldable t' v) (length t.definitions) < count_below (λ v. counts_as_foldable t v) (length t.definitions)) (sym (new_uncounted q.2)) (subst (λ z. z < count_below (λ v. counts_as_foldable t v) (length t.definitions)) (sym (zero_more (count_below (λ v. counts_as_foldable t' v) (length t.definitions)))) less)))
      h.new_is
    where
      zero_more : (x : ℕ) → 0 + x ≡ x
      zero_more x = omega arith

  -- places
  regions_same : (k : ℕ) → regions_of t' k ≡ regions_of t k
  regions_same k = ⊎_elim
      (λ e. ap (regions_of t') e ∙ h.childless ∙ sym (ap (λ r. r.regions) no_row) ∙ ap (regions_of t) (sym e))
      (λ ne. ap (λ r. r.regions) (h.rows k ne))
      (cases k (length t.operations))

  holder_old : (k r : ℕ) → In r (regions_of t k) → k ≢ length t.operations
  holder_old k r i e = subst (In r) (ap (regions_of t) e ∙ ap (λ z. z.regions) no_row) i

  same_ssa : (k r : ℕ) → In r (regions_of t k) → has_ssa t' r ≡ has_ssa t r
  same_ssa k r i =
      let x = slice_in (regions_of t k) r i in
      let y = slice_in (regions_of t' k) r (subst (In r) (sym (regions_same k)) i) in
      let here : region_parent_of t r ≡ Some k = ap op_of_slot (h.tree.joined.regions k x.0 r x.1) in
      let there : region_parent_of t' r ≡ Some k = ap op_of_slot (h.after.joined.regions k y.0 r y.1) in
      ap (has_ssa_at t') there ∙ ap (λ z. ssa_in z.head) (h.rows k (holder_old k r i)) ∙ sym (ap (has_ssa_at t) here)

  path_forth : (a b : ℕ) (before : List ℕ) → Path t a b before → Path t' a b before
  path_forth a b [] p = p
  path_forth a b (c ∷ before) p = (record { successor = subst (In b) (sym (h.alike.successors c)) p.0.successor; same_region = h.homes b ∙ p.0.same_region ∙ sym (h.homes c) }, path_forth a c before p.1)

  path_back : (a b : ℕ) (before : List ℕ) → Path t' a b before → Path t a b before
  path_back a b [] p = p
  path_back a b (c ∷ before) p = (record { successor = subst (In b) (h.alike.successors c) p.0.successor; same_region = sym (h.homes b) ∙ p.0.same_region ∙ h.homes c }, path_back a c before p.1)

  reached_forth : (r c : ℕ) → IsOnPathIn t r c → IsOnPathIn t' r c
  reached_forth r c x = (x.0, ap (λ l. first_of l None) (h.alike.layouts r) ∙ x.1, x.2, path_forth x.0 c x.2 x.3)

  reached_back : (r c : ℕ) → IsOnPathIn t' r c → IsOnPathIn t r c
  reached_back r c x = (x.0, ap (λ l. first_of l None) (sym (h.alike.layouts r)) ∙ x.1, x.2, path_back x.0 c x.2 x.3)

  looked_forth : (d : Bool) (r c : ℕ) → IsVisitedBlockFromIf d t r c → IsVisitedBlockFromIf d t' r c
  looked_forth true r c x = reached_forth r c x
  looked_forth false r c x = ap (λ l. first_of l None) (h.alike.layouts r) ∙ x

  looked_back : (d : Bool) (r c : ℕ) → IsVisitedBlockFromIf d t' r c → IsVisitedBlockFromIf d t r c
  looked_back true r c x = reached_back r c x
  looked_back false r c x = ap (λ l. first_of l None) (sym (h.alike.layouts r)) ∙ x

  module _ (root : ℕ) where
    holder : (r : ℕ) → IsVisitedFrom t root r → (k : ℕ) × In r (regions_of t k)
    holder r (Starts i) = (root, i)
    holder r (Nested outer c k v l p i) = (k, i)

    visited_ssa : (r : ℕ) → IsVisitedFrom t root r → has_ssa t' r ≡ has_ssa t r
    visited_ssa r v = let x = holder r v in same_ssa x.0 r x.1

    visited_forth : (r : ℕ) → IsVisitedFrom t root r → IsVisitedFrom t' root r
    visited_forth r (Starts i) = Starts (subst (In r) (sym (regions_same root)) i)
    visited_forth r (Nested outer c k v l p i) = Nested outer c k (visited_forth outer v) (subst (λ d. IsVisitedBlockFromIf d t' outer c) (sym (visited_ssa outer v)) (looked_forth (has_ssa t outer) outer c l)) (h.parents k (holder_old k r i) ∙ p) (subst (In r) (sym (regions_same k)) i)

    visited_back : (r : ℕ) → IsVisitedFrom t' root r → IsVisitedFrom t root r
    visited_back r (Starts i) = Starts (subst (In r) (regions_same root) i)
    visited_back r (Nested outer c k v l p i) =
        let before = visited_back outer v in
        let held = subst (In r) (regions_same k) i in
        Nested outer c k before (looked_back (has_ssa t outer) outer c (subst (λ d. IsVisitedBlockFromIf d t' outer c) (visited_ssa outer before) l)) (sym (h.parents k (holder_old k r held)) ∙ p) held

    pub seen_forth : (k : ℕ) → IsSeen t root k → IsSeen t' root k
    seen_forth k x = record {
      block = x.block;
      region = x.region;
      in_block = h.parents k (not_new k (h.tree.joined.all_in_place k x.block x.in_block).0) ∙ x.in_block;
      in_region = h.homes x.block ∙ x.in_region;
      visited = visited_forth x.region x.visited;
      dominance = subst IsTrue (sym (visited_ssa x.region x.visited)) x.dominance;
      reached = reached_forth x.region x.block x.reached;
    }

    seen_beside : (k j : ℕ) (x : IsSeen t' root k) → parent_of t j ≡ Some x.block → IsSeen t root j
    seen_beside k j x at =
        let before = visited_back x.region x.visited in
        record {
          block = x.block;
          region = x.region;
          in_block = at;
          in_region = sym (h.homes x.block) ∙ x.in_region;
          visited = before;
          dominance = subst IsTrue (visited_ssa x.region before) x.dominance;
          reached = reached_back x.region x.block x.reached;
        }

    pub seen_back : (k : ℕ) → IsSeen t' root k → IsSeen t root k ⊎ (operands_of t' k ≡ [])
    seen_back k x = ⊎_elim
        (λ e. inr (ap (operands_of t') e ∙ new_empty))
        (λ ne. inl (seen_beside k k x (sym (h.parents k ne) ∙ x.in_block)))
        (cases k (length t.operations))

    -- an operation that was there stands beside one that is there
    home_before : (k b : ℕ) → parent_of t' k ≡ Some b → (j : ℕ) × (parent_of t j ≡ Some b)
    home_before k b at = ⊎_elim
        (λ e. h.beside b (subst (λ z. parent_of t' z ≡ Some b) e at))
        (λ ne. (k, sym (h.parents k ne) ∙ at))
        (cases k (length t.operations))

    pub blocks_seen : (b : ℕ) → IsSeenBlock t' root b ↔ IsSeenBlock t root b
    blocks_seen b = (back, forth)
      where
        back : IsSeenBlock t' root b → IsSeenBlock t root b
        back s =
            let same : s.1.block ≡ b = some_is (sym s.1.in_block ∙ s.2) in
            let j = home_before s.0 b s.2 in
            (j.0, seen_beside s.0 j.0 s.1 (j.1 ∙ ap Some (sym same)), j.1)

        forth : IsSeenBlock t root b → IsSeenBlock t' root b
        forth s = (s.0, seen_forth s.0 s.1, h.parents s.0 (not_new s.0 (h.tree.joined.all_in_place s.0 b s.2).0) ∙ s.2)

-- to a value that is used
pub moves_to_used : (t : Tree) (old new : ℕ) → IsTree t → IsDefined t new → old ≢ new → IsUsed t new → Moves t (after_replacing t old new) old new
moves_to_used t old new w d ne u = record {
  tree = w;
  after = tree_kept t old new w d;
  apart = ne;
  operands = operands_replaced t old new;
  rows = λ k other. refl;
  childless = ap (λ z. z.regions) (get_or_past t.operations (length t.operations) no_entry (omega arith));
  parents = λ k other. refl;
  homes = λ b. refl;
  arguments = λ b. refl;
  beside = λ b at. (length t.operations, at);
  alike = record { grows = omega arith; regions = λ op. refl; layouts = λ r. refl; successors = λ b. refl; bodies = λ b. refl };
  definitions = λ v lt. refl;
  new_is = inl (refl, u);
}

-- to a constant that is put before an operation
pub moves_to_constant : (t : Tree) (k old block : ℕ) (head : Head) → IsTree t → parent_of t k ≡ Some block → old < length t.definitions → Moves t (after_materialising t k old head) old (length t.definitions)
moves_to_constant t k old block head w at lt = subst (λ z. Moves t z old (length t.definitions)) (sym (put_is t k old block head w at)) done
  where
    made : Tree
    made = after_creating t head 1 0

    done : Moves t (after_replacing (after_placing (after_creating t head 1 0) (length t.operations) block (put_before k (length t.operations) (body_of t block))) old (length t.definitions)) old (length t.definitions)
    done = record {
      tree = w;
      after = tree_put t k old block head w at;
      apart = λ e. omega (arith, lt, e);
      operands = λ j. get_map (map (replace_target old (length t.definitions))) refl (after_creating t head 1 0).operands j ∙ ap (map (replace_target old (length t.definitions))) (get_grown t.operands [] j);
      rows = λ j ne. (created_beside t head 1 0 w).operations j ne;
      childless = ap (λ z. z.regions) (made_row t (after_creating t head 1 0) (length t.operations) head refl refl);
      parents = λ j ne. get_or-set_other (after_creating t head 1 0).parents (length t.operations) j (Some block) None ne ∙ (created_beside t head 1 0 w).parents j ne;
      homes = λ b. refl;
      arguments = λ b. refl;
      beside = λ b here. (k, at ∙ sym placed ∙ here);
      alike = subst (EdgesAlike t) (put_is t k old block head w at) (put_alike t k old block head w at);
      definitions = λ v l.
          let here = slice_get-get_or t.definitions v (Result 0 0) l in
          (created_beside t head 1 0 w).definitions v (get_or t.definitions v (Result 0 0)) here ∙ sym here;
      new_is = inr (longer, refl, fresh);
    }
      where
        placed : parent_of (after_placing (after_creating t head 1 0) (length t.operations) block (put_before k (length t.operations) (body_of t block))) (length t.operations) ≡ Some block
        placed = get_or-set_same (after_creating t head 1 0).parents (length t.operations) (Some block) None (let e = w.keys.parents in let l = length-append t.parents (None ∷ []) in omega (arith, e, l))

        longer : length (t.definitions ++ Result (length t.operations) 0 ∷ []) ≡ suc (length t.definitions)
        longer = let l = length-append t.definitions (Result (length t.operations) 0 ∷ []) in omega (arith, l)

        fresh : slice_get (t.definitions ++ Result (length t.operations) 0 ∷ []) (length t.definitions) ≡ Some (Result (length t.operations) 0)
        fresh = let z : length t.definitions + 0 ≡ length t.definitions = omega arith in ap (slice_get (t.definitions ++ Result (length t.operations) 0 ∷ [])) (sym z) ∙ slice_get_added t.definitions (Result (length t.operations) 0 ∷ []) 0

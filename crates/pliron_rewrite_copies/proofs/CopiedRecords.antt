-- The records and shapes of operations and blocks, and those of their originals.
use Rattle.std.proofs.Common.{◌≡◌, ℕ, List, [], ◌∷◌, map, length, Option, Some, None, IsSome, slice_get, refl, sym, ap, ap₂, ◌∙◌, subst}
use Rattle.std.specs.Option.{option_map}
use Rattle.std.proofs.lemmas.List.{length-map}
use Rattle.std.proofs.lemmas.Option.{slice_get-map}
use Rattle.pliron_core.specs.Tree.{Tree, In, first_of, IsLive, head_of, successors_of, regions_of, arguments_of, block_parent_of, layout_of, region_parent_of}
use Rattle.pliron_core.specs.Invariant.{IsTree}
use Rattle.pliron_core.proofs.HoldingLemmas.{some_is, some_of, in_slice, slice_in}
use Rattle.pliron_core.proofs.NeighbourLemmas.{first_of-In}
use Rattle.pliron_laws.specs.Datum.{Head, Shape, Meaning}
use Rattle.pliron_laws.specs.Tree.{Operation, Block, op_at, block_at, and_block, entry_block, count_arguments, unless, shape_of}
use Rattle.pliron_laws.specs.Machine.{entry_in, block_in}
use Rattle.pliron_laws.proofs.Records.{op_shows, operation_of, block_of, make_op, make_block, region_entry}
use Rattle.pliron_rewrite_copies.specs.Copies.{Originals, HasOriginals}
use Rattle.pliron_rewrite_copies.proofs.Maps.{slice_map, map_map}
use Rattle.pliron_rewrite_copies.proofs.Covered.{region_forth}

-- the record of an operation, and that of its original
pub record ShowsOriginal (o : Originals) (x y : Operation) : Type 0 where
  pub head : y.head ≡ x.head
  pub operands : y.operands ≡ map o.value x.operands
  pub results : y.results ≡ map o.value x.results
  pub successors : y.successors ≡ map o.block x.successors
  pub regions : y.regions ≡ map o.region x.regions

-- the block, if there is one, and its original
abbrev pub IsOriginalBlock : Originals → Option Block → Option Block → Type 0
IsOriginalBlock o None None = Unit {0}
IsOriginalBlock o None (Some y) = ⊥
IsOriginalBlock o (Some x) None = ⊥
IsOriginalBlock o (Some x) (Some y) = (y.operations ≡ map o.operation x.operations) × (y.arguments ≡ map o.value x.arguments)

module _ (m : Meaning) (t u : Tree) (o : Originals) (w : IsTree t) (w' : IsTree u) (h : HasOriginals t u o) where
  live_of : (k : ℕ) (x : Operation) → op_at u k ≡ Some x → IsLive u k
  live_of k x e = subst IsSome (sym (op_shows u k x e).head) refl

  pub original_op : (k : ℕ) (x : Operation) → op_at u k ≡ Some x → (y : Operation) × (op_at t (o.operation k) ≡ Some y)
  original_op k x e = (operation_of t (o.operation k) x.head, make_op t (o.operation k) x.head ((h.operations k (live_of k x e)).head ∙ (op_shows u k x e).head))

  pub shows_original : (k : ℕ) (x y : Operation) → op_at u k ≡ Some x → op_at t (o.operation k) ≡ Some y → ShowsOriginal o x y
  shows_original k x y e f =
      let s = op_shows u k x e in
      let r = op_shows t (o.operation k) y f in
      let c = h.operations k (live_of k x e) in
      record {
        head = some_is (sym r.head ∙ c.head ∙ s.head);
        operands = sym r.operands ∙ c.operands ∙ ap (map o.value) s.operands;
        results = sym r.results ∙ c.results ∙ ap (map o.value) s.results;
        successors = sym r.successors ∙ c.successors ∙ ap (map o.block) s.successors;
        regions = sym r.regions ∙ c.regions ∙ ap (map o.region) s.regions;
      }

  pub block_original : (b r : ℕ) → block_parent_of u b ≡ Some r → IsOriginalBlock o (block_at u b) (block_at t (o.block b))
  block_original b r e =
      let c = h.blocks b r e in
      subst (λ z. IsOriginalBlock o z (block_at t (o.block b))) (sym (make_block u b r e)) (subst (λ z. IsOriginalBlock o (Some (block_of u b r)) z) (sym (make_block t (o.block b) (o.region r) c.parent)) (c.body, c.arguments))

  pub target_original : (k i b : ℕ) (x : Operation) → op_at u k ≡ Some x → slice_get x.successors i ≡ Some b → IsOriginalBlock o (block_at u b) (block_at t (o.block b))
  target_original k i b x e s =
      let r = some_of (block_parent_of u b) (w'.joined.successors k b (subst (In b) (sym (op_shows u k x e).successors) (in_slice x.successors i b s))) in
      block_original b r.0 r.1

  pub entry_original : (k i r : ℕ) (x : Operation) → op_at u k ≡ Some x → slice_get x.regions i ≡ Some r → IsOriginalBlock o (entry_block u r) (entry_block t (o.region r))
  entry_original k i r x e s =
      let listed : slice_get (regions_of u k) i ≡ Some r = ap (λ l. slice_get l i) (op_shows u k x e).regions ∙ s in
      let p = region_forth t u o w w' h k i r listed in
      subst (λ z. IsOriginalBlock o z (entry_block t (o.region r))) (sym (region_entry u r k p.0))
      (subst (λ z. IsOriginalBlock o (and_block u (first_of (layout_of u r) None)) z) (sym (region_entry t (o.region r) (o.operation k) p.1))
      (subst (λ z. IsOriginalBlock o (and_block u (first_of (layout_of u r) None)) (and_block t z)) (sym (h.entries k r (in_slice (regions_of u k) i r listed))) (go (first_of (layout_of u r) None) refl)))
    where
      go : (z : Option ℕ) → first_of (layout_of u r) None ≡ z → IsOriginalBlock o (and_block u z) (and_block t (option_map o.block z))
      go None q = tt
      go (Some b) q = block_original b r (w'.layouts.owned b r (first_of-In b (layout_of u r) q))

  count_original : (x y : Option Block) → IsOriginalBlock o x y → count_arguments y ≡ count_arguments x
  count_original None None s = refl
  count_original None (Some y) s = absurd s
  count_original (Some x) None s = absurd s
  count_original (Some x) (Some y) s = ap length s.1 ∙ length-map x.arguments o.value

  -- an operation has the shape of its original
  pub shape_original : (k : ℕ) (x y : Operation) → op_at u k ≡ Some x → op_at t (o.operation k) ≡ Some y → shape_of m t y ≡ shape_of m u x
  unfolding shape_of
  shape_original k x y e f =
      let s = shows_original k x y e f in
      let operands : length y.operands ≡ length x.operands = ap length s.operands ∙ length-map x.operands o.value in
      let results : length y.results ≡ length x.results = ap length s.results ∙ length-map x.results o.value in
      let successors : length y.successors ≡ length x.successors = ap length s.successors ∙ length-map x.successors o.block in
      let entries : map (λ r. count_arguments (entry_block t r)) y.regions ≡ map (λ r. count_arguments (entry_block u r)) x.regions =
      ap (map (λ r. count_arguments (entry_block t r))) s.regions ∙ map_map (λ r. count_arguments (entry_block t r)) (λ r. count_arguments (entry_block u r)) o.region x.regions (λ r i. let j = slice_in x.regions r i in count_original _ _ (entry_original k j.0 r x e j.1)) in
      let targets : map (λ b. count_arguments (block_at t b)) y.successors ≡ map (λ b. count_arguments (block_at u b)) x.successors =
      ap (map (λ b. count_arguments (block_at t b))) s.successors ∙ map_map (λ b. count_arguments (block_at t b)) (λ b. count_arguments (block_at u b)) o.block x.successors (λ b i. let j = slice_in x.successors b i in count_original _ _ (target_original k j.0 b x e j.1)) in
      let branches : unless (m.is_branch y.head) (map (λ b. count_arguments (block_at t b)) y.successors) ≡ unless (m.is_branch x.head) (map (λ b. count_arguments (block_at u b)) x.successors) = ap₂ (λ z l. unless (m.is_branch z) l) s.head targets in
      built s.head operands results successors entries branches
    where
      built : {a b : Head} → {c d e f g i : ℕ} → {j k : List ℕ} → {l n : Option (List ℕ)} → a ≡ b → c ≡ d → e ≡ f → g ≡ i → j ≡ k → l ≡ n
          → ◌≡◌ {A = Shape} (record { head = a; operands = c; results = e; successors = g; entry_arguments = j; target_arguments = l }) (record { head = b; operands = d; results = f; successors = i; entry_arguments = k; target_arguments = n })
      built p q r s t u = cc

  -- what the indices of regions and successors lead to
  pub entries_original : (k i : ℕ) (x y : Operation) → op_at u k ≡ Some x → op_at t (o.operation k) ≡ Some y → IsOriginalBlock o (entry_in u (slice_get x.regions i)) (entry_in t (slice_get y.regions i))
  entries_original k i x y e f = subst (λ l. IsOriginalBlock o (entry_in u (slice_get x.regions i)) (entry_in t (slice_get l i))) (sym (shows_original k x y e f).regions) (go (slice_get x.regions i) refl (slice_get (map o.region x.regions) i) (slice_get-map o.region x.regions i))
    where
      go : (z : Option ℕ) → slice_get x.regions i ≡ z → (z' : Option ℕ) → z' ≡ option_map o.region (slice_get x.regions i) → IsOriginalBlock o (entry_in u z) (entry_in t z')
      go None q z' s = subst (λ v. IsOriginalBlock o None (entry_in t v)) (sym (s ∙ ap (option_map o.region) q)) tt
      go (Some r) q z' s = subst (λ v. IsOriginalBlock o (entry_block u r) (entry_in t v)) (sym (s ∙ ap (option_map o.region) q)) (entry_original k i r x e q)

  pub targets_original : (k i : ℕ) (x y : Operation) → op_at u k ≡ Some x → op_at t (o.operation k) ≡ Some y → IsOriginalBlock o (block_in u (slice_get x.successors i)) (block_in t (slice_get y.successors i))
  targets_original k i x y e f = subst (λ l. IsOriginalBlock o (block_in u (slice_get x.successors i)) (block_in t (slice_get l i))) (sym (shows_original k x y e f).successors) (go (slice_get x.successors i) refl (slice_get (map o.block x.successors) i) (slice_get-map o.block x.successors i))
    where
      go : (z : Option ℕ) → slice_get x.successors i ≡ z → (z' : Option ℕ) → z' ≡ option_map o.block (slice_get x.successors i) → IsOriginalBlock o (block_in u z) (block_in t z')
      go None q z' s = subst (λ v. IsOriginalBlock o None (block_in t v)) (sym (s ∙ ap (option_map o.block) q)) tt
      go (Some b) q z' s = subst (λ v. IsOriginalBlock o (block_at u b) (block_in t v)) (sym (s ∙ ap (option_map o.block) q)) (target_original k i b x e q)

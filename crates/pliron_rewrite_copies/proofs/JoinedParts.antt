-- The copies of what is inside a root, and of the paths there.
use Rattle.std.proofs.Common.{◌≡◌, ◌≢◌, ◌⊎◌, inl, inr, ⊎_elim, ℕ, List, [], ◌∷◌, ◌++◌, map, length, Option, Some, None, IsSome, IsTrue, slice_get, refl, sym, ap, ap₂, ◌∙◌, subst}
use Rattle.std.specs.Option.{option_map}
use Rattle.std.proofs.lemmas.List.{length-map}
use Rattle.pliron_core.specs.declared.context.Def.{Def}
use Rattle.pliron_core.specs.declared.context.Def.TheVariants.{Result, Argument}
use Rattle.pliron_core.specs.Changes.{IsDefinedInside, IsDefiningOperationInside}
use Rattle.pliron_core.specs.Edges.{succs_of, succs_from}
use Rattle.pliron_core.specs.Reads.{has_ssa, has_ssa_at, ssa_in}
use Rattle.pliron_core.specs.Tree.{Tree, In, first_of, last_of, IsLive, IsMadeBy, IsInside, IsInside.Directly, IsInside.Deeper, IsWithin, HoldsBlock, head_of, operands_of, successors_of, results_of, regions_of, parent_of, body_of, arguments_of, block_parent_of, layout_of, region_parent_of, block_parent_operation_of, parent_operation_of, definition_of, up_from}
use Rattle.pliron_core.specs.Invariant.{IsTree}
use Rattle.pliron_core.proofs.HoldingLemmas.{some_is, some_of, not_none, in_slice, slice_in, region_by, region_live, result_live, argument_stands, maker_is, holder_is, holder_by, inside_up, inside_by, block_held, not_itself}
use Rattle.pliron_core.proofs.ListLemmas.{In-right}
use Rattle.pliron_core.proofs.NeighbourLemmas.{last_of-In, first_of-In}
use Rattle.pliron_laws.specs.Datum.{Head, Meaning}
use Rattle.pliron_laws.specs.Tree.{Operation, op_at, shape_of}
use Rattle.pliron_laws.specs.Paths.{Path, Leads}
use Rattle.pliron_laws.specs.Root.{defining_block, HasPassed, IsDominated, WellDefined}
use Rattle.pliron_laws.specs.Linked.{EndsBlock, IsAdmitted, IsWellLinked}
use Rattle.pliron_theory.specs.Keeps.{IsFit}
use Rattle.pliron_laws.proofs.Records.{op_shows, operation_of, make_op}
use Rattle.pliron_theory.proofs.SweptParts.{HasBlockPlace, block_place_of}
use Rattle.pliron_theory.proofs.Bound.{made_within}
use Rattle.pliron_rewrite_copies.specs.Copies.{Originals, HasOriginals, HasCopies}
use Rattle.pliron_rewrite_copies.proofs.Maps.{in_map, from_map, slice_map_back, last_map, map_split, option_map_some}
use Rattle.pliron_rewrite_copies.proofs.Holders.{compare, one_around}
use Rattle.pliron_rewrite_copies.proofs.Covered.{original_def, live_in, region_in, parent_forth, region_forth, block_holder_forth, holder_forth, inside_forth, within_forth, last_forth, def_forth, defining_forth, made_forth}
use Rattle.pliron_rewrite_copies.proofs.CopiedWays.{way_region}
use Rattle.pliron_rewrite_copies.proofs.CopiedRecords.{shows_original, shape_original}

module _ (m : Meaning) (t u : Tree) (o : Originals) (w : IsTree t) (w' : IsTree u) (h : HasOriginals t u o) (root : ℕ) (c : HasCopies t u o root) (g : IsFit m u root) (own : o.operation root ≡ root) where
  -- copies of what is inside

  -- what an original holds has a copy in each copy of it
  copy_step : (p k : ℕ) → IsLive u p → parent_operation_of t k ≡ Some (o.operation p) → (x : ℕ) × (parent_operation_of u x ≡ Some p) × (o.operation x ≡ k)
  copy_step p k live e =
      let q = holder_is t k (o.operation p) e in
      let place = block_place_of t w q.0 (o.operation p) q.2 in
      let r = slice_map_back o.region (regions_of u p) place.index place.region (ap (λ l. slice_get l place.index) (sym (h.operations p live).regions) ∙ place.listed) in
      let slot = w'.joined.regions p place.index r.0 r.1 in
      let b = c.blocks r.0 q.0 (region_by u r.0 _ slot r.1) (place.in_region ∙ ap Some (sym r.2)) in
      let x = from_map o.operation (body_of u b.0) k (subst (In k) (ap (body_of t) (sym b.2) ∙ (h.blocks b.0 r.0 b.1).body) (w.bodies.listed k q.0 q.1)) in
      let stands = w'.bodies.owned x.0 b.0 x.1 in
      (x.0, holder_by u x.0 b.0 p stands (ap (λ z. up_from z (λ s. region_parent_of u s)) b.1 ∙ (region_forth t u o w w' h p place.index r.0 r.1).0), x.2)

  pub live_held : (x p : ℕ) → parent_operation_of u x ≡ Some p → IsLive u x
  live_held x p e = let q = holder_is u x p e in live_in t u o w w' h x q.0 q.1

  copy_under : (a b : ℕ) → IsLive u a → o.operation a ≡ b → (k : ℕ) → IsInside t b k → (x : ℕ) × IsInside u a x × (o.operation x ≡ k)
  copy_under a b live s k (Directly e) = let x = copy_step a k live (e ∙ ap Some (sym s)) in (x.0, Directly x.1, x.2)
  copy_under a b live s k (Deeper p e i) =
      let y = copy_under a b live s p i in
      let up = inside_up y.1 in
      let x = copy_step y.0 k (live_held y.0 up.0 up.1) (e ∙ ap Some (sym y.2)) in
      (x.0, Deeper y.0 x.1 y.1, x.2)

  pub copy_within : (a k : ℕ) → IsLive u a → IsWithin t (o.operation a) k → (x : ℕ) × IsWithin u a x × (o.operation x ≡ k)
  copy_within a k live (inl e) = (a, inl refl, sym e)
  copy_within a k live (inr i) = let x = copy_under a (o.operation a) live refl k i in (x.0, inr x.1, x.2)

  pub copy_inside : (k : ℕ) → IsInside t root k → (x : ℕ) × IsInside u root x × (o.operation x ≡ k)
  copy_inside k i = copy_under root root g.live own k i

  pub live_inside : (k : ℕ) → IsInside u root k → IsLive u k
  live_inside k i = let up = inside_up i in live_held k up.0 up.1

  -- what is inside, seen from the copies
  pub inside_back : (k : ℕ) → IsLive u k → IsInside t root (o.operation k) → IsInside u root k
  inside_back k live i = go (c.inside k live (inr i))
    where
      go : IsWithin u root k → IsInside u root k
      go (inl e) = absurd (not_itself w.joined.rooted (subst (IsInside t root) (ap o.operation e ∙ own) i))
      go (inr j) = j

  pub block_back : (b : ℕ) (r : ℕ) → block_parent_of u b ≡ Some r → HoldsBlock t root (o.block b) → HoldsBlock u root b
  block_back b r e i =
      let q = block_held u b w'.joined (subst IsSome (sym e) refl) in
      let s : i.0 ≡ o.operation q.1 = some_is (sym i.1 ∙ block_holder_forth t u o w w' h b q.1 q.5) in
      (q.1, q.5, c.inside q.1 q.6 (subst (IsWithin t root) s i.2))

  made_back : (v : ℕ) (d : Def) → IsMadeBy u v (Some d) → IsDefiningOperationInside t root (Some (original_def o d)) → IsDefiningOperationInside u root (Some d)
  made_back v (Result k n) y i = inside_back k (result_live u w'.joined k n v y) i
  made_back v (Argument b n) y i = let r = some_of (block_parent_of u b) (argument_stands u w'.joined b n v y) in block_back b r.0 r.1 i

  pub made_original : (v : ℕ) → IsDefinedInside u root v → (d : Def) → definition_of u v ≡ Some d → IsMadeBy u v (Some d) → IsDefinedInside t root (o.value v)
  made_original v i d e y = subst (IsDefiningOperationInside t root) (sym (def_forth t u o w w' h v d y)) (subst (λ z. IsDefiningOperationInside t z (Some (original_def o d))) own (made_forth t u o w w' h root d (subst (IsDefiningOperationInside u root) e i)))

  pub made_copy : (v user : ℕ) → In v (operands_of u user) → IsDefinedInside t root (o.value v) → IsDefinedInside u root v
  made_copy v user i made =
      let y = maker_is u v (w'.joined.operands user v i) in
      subst (IsDefiningOperationInside u root) (sym y.1) (made_back v y.0 y.2 (subst (IsDefiningOperationInside t root) (def_forth t u o w w' h v y.0 y.2) made))

  -- an operand of the original is that of the copy
  pub operand_copy : (k v : ℕ) → IsLive u k → In v (operands_of t (o.operation k)) → (x : ℕ) × In x (operands_of u k) × (o.value x ≡ v)
  operand_copy k v live i = from_map o.value (operands_of u k) v (subst (In v) (h.operations k live).operands i)

  pub home_forth : (v user region : ℕ) → In v (operands_of u user) → up_from (defining_block u (definition_of u v)) (λ b. block_parent_of u b) ≡ Some region → up_from (defining_block t (definition_of t (o.value v))) (λ b. block_parent_of t b) ≡ Some (o.region region)
  home_forth v user region i e =
      let y = maker_is u v (w'.joined.operands user v i) in
      let b = block_of (defining_block u (definition_of u v)) e in
      ap (λ z. up_from z (λ b. block_parent_of t b)) (ap (defining_block t) (def_forth t u o w w' h v y.0 y.2) ∙ defining_forth t u o w w' h y.0 b.0 (ap (defining_block u) (sym y.1) ∙ b.1)) ∙ (h.blocks b.0 region b.2).parent
    where
      block_of : (z : Option ℕ) → up_from z (λ b. block_parent_of u b) ≡ Some region → (d : ℕ) × (z ≡ Some d) × (block_parent_of u d ≡ Some region)
      block_of None e = absurd (not_none e)
      block_of (Some d) e = (d, refl, e)

  pub passed_forth : (v user : ℕ) → In v (operands_of u user) → (before : List ℕ) (b : ℕ) (done : List ℕ) → HasPassed u (definition_of u v) before b done → HasPassed t (definition_of t (o.value v)) (map o.block before) (o.block b) (map o.operation done)
  passed_forth v user i before b done p =
      let y = maker_is u v (w'.joined.operands user v i) in
      subst (λ d. HasPassed t d (map o.block before) (o.block b) (map o.operation done)) (sym (def_forth t u o w w' h v y.0 y.2)) (go y.0 (subst (λ d. HasPassed u d before b done) y.1 p))
    where
      go : (d : Def) → HasPassed u (Some d) before b done → HasPassed t (Some (original_def o d)) (map o.block before) (o.block b) (map o.operation done)
      go (Argument e n) q = in_map o.block (b ∷ before) e q
      go (Result k n) (inl j) = inl (in_map o.operation done k j)
      go (Result k n) (inr x) = inr (o.block x.0, parent_forth t u o w w' h k x.0 x.1, in_map o.block before x.0 x.2)

  -- paths before have their like among the copies
  pub record HasCopy (entry b : ℕ) (before : List ℕ) : Type 0 where
    pub block : ℕ
    pub blocks : List ℕ
    pub path : Path u entry block blocks
    pub is_copy : o.block block ≡ b
    pub are_copies : map o.block blocks ≡ before

  module _ (region holder entry : ℕ) (held : region_parent_of u region ≡ Some holder) (inner : IsWithin u root holder) (first : first_of (layout_of u region) None ≡ Some entry) where
    entry_in : block_parent_of u entry ≡ Some region
    entry_in = w'.layouts.owned entry region (first_of-In entry (layout_of u region) first)

    pub from_entry : (b : ℕ) (before : List ℕ) → Path u entry b before → block_parent_of u b ≡ Some region
    from_entry b [] p = ap (block_parent_of u) (sym p) ∙ entry_in
    from_entry b (x ∷ before) p = p.0.same_region ∙ from_entry x before p.1

    leads_copy : (x b : ℕ) → block_parent_of u x ≡ Some region → Leads t (o.block x) b → (y : ℕ) × Leads u x y × (o.block y ≡ b)
    leads_copy x b ex l = go (last_of None (body_of u x)) refl l.successor
      where
        body : last_of None (body_of t (o.block x)) ≡ option_map o.operation (last_of None (body_of u x))
        body = ap (last_of None) (h.blocks x region ex).body ∙ last_map o.operation None (body_of u x)

        go : (z : Option ℕ) → last_of None (body_of u x) ≡ z → In b (succs_of t (o.block x)) → (y : ℕ) × Leads u x y × (o.block y ≡ b)
        go None q i = absurd (subst (λ z. In b (succs_from t z)) (body ∙ ap (option_map o.operation) q) i)
        go (Some k) q i =
            let stands = w'.bodies.owned k x (last_of-In k (body_of u x) q) in
            let live = live_in t u o w w' h k x stands in
            let y = from_map o.block (successors_of u k) b (subst (In b) (h.operations k live).successors (subst (λ z. In b (succs_from t z)) (body ∙ ap (option_map o.operation) q) i)) in
            let ends = g.linked.edges k y.0 y.1 (inl (inside_by holder (holder_by u k x holder stands (ap (λ z. up_from z (λ s. region_parent_of u s)) ex ∙ held)) inner)) in
            let here : ends.block ≡ x = some_is (sym ends.in_block ∙ stands) in
            (y.0, record { successor = subst (λ z. In y.0 (succs_from u z)) (sym q) y.1; same_region = ends.own_region y.0 y.1 ∙ ap (block_parent_of u) here }, y.2)

    pub has_copy : (b : ℕ) (before : List ℕ) → Path t (o.block entry) b before → HasCopy entry b before
    has_copy b [] p = record { block = entry; blocks = []; path = refl; is_copy = p; are_copies = refl }
    has_copy b (x ∷ before) p =
        let y = has_copy x before p.1 in
        let z = leads_copy y.block b (from_entry y.block y.blocks y.path) (subst (λ a. Leads t a b) (sym y.is_copy) p.0) in
        record { block = z.0; blocks = y.block ∷ y.blocks; path = (z.1, y.path); is_copy = z.2; are_copies = ap₂ (λ a l. a ∷ l) y.is_copy y.are_copies }

  -- operations around one that have one original are one
  pub same_around : (a b k : ℕ) → IsWithin u a k → IsWithin u b k → o.operation a ≡ o.operation b → a ≡ b
  same_around a b k i (inl e) s = below i
    where
      below : IsWithin u a k → a ≡ b
      below (inl f) = sym f ∙ e
      below (inr j) = absurd (not_itself w.joined.rooted (subst (IsInside t (o.operation a)) (ap o.operation e ∙ sym s) (inside_forth t u o w w' h a k j)))
  same_around a b k i (inr j) s = between (compare u w'.joined.rooted a b k i j)
    where
      between : IsInside u b a ⊎ IsWithin u a b → a ≡ b
      between (inl x) = absurd (not_itself w.joined.rooted (subst (λ z. IsInside t z (o.operation a)) (sym s) (inside_forth t u o w w' h b a x)))
      between (inr (inl e)) = sym e
      between (inr (inr x)) = absurd (not_itself w.joined.rooted (subst (IsInside t (o.operation a)) (sym s) (inside_forth t u o w w' h a b x)))

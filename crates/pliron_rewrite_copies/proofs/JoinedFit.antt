-- A root that is fit to run with copies is so without them.
use Rattle.std.proofs.Common.{◌≡◌, ◌≢◌, ◌⊎◌, inl, inr, ⊎_elim, ℕ, List, [], ◌∷◌, ◌++◌, map, length, Option, Some, None, IsSome, IsTrue, slice_get, refl, sym, ap, ap₂, ◌∙◌, subst}
use Rattle.std.specs.Option.{option_map}
use Rattle.std.proofs.lemmas.List.{length-map}
use Rattle.pliron_core.specs.declared.context.Def.{Def}
use Rattle.pliron_core.specs.declared.context.Def.TheVariants.{Result, Argument}
use Rattle.pliron_core.specs.Changes.{IsDefinedInside, IsDefiningOperationInside}
use Rattle.pliron_core.specs.Edges.{succs_of, succs_from}
use Rattle.pliron_core.specs.Reads.{has_ssa, has_ssa_at, ssa_in}
use Rattle.pliron_core.specs.Tree.{Tree, In, first_of, last_of, IsLive, IsMadeBy, IsInside, IsInside.Directly, IsInside.Deeper, IsWithin, HoldsBlock, head_of, operands_of, successors_of, results_of, regions_of, parent_of, body_of, arguments_of, block_parent_of, layout_of, region_parent_of, block_parent_operation_of, parent_operation_of, definition_of, up_from}
use Rattle.pliron_core.specs.Invariant.{IsTree}
use Rattle.pliron_core.proofs.HoldingLemmas.{some_is, some_of, not_none, in_slice, slice_in, region_by, region_live, result_live, argument_stands, maker_is, holder_is, holder_by, inside_up, inside_by, block_held, not_itself}
use Rattle.pliron_core.proofs.ListLemmas.{In-right}
use Rattle.pliron_core.proofs.NeighbourLemmas.{last_of-In, first_of-In}
use Rattle.pliron_laws.specs.Datum.{Head, Meaning}
use Rattle.pliron_laws.specs.Tree.{Operation, op_at, shape_of}
use Rattle.pliron_laws.specs.Paths.{Path, Leads}
use Rattle.pliron_laws.specs.Root.{defining_block, HasPassed, IsDominated, WellDefined}
use Rattle.pliron_laws.specs.Linked.{EndsBlock, IsAdmitted, IsWellLinked}
use Rattle.pliron_theory.specs.Keeps.{IsFit}
use Rattle.pliron_laws.proofs.Records.{op_shows, operation_of, make_op}
use Rattle.pliron_theory.proofs.SweptParts.{HasBlockPlace, block_place_of}
use Rattle.pliron_theory.proofs.Bound.{made_within}
use Rattle.pliron_rewrite_copies.specs.Copies.{Originals, HasOriginals, HasCopies}
use Rattle.pliron_rewrite_copies.proofs.Maps.{in_map, from_map, slice_map_back, last_map, map_split, option_map_some}
use Rattle.pliron_rewrite_copies.proofs.Holders.{compare, one_around}
use Rattle.pliron_rewrite_copies.proofs.Covered.{original_def, live_in, region_in, parent_forth, region_forth, block_holder_forth, holder_forth, inside_forth, within_forth, last_forth, def_forth, defining_forth, made_forth}
use Rattle.pliron_rewrite_copies.proofs.JoinedParts.{copy_inside, copy_within, live_held, live_inside, inside_back, block_back, made_original, made_copy, operand_copy, home_forth, passed_forth, from_entry, has_copy, same_around, HasCopy}
use Rattle.pliron_rewrite_copies.proofs.CopiedRecords.{shows_original, shape_original}

module _ (m : Meaning) (t u : Tree) (o : Originals) (w : IsTree t) (w' : IsTree u) (h : HasOriginals t u o) (root : ℕ) (c : HasCopies t u o root) (g : IsFit m u root) (own : o.operation root ≡ root) where
  -- where a use stands
  pub record Spot (around block region : ℕ) : Type 0 where
    pub holder : ℕ
    pub held : region_parent_of u region ≡ Some holder
    pub around_held : parent_operation_of u around ≡ Some holder
    pub listed : In region (regions_of u holder)

  spot : (around block region : ℕ) → parent_of u around ≡ Some block → block_parent_of u block ≡ Some region → Spot around block region
  spot around block region e q =
      let x = block_held u block w'.joined (subst IsSome (sym q) refl) in
      let p = block_place_of u w' block x.1 x.5 in
      record {
        holder = x.1;
        held = ap (λ z. up_from z (λ s. region_parent_of u s)) (sym q) ∙ x.5;
        around_held = holder_by u around block x.1 e x.5;
        listed = subst (λ r. In r (regions_of u x.1)) (some_is (sym p.in_region ∙ q)) (in_slice (regions_of u x.1) p.index p.region p.listed);
      }

  -- the region of a place, seen from the original
  spot_before : (around block region : ℕ) (s : Spot around block region) → region_parent_of t (o.region region) ≡ Some (o.operation s.holder)
  spot_before around block region s = let j = slice_in (regions_of u s.holder) region s.listed in (region_forth t u o w w' h s.holder j.0 region j.1).1

  module _ (user v : ℕ) (live : IsLive u user) (i : In v (operands_of u user)) (made : IsDefinedInside t root (o.value v)) where
    d : IsDominated u user v
    d = g.defined.dominated user v i (made_copy m t u o w w' h root c g own v user i made)

    s : Spot d.around d.block d.region
    s = spot d.around d.block d.region d.in_block d.in_region

    inner : IsWithin u root s.holder
    inner =
        let j = slice_in (regions_of u s.holder) d.region s.listed in
        c.inside s.holder (region_live u w'.joined s.holder j.0 d.region j.1) (made_within t root (o.region d.region) (o.operation s.holder) (definition_of t (o.value v)) (spot_before d.around d.block d.region s) (home_forth m t u o w w' h root c g own v user d.region i d.defined) made)

    -- a path before comes to a copy of the user's block, where a copy of the user is
    module _ (entry a : ℕ) (before done rest : List ℕ) (first : first_of (layout_of u d.region) None ≡ Some a) (y : HasCopy m t u o w w' h root c g own a (o.block d.block) before) (be : body_of t (o.block d.block) ≡ done ++ o.operation d.around ∷ rest) where
      in_region : block_parent_of u y.block ≡ Some d.region
      in_region = from_entry m t u o w w' h root c g own d.region s.holder a s.held inner first y.block y.blocks y.path

      split : (front : List ℕ) × (x : ℕ) × (back : List ℕ) × (body_of u y.block ≡ front ++ x ∷ back) × (map o.operation front ≡ done) × (o.operation x ≡ o.operation d.around)
      split = map_split o.operation (body_of u y.block) done rest (o.operation d.around) (sym (h.blocks y.block d.region in_region).body ∙ ap (body_of t) y.is_copy ∙ be)

      stands : parent_of u split.1 ≡ Some y.block
      stands = w'.bodies.owned split.1 y.block (subst (In split.1) (sym split.3) (In-right split.1 split.0 (split.1 ∷ split.2) (inl refl)))

      other : (x : ℕ) × IsWithin u split.1 x × (o.operation x ≡ o.operation user)
      other = copy_within m t u o w w' h root c g own split.1 (o.operation user) (live_in t u o w w' h split.1 y.block stands) (subst (λ z. IsWithin t z (o.operation user)) (sym split.5) (within_forth t u o w w' h d.around user d.holds))

      other_live : IsLive u other.0
      other_live = go other.1
        where
          go : IsWithin u split.1 other.0 → IsLive u other.0
          go (inl e) = subst (IsLive u) (sym e) (live_in t u o w w' h split.1 y.block stands)
          go (inr j) = let up = inside_up j in live_held m t u o w w' h root c g own other.0 up.0 up.1

      operand : (x : ℕ) × In x (operands_of u other.0) × (o.value x ≡ o.value v)
      operand = operand_copy m t u o w w' h root c g own other.0 (o.value v) other_live (subst (λ k. In (o.value v) (operands_of t k)) (sym other.2) (subst (In (o.value v)) (sym (h.operations user live).operands) (in_map o.value (operands_of u user) v i)))

      e : IsDominated u other.0 operand.0
      e = g.defined.dominated other.0 operand.0 operand.1 (made_copy m t u o w w' h root c g own operand.0 other.0 operand.1 (subst (IsDefinedInside t root) (sym operand.2) made))

      e_spot : Spot e.around e.block e.region
      e_spot = spot e.around e.block e.region e.in_block e.in_region

      same_holder : o.operation e_spot.holder ≡ o.operation s.holder
      same_holder =
          let same : o.region e.region ≡ o.region d.region = some_is (sym (home_forth m t u o w w' h root c g own operand.0 other.0 e.region operand.1 e.defined) ∙ ap (λ z. up_from (defining_block t (definition_of t z)) (λ b. block_parent_of t b)) operand.2 ∙ home_forth m t u o w w' h root c g own v user d.region i d.defined) in
          some_is (sym (spot_before e.around e.block e.region e_spot) ∙ ap (region_parent_of t) same ∙ spot_before d.around d.block d.region s)

      same : e.around ≡ split.1
      same = same_around m t u o w w' h root c g own e.around split.1 other.0 e.holds other.1
          (one_around t w.joined.rooted (o.operation e.around) (o.operation split.1) (o.operation s.holder) (o.operation other.0) (holder_forth t u o w w' h e.around e_spot.holder e_spot.around_held ∙ ap Some same_holder) (holder_forth t u o w w' h split.1 s.holder (holder_by u split.1 y.block s.holder stands (ap (λ z. up_from z (λ r. region_parent_of u r)) in_region ∙ s.held))) (within_forth t u o w w' h e.around other.0 e.holds) (within_forth t u o w w' h split.1 other.0 other.1))

      same_block : e.block ≡ y.block
      same_block = some_is (sym e.in_block ∙ ap (parent_of u) same ∙ stands)

      same_region : e.region ≡ d.region
      same_region = some_is (sym e.in_region ∙ ap (block_parent_of u) same_block ∙ in_region)

      there : HasPassed u (definition_of u operand.0) y.blocks y.block split.0
      there = subst (λ b. HasPassed u (definition_of u operand.0) y.blocks b split.0) same_block (e.passes a y.blocks split.0 split.2 (ap (λ r. first_of (layout_of u r) None) same_region ∙ first) (subst (λ b. Path u a b y.blocks) (sym same_block) y.path) (ap (body_of u) same_block ∙ split.3 ∙ ap (λ k. split.0 ++ k ∷ split.2) (sym same)))

      passed : HasPassed t (definition_of t (o.value v)) before (o.block d.block) done
      passed =
          subst (λ l. HasPassed t (definition_of t (o.value v)) l (o.block d.block) done) y.are_copies
          (subst (λ b. HasPassed t (definition_of t (o.value v)) (map o.block y.blocks) b done) y.is_copy
          (subst (λ l. HasPassed t (definition_of t (o.value v)) (map o.block y.blocks) (o.block y.block) l) split.4
          (subst (λ z. HasPassed t (definition_of t z) (map o.block y.blocks) (o.block y.block) (map o.operation split.0)) operand.2
          (passed_forth m t u o w w' h root c g own operand.0 other.0 operand.1 y.blocks y.block split.0 there))))

    -- what comes to the original of the user's place passed the original of the definition
    passes : (entry : ℕ) (before done rest : List ℕ) → first_of (layout_of t (o.region d.region)) None ≡ Some entry → Path t entry (o.block d.block) before → body_of t (o.block d.block) ≡ done ++ o.operation d.around ∷ rest → HasPassed t (definition_of t (o.value v)) before (o.block d.block) done
    passes entry before done rest fe pe be =
        let a = option_map_some o.block (first_of (layout_of u d.region) None) entry (sym (h.entries s.holder d.region s.listed) ∙ fe) in
        passed entry a.0 before done rest a.1 (has_copy m t u o w w' h root c g own d.region s.holder a.0 s.held inner a.1 (o.block d.block) before (subst (λ z. Path t z (o.block d.block) before) (sym a.2) pe)) be

    pub dominated_original : IsDominated t (o.operation user) (o.value v)
    dominated_original = record {
      around = o.operation d.around;
      holds = within_forth t u o w w' h d.around user d.holds;
      block = o.block d.block;
      region = o.region d.region;
      in_block = parent_forth t u o w w' h d.around d.block d.in_block;
      in_region = (h.blocks d.block d.region d.in_region).parent;
      defined = home_forth m t u o w w' h root c g own v user d.region i d.defined;
      passes = passes;
    }

  live_user : (k v : ℕ) → In v (operands_of t k) → IsLive t k
  live_user k v i = go (head_of t k) refl
    where
      go : (z : Option Head) → head_of t k ≡ z → IsLive t k
      go None e = absurd (subst (In v) (w.joined.erased k e).0 i)
      go (Some x) e = subst IsSome (sym e) refl

  live_jumper : (k b : ℕ) → In b (successors_of t k) → IsLive t k
  live_jumper k b i = go (head_of t k) refl
    where
      go : (z : Option Head) → head_of t k ≡ z → IsLive t k
      go None e = absurd (subst (In b) (w.joined.erased k e).1 i)
      go (Some x) e = subst IsSome (sym e) refl

  copy_root : (k : ℕ) → IsWithin t root k → (x : ℕ) × IsWithin u root x × IsLive u x × (o.operation x ≡ k)
  copy_root k (inl e) = (root, inl refl, g.live, own ∙ sym e)
  copy_root k (inr i) = let x = copy_inside m t u o w w' h root c g own k i in (x.0, inr x.1, live_inside m t u o w w' h root c g own x.0 x.1, x.2)

  defined : WellDefined m t root
  defined = record {
    no_successors = ap (successors_of t) (sym own) ∙ (h.operations root g.live).successors ∙ ap (map o.block) g.defined.no_successors;
    own_values = own_values;
    dominance = ssa;
    forwards = forwards;
    terminators = terminators;
    unused = unused;
    dominated = dominated;
  }
    where
      own_values : (k v : ℕ) → IsInside t root k → In v (operands_of t k) → IsDefinedInside t root v
      own_values k v i j =
          let x = copy_inside m t u o w w' h root c g own k i in
          let y = operand_copy m t u o w w' h root c g own x.0 v (live_inside m t u o w w' h root c g own x.0 x.1) (subst (λ z. In v (operands_of t z)) (sym x.2) j) in
          let n = maker_is u y.0 (w'.joined.operands x.0 y.0 y.1) in
          subst (IsDefinedInside t root) y.2 (made_original m t u o w w' h root c g own y.0 (g.defined.own_values x.0 y.0 x.1 y.1) n.0 n.1 n.2)

      ssa : (k r : ℕ) → IsWithin t root k → In r (regions_of t k) → IsTrue (has_ssa t r)
      ssa k r i j =
          let x = copy_root k i in
          let z = from_map o.region (regions_of u x.0) r (subst (In r) (h.operations x.0 x.2).regions (subst (λ a. In r (regions_of t a)) (sym x.3) j)) in
          let n = slice_in (regions_of u x.0) z.0 z.1 in
          let p = region_forth t u o w w' h x.0 n.0 z.0 n.1 in
          let copied : IsTrue (has_ssa u z.0) = g.defined.dominance x.0 z.0 x.1 z.1 in
          subst (λ a. IsTrue (has_ssa t a)) z.2 (subst (λ a. IsTrue (has_ssa_at t a)) (sym p.1) (subst (λ a. IsTrue (ssa_in a)) (sym (h.operations x.0 x.2).head) (subst (λ a. IsTrue (has_ssa_at u a)) p.0 copied)))

      forwards : (k i b : ℕ) (y : Operation) → IsInside t root k → op_at t k ≡ Some y → IsTrue (m.is_branch y.head) → slice_get y.successors i ≡ Some b → length (m.forwarded (shape_of m t y) i) ≡ length (arguments_of t b)
      forwards k i b y ins e br s =
          let x = copy_inside m t u o w w' h root c g own k ins in
          let hd = some_of (head_of u x.0) (live_inside m t u o w w' h root c g own x.0 x.1) in
          let xe = make_op u x.0 hd.0 hd.1 in
          let ye : op_at t (o.operation x.0) ≡ Some y = ap (op_at t) x.2 ∙ e in
          let z = shows_original m t u o w w' h x.0 (operation_of u x.0 hd.0) y xe ye in
          let n = slice_map_back o.block (successors_of u x.0) i b (ap (λ l. slice_get l i) (sym z.successors) ∙ s) in
          let base = g.defined.forwards x.0 i n.0 (operation_of u x.0 hd.0) x.1 xe (subst (λ a. IsTrue (m.is_branch a)) z.head br) n.1 in
          let r = some_of (block_parent_of u n.0) (w'.joined.successors x.0 n.0 (in_slice (successors_of u x.0) i n.0 n.1)) in
          ap (λ a. length (m.forwarded a i)) (shape_original m t u o w w' h x.0 (operation_of u x.0 hd.0) y xe ye) ∙ base ∙ sym (length-map (arguments_of u n.0) o.value) ∙ ap length (sym (h.blocks n.0 r.0 r.1).arguments) ∙ ap (λ a. length (arguments_of t a)) n.2

      terminators : (k b : ℕ) (x : Head) → IsInside t root k → head_of t k ≡ Some x → IsTrue (m.is_terminator x) → parent_of t k ≡ Some b → last_of None (body_of t b) ≡ Some k
      terminators k b x ins e tr p =
          let y = copy_inside m t u o w w' h root c g own k ins in
          let up = inside_up y.1 in
          let q = holder_is u y.0 up.0 up.1 in
          let r = region_in t u o w w' h y.0 q.0 q.1 in
          let here : o.block q.0 ≡ b = some_is (sym (parent_forth t u o w w' h y.0 q.0 q.1) ∙ ap (parent_of t) y.2 ∙ p) in
          let last = g.defined.terminators y.0 q.0 x y.1 (sym (h.operations y.0 (live_inside m t u o w w' h root c g own y.0 y.1)).head ∙ ap (head_of t) y.2 ∙ e) tr q.1 in
          ap (λ a. last_of None (body_of t a)) (sym here) ∙ last_forth t u o w w' h q.0 r.0 y.0 r.1 last ∙ ap Some y.2

      unused : (k v user : ℕ) → IsInside t root k → successors_of t k ≢ [] → In v (results_of t k) → In v (operands_of t user) → ⊥
      unused k v user ins ne j i =
          let a = c.operations user (live_user user v i) in
          let y = operand_copy m t u o w w' h root c g own a.0 v a.1 (subst (λ z. In v (operands_of t z)) (sym a.2) i) in
          let n = maker_is u y.0 (w'.joined.operands a.0 y.0 y.1) in
          let place = slice_in (results_of t k) v j in
          jumper y.0 n.0 n.2 place.0 (some_is (sym (def_forth t u o w w' h y.0 n.0 n.2) ∙ ap (definition_of t) y.2 ∙ w.joined.results k place.0 v place.1)) a.0 y.1
        where
          mixed : (b q n r : ℕ) → Argument b n ≡ Result q r → ⊥
          mixed b q n r e = cc

          result : (a b q r : ℕ) → Result a q ≡ Result b r → a ≡ b
          result a b q r e = cc

          jumper : (x : ℕ) (d : Def) → IsMadeBy u x (Some d) → (n : ℕ) → original_def o d ≡ Result k n → (a : ℕ) → In x (operands_of u a) → ⊥
          jumper x (Argument b q) y n e a z = mixed (o.block b) k q n e
          jumper x (Result p q) y n e a z =
              let s : o.operation p ≡ k = result (o.operation p) k q n e in
              let live = result_live u w'.joined p q x y in
              g.defined.unused p x a (inside_back m t u o w w' h root c g own p live (subst (IsInside t root) (sym s) ins)) (λ none. ne (ap (successors_of t) (sym s) ∙ (h.operations p live).successors ∙ ap (map o.block) none)) (in_slice (results_of u p) q x y) z

      dominated : (user v : ℕ) → In v (operands_of t user) → IsDefinedInside t root v → IsDominated t user v
      dominated user v i made =
          let a = c.operations user (live_user user v i) in
          let y = operand_copy m t u o w w' h root c g own a.0 v a.1 (subst (λ z. In v (operands_of t z)) (sym a.2) i) in
          subst (λ k. IsDominated t k v) a.2 (subst (IsDominated t (o.operation a.0)) y.2 (dominated_original a.0 y.0 a.1 y.1 (subst (IsDefinedInside t root) (sym y.2) made)))

  linked : IsWellLinked m t root
  linked = record { edges = edges; admitted = admitted }
    where
      edges : (k s : ℕ) → In s (successors_of t k) → IsInside t root k ⊎ HoldsBlock t root s → EndsBlock t k
      edges k s i held =
          let a = c.operations k (live_jumper k s i) in
          let y = from_map o.block (successors_of u a.0) s (subst (In s) (h.operations a.0 a.1).successors (subst (λ z. In s (successors_of t z)) (sym a.2) i)) in
          subst (EndsBlock t) a.2 (ended a.0 a.1 (g.linked.edges a.0 y.0 y.1 (held_copy a.0 a.1 a.2 y.0 y.1 y.2 held)))
        where
          held_copy : (a : ℕ) → IsLive u a → o.operation a ≡ k → (y : ℕ) → In y (successors_of u a) → o.block y ≡ s → IsInside t root k ⊎ HoldsBlock t root s → IsInside u root a ⊎ HoldsBlock u root y
          held_copy a live e y j f (inl n) = inl (inside_back m t u o w w' h root c g own a live (subst (IsInside t root) (sym e) n))
          held_copy a live e y j f (inr n) = let r = some_of (block_parent_of u y) (w'.joined.successors a y j) in inr (block_back m t u o w w' h root c g own y r.0 r.1 (subst (HoldsBlock t root) (sym f) n))

          ended : (a : ℕ) → IsLive u a → EndsBlock u a → EndsBlock t (o.operation a)
          ended a live ends =
              let r = region_in t u o w w' h a ends.block ends.in_block in
              record {
                block = o.block ends.block;
                in_block = parent_forth t u o w w' h a ends.block ends.in_block;
                last = last_forth t u o w w' h ends.block r.0 a r.1 ends.last;
                own_region = λ z j.
                    let y = from_map o.block (successors_of u a) z (subst (In z) (h.operations a live).successors j) in
                    ap (block_parent_of t) (sym y.2) ∙ (h.blocks y.0 r.0 (ends.own_region y.0 y.1 ∙ r.1)).parent ∙ sym (h.blocks ends.block r.0 r.1).parent;
              }

      same_admits : (x : Head) (a b c d a' b' c' d' : ℕ) → a ≡ a' → b ≡ b' → c ≡ c' → d ≡ d' → m.admits x a b c d ≡ m.admits x a' b' c' d'
      same_admits x a b c d a' b' c' d' p q r s = cc

      admitted : (k : ℕ) → IsWithin t root k → IsAdmitted m t k
      admitted k i =
          let x = copy_root k i in
          subst (IsAdmitted m t) x.3 (at_copy x.0 x.1 x.2)
        where
          at_copy : (x : ℕ) → IsWithin u root x → IsLive u x → IsAdmitted m t (o.operation x)
          at_copy x j live z e =
              let y = h.operations x live in
              subst IsTrue (sym (same_admits z _ _ _ _ _ _ _ _ (ap length y.operands ∙ length-map (operands_of u x) o.value) (ap length y.results ∙ length-map (results_of u x) o.value) (ap length y.successors ∙ length-map (successors_of u x) o.block) (ap length y.regions ∙ length-map (regions_of u x) o.region))) (g.linked.admitted x j z (sym y.head ∙ e))

  pub joined_fit : IsFit m t root
  joined_fit = record {
    live = subst IsSome (sym (ap (head_of t) (sym own) ∙ (h.operations root g.live).head)) g.live;
    chosen = λ x e. g.chosen x (sym (h.operations root g.live).head ∙ ap (head_of t) own ∙ e);
    defined = defined;
    linked = linked;
  }

-- A root that is fit to run stays so in a tree with closed copies.
use Rattle.std.proofs.Common.{◌≡◌, ◌≢◌, ◌⊎◌, inl, inr, ⊎_elim, ℕ, ◌<◌, List, [], ◌∷◌, ◌++◌, map, length, Option, Some, None, IsSome, IsTrue, slice_get, refl, sym, ap, ◌∙◌, subst}
use Rattle.std.specs.Option.{option_map}
use Rattle.std.proofs.lemmas.Bool.{cases_eq}
use Rattle.std.proofs.lemmas.List.{length-map}
use Rattle.pliron_core.specs.declared.context.Def.{Def}
use Rattle.pliron_core.specs.declared.context.Def.TheVariants.{Result, Argument}
use Rattle.pliron_core.specs.Changes.{IsDefinedInside, IsDefiningOperationInside}
use Rattle.pliron_core.specs.Tree.{Tree, In, first_of, last_of, IsLive, IsMadeBy, IsInside, IsInside.Directly, IsWithin, HoldsBlock, head_of, operands_of, successors_of, results_of, regions_of, parent_of, body_of, arguments_of, block_parent_of, layout_of, region_parent_of, block_parent_operation_of, parent_operation_of, definition_of, up_from}
use Rattle.pliron_core.specs.Invariant.{IsTree}
use Rattle.pliron_core.specs.Reads.{has_ssa, has_ssa_at, ssa_in}
use Rattle.pliron_core.proofs.HoldingLemmas.{some_is, some_of, in_slice, slice_in, maker_is, holder_is, holder_by, inside_up, inside_block, block_held, deeper, within_inside, not_itself}
use Rattle.pliron_core.proofs.ListLemmas.{In-left}
use Rattle.pliron_core.proofs.NeighbourLemmas.{last_of-In}
use Rattle.pliron_laws.specs.Datum.{Head, Meaning}
use Rattle.pliron_laws.specs.Tree.{Operation, op_at, shape_of}
use Rattle.pliron_laws.specs.Paths.{Path}
use Rattle.pliron_laws.specs.Root.{defining_block, HasPassed, IsDominated, WellDefined}
use Rattle.pliron_laws.specs.Linked.{IsAdmitted, IsWellLinked}
use Rattle.pliron_theory.specs.Keeps.{IsFit}
use Rattle.pliron_laws.proofs.Records.{op_shows}
use Rattle.pliron_theory.proofs.SweptParts.{HasBlockPlace, block_place_of}
use Rattle.pliron_theory.proofs.Bound.{made_within}
use Rattle.pliron_rewrite_copies.specs.Copies.{Originals, HasOriginals, IsUsedBeside, AreClosedCopies}
use Rattle.pliron_rewrite_copies.proofs.Maps.{in_map, from_map, slice_map, last_map, map_append, map_none, option_map_some}
use Rattle.pliron_rewrite_copies.proofs.Holders.{compare, one_around}
use Rattle.pliron_rewrite_copies.proofs.Covered.{original_def, live_in, region_in, parent_forth, apart_in, region_forth, block_holder_forth, holder_forth, inside_forth, within_forth, last_forth, def_forth, defining_forth, made_forth}
use Rattle.pliron_rewrite_copies.proofs.CopiedWays.{HasLike, has_like}
use Rattle.pliron_rewrite_copies.proofs.CopiedRecords.{original_op, shows_original, shape_original}

module _ (m : Meaning) (t u : Tree) (o : Originals) (w : IsTree t) (w' : IsTree u) (h : HasOriginals t u o) (copy header : ℕ → ℕ) (root : ℕ) (c : AreClosedCopies u o copy header root) (f : IsFit m t root) (own : o.operation root ≡ root) where
  inside_root : (k : ℕ) → IsInside u root k → IsInside t root (o.operation k)
  inside_root k i = subst (λ z. IsInside t z (o.operation k)) own (inside_forth t u o w w' h root k i)

  within_root : (k : ℕ) → IsWithin u root k → IsWithin t root (o.operation k)
  within_root k i = subst (λ z. IsWithin t z (o.operation k)) own (within_forth t u o w w' h root k i)

  -- where a use stands, and where the used value is defined
  pub record Places (user v : ℕ) (x : IsUsedBeside u copy user v) : Type 0 where
    pub made : Def
    pub definition : definition_of u v ≡ Some made
    pub maker : IsMadeBy u v (Some made)
    pub region : ℕ
    pub used_in : block_parent_of u x.block ≡ Some region
    pub defined_in : block_parent_of u x.definer ≡ Some region
    pub holder : ℕ
    pub held : block_parent_operation_of u x.definer ≡ Some holder
    pub around_held : parent_operation_of u x.around ≡ Some holder

  pub places : (user v : ℕ) → In v (operands_of u user) → (x : IsUsedBeside u copy user v) → Places user v x
  places user v i x =
      let y = maker_is u v (w'.joined.operands user v i) in
      let r = region_in t u o w w' h x.around x.block x.in_block in
      let there : block_parent_of u x.definer ≡ Some r.0 = sym x.beside ∙ r.1 in
      let q = block_held u x.definer w'.joined (subst IsSome (sym there) refl) in
      let beside : block_parent_operation_of u x.block ≡ Some q.1 = ap (λ z. up_from z (λ s. region_parent_of u s)) x.beside ∙ q.5 in
      record { made = y.0; definition = y.1; maker = y.2; region = r.0; used_in = r.1; defined_in = there; holder = q.1; held = q.5; around_held = holder_by u x.around x.block q.1 x.in_block beside }

  -- what an original uses is defined inside the root only if what the copy uses is
  made_original : (v : ℕ) (d : Def) → definition_of u v ≡ Some d → IsMadeBy u v (Some d) → IsDefinedInside u root v → IsDefinedInside t root (o.value v)
  made_original v d e y i = subst (IsDefiningOperationInside t root) (sym (def_forth t u o w w' h v d y)) (subst (λ z. IsDefiningOperationInside t z (Some (original_def o d))) own (made_forth t u o w w' h root d (subst (IsDefiningOperationInside u root) e i)))

  -- each path to the user passes the definition
  pub passes : (user v : ℕ) (i : In v (operands_of u user)) → IsDefinedInside u root v → (x : IsUsedBeside u copy user v) (p : Places user v x) → (entry : ℕ) (before done rest : List ℕ) → first_of (layout_of u p.region) None ≡ Some entry → Path u entry x.block before → body_of u x.block ≡ done ++ x.around ∷ rest → HasPassed u (definition_of u v) before x.block done
  passes user v i made x p entry before done rest ee way split = subst (λ d. HasPassed u d before x.block done) (sym p.definition) (back p.made p.maker (ap (defining_block u) (sym p.definition) ∙ x.defined) (subst (λ d'. HasPassed t d' like.blocks (o.block x.block) (map o.operation done)) (def_forth t u o w w' h v p.made p.maker) passed))
    where
      live : IsLive u user
      live = live_user (head_of u user) refl
        where
          live_user : (z : Option Head) → head_of u user ≡ z → IsLive u user
          live_user None e = absurd (subst (In v) (w'.joined.erased user e).0 i)
          live_user (Some y) e = subst IsSome (sym e) refl

      operand : In (o.value v) (operands_of t (o.operation user))
      operand = subst (In (o.value v)) (sym (h.operations user live).operands) (in_map o.value (operands_of u user) v i)

      d : IsDominated t (o.operation user) (o.value v)
      d = f.defined.dominated (o.operation user) (o.value v) operand (made_original v p.made p.definition p.maker made)

      like : HasLike u o copy header root c p.region entry ee t w w' h x.definer x.block before
      like = has_like u o copy header root c p.region entry ee t w w' h x.definer x.block before p.defined_in p.used_in x.same_copy way

      -- the region before
      region_holder : region_parent_of u p.region ≡ Some p.holder
      region_holder = ap (λ z. up_from z (λ s. region_parent_of u s)) (sym p.defined_in) ∙ p.held

      in_original : block_parent_of t (o.block x.block) ≡ Some (o.region p.region)
      in_original = (h.blocks x.block p.region p.used_in).parent

      home : Some (o.region p.region) ≡ Some d.region
      home = sym (ap (λ z. up_from z (λ b. block_parent_of t b)) (ap (defining_block t) (def_forth t u o w w' h v p.made p.maker) ∙ defining_forth t u o w w' h p.made x.definer (ap (defining_block u) (sym p.definition) ∙ x.defined)) ∙ (h.blocks x.definer p.region p.defined_in).parent) ∙ d.defined

      around_original : parent_operation_of t (o.operation x.around) ≡ Some (o.operation p.holder)
      around_original = holder_forth t u o w w' h x.around p.holder p.around_held

      around_dominated : parent_operation_of t d.around ≡ Some (o.operation p.holder)
      around_dominated = holder_by t d.around d.block (o.operation p.holder) d.in_block (ap (λ z. up_from z (λ s. region_parent_of t s)) (d.in_region ∙ sym home ∙ sym in_original) ∙ block_holder_forth t u o w w' h x.block p.holder (ap (λ z. up_from z (λ s. region_parent_of u s)) x.beside ∙ p.held))

      same_around : d.around ≡ o.operation x.around
      same_around = one_around t w.joined.rooted d.around (o.operation x.around) (o.operation p.holder) (o.operation user) around_dominated around_original d.holds (within_forth t u o w w' h x.around user x.holds)

      same_block : d.block ≡ o.block x.block
      same_block = some_is (sym d.in_block ∙ ap (parent_of t) same_around ∙ parent_forth t u o w w' h x.around x.block x.in_block)

      body : body_of t d.block ≡ map o.operation done ++ d.around ∷ map o.operation rest
      body = ap (body_of t) same_block ∙ (h.blocks x.block p.region p.used_in).body ∙ ap (map o.operation) split ∙ map_append o.operation done (x.around ∷ rest) ∙ ap (λ k. map o.operation done ++ k ∷ map o.operation rest) (sym same_around)

      place : HasBlockPlace u x.definer p.holder
      place = block_place_of u w' x.definer p.holder p.held

      listed : In p.region (regions_of u p.holder)
      listed = subst (λ r. In r (regions_of u p.holder)) (some_is (sym place.in_region ∙ p.defined_in)) (in_slice (regions_of u p.holder) place.index place.region place.listed)

      first_original : first_of (layout_of t d.region) None ≡ Some (o.block entry)
      first_original = ap (λ r. first_of (layout_of t r) None) (sym (some_is home)) ∙ h.entries p.holder p.region listed ∙ ap (option_map o.block) ee

      passed : HasPassed t (definition_of t (o.value v)) like.blocks (o.block x.block) (map o.operation done)
      passed = subst (λ b. HasPassed t (definition_of t (o.value v)) like.blocks b (map o.operation done)) same_block (d.passes (o.block entry) like.blocks (map o.operation done) (map o.operation rest) first_original (subst (λ b. Path t (o.block entry) b like.blocks) (sym same_block) like.path) body)

      -- the block that defines the value is that of the user, where their originals are one
      one_block : o.block x.definer ≡ o.block x.block → x.definer ≡ x.block
      one_block e = c.apart x.definer x.block p.region p.defined_in p.used_in e (zero_or (cases_eq (copy x.definer) 0))
        where
          zero_or : (copy x.definer ≡ 0) ⊎ (copy x.definer ≢ 0) → (copy x.definer ≡ copy x.block) ⊎ (copy x.definer ≡ 0)
          zero_or (inl z) = inr z
          zero_or (inr n) = inl (sym (x.same_copy n))

      back : (e : Def) → IsMadeBy u v (Some e) → defining_block u (Some e) ≡ Some x.definer → HasPassed t (Some (original_def o e)) like.blocks (o.block x.block) (map o.operation done) → HasPassed u (Some e) before x.block done
      back (Argument b n) y q (inl s) = let g = some_is q in inl (g ∙ one_block (ap o.block (sym g) ∙ s))
      back (Argument b n) y q (inr j) = let g = some_is q in inr (subst (λ z. In z before) (sym g) (like.passes (subst (λ z. In (o.block z) like.blocks) g j)))
      back (Result k n) y q (inl j) =
          let z = from_map o.operation done (o.operation k) j in
          let stands : parent_of u z.0 ≡ Some x.block = w'.bodies.owned z.0 x.block (subst (In z.0) (sym split) (In-left z.0 done (x.around ∷ rest) z.1)) in
          let g : x.definer ≡ x.block = one_block (some_is (sym (parent_forth t u o w w' h k x.definer q) ∙ ap (parent_of t) (sym z.2) ∙ parent_forth t u o w w' h z.0 x.block stands)) in
          inl (subst (λ a. In a done) (apart_in t u o w w' h x.block z.0 k stands (q ∙ ap Some g) z.2) z.1)
      back (Result k n) y q (inr r) =
          let g : r.0 ≡ o.block x.definer = some_is (sym r.1 ∙ parent_forth t u o w w' h k x.definer q) in
          inr (x.definer, q, like.passes (subst (λ z. In z like.blocks) g r.2))

  dominated : (user v : ℕ) → In v (operands_of u user) → IsDefinedInside u root v → IsDominated u user v
  dominated user v i made =
      let x = c.used user v i (inr made) in
      let p = places user v i x in
      record {
        around = x.around;
        holds = x.holds;
        block = x.block;
        region = p.region;
        in_block = x.in_block;
        in_region = p.used_in;
        defined = ap (λ z. up_from z (λ b. block_parent_of u b)) x.defined ∙ p.defined_in;
        passes = λ entry before done rest e way split. passes user v i made x p entry before done rest e way split;
      }

  -- what is used inside the root is defined there
  pub own_values : (k v : ℕ) → IsInside u root k → In v (operands_of u k) → IsDefinedInside u root v
  own_values k v ins i = subst (IsDefiningOperationInside u root) (sym p.definition) (made p.made (ap (defining_block u) (sym p.definition) ∙ x.defined))
    where
      x : IsUsedBeside u copy k v
      x = c.used k v i (inl ins)

      p : Places k v x
      p = places k v i x

      operand : In (o.value v) (operands_of t (o.operation k))
      operand = let b = holder_is u k (inside_up ins).0 (inside_up ins).1 in subst (In (o.value v)) (sym (h.operations k (live_in t u o w w' h k b.0 b.1)).operands) (in_map o.value (operands_of u k) v i)

      region_holder : region_parent_of t (o.region p.region) ≡ Some (o.operation p.holder)
      region_holder = ap (λ z. up_from z (λ s. region_parent_of t s)) (sym (h.blocks x.definer p.region p.defined_in).parent) ∙ block_holder_forth t u o w w' h x.definer p.holder p.held

      home : up_from (defining_block t (definition_of t (o.value v))) (λ b. block_parent_of t b) ≡ Some (o.region p.region)
      home = ap (λ z. up_from z (λ b. block_parent_of t b)) (ap (defining_block t) (def_forth t u o w w' h v p.made p.maker) ∙ defining_forth t u o w w' h p.made x.definer (ap (defining_block u) (sym p.definition) ∙ x.defined)) ∙ (h.blocks x.definer p.region p.defined_in).parent

      held_before : IsWithin t root (o.operation p.holder)
      held_before = made_within t root (o.region p.region) (o.operation p.holder) (definition_of t (o.value v)) region_holder home (f.defined.own_values (o.operation k) (o.value v) (inside_root k ins) operand)

      not_around : IsWithin u x.around root → ⊥
      not_around j = not_itself w.joined.rooted (turn held_before)
        where
          below : IsInside t (o.operation p.holder) root
          below = within_inside (Directly (holder_forth t u o w w' h x.around p.holder p.around_held)) (subst (IsWithin t (o.operation x.around)) own (within_forth t u o w w' h x.around root j))

          turn : IsWithin t root (o.operation p.holder) → IsInside t root root
          turn (inl s) = subst (λ z. IsInside t z root) s below
          turn (inr y) = deeper y below

      held : IsWithin u root p.holder
      held = ⊎_elim
          (λ j. let up = inside_up j in subst (IsWithin u root) (some_is (sym up.1 ∙ p.around_held)) up.2)
          (λ j. absurd (not_around j))
          (compare u w'.joined.rooted x.around root k x.holds ins)

      made : (e : Def) → defining_block u (Some e) ≡ Some x.definer → IsDefiningOperationInside u root (Some e)
      made (Argument b n) q = (p.holder, ap (block_parent_operation_of u) (some_is q) ∙ p.held, held)
      made (Result j n) q = inside_block x.definer q (p.holder, p.held, held)

  -- the last operation of a block
  last_back : (k b r : ℕ) → parent_of u k ≡ Some b → block_parent_of u b ≡ Some r → last_of None (body_of t (o.block b)) ≡ Some (o.operation k) → last_of None (body_of u b) ≡ Some k
  last_back k b r e rb l =
      let x = option_map_some o.operation (last_of None (body_of u b)) (o.operation k) (sym (last_map o.operation None (body_of u b)) ∙ ap (last_of None) (sym (h.blocks b r rb).body) ∙ l) in
      x.1 ∙ ap Some (apart_in t u o w w' h b x.0 k (w'.bodies.owned x.0 b (last_of-In x.0 (body_of u b) x.1)) e x.2)

  live_inside : (k : ℕ) → IsInside u root k → IsLive u k
  live_inside k i = let b = holder_is u k (inside_up i).0 (inside_up i).1 in live_in t u o w w' h k b.0 b.1

  module _ (live : IsLive u root) where
    live_within : (k : ℕ) → IsWithin u root k → IsLive u k
    live_within k (inl e) = subst (IsLive u) (sym e) live
    live_within k (inr i) = live_inside k i

    defined : WellDefined m u root
    defined = record {
      no_successors = map_none o.block (successors_of u root) (sym (h.operations root live).successors ∙ ap (successors_of t) own ∙ f.defined.no_successors);
      own_values = own_values;
      dominance = ssa;
      forwards = forwards;
      terminators = terminators;
      unused = unused;
      dominated = dominated;
    }
      where
        ssa : (k r : ℕ) → IsWithin u root k → In r (regions_of u k) → IsTrue (has_ssa u r)
        ssa k r i j =
            let s = slice_in (regions_of u k) r j in
            let p = region_forth t u o w w' h k s.0 r s.1 in
            let x = h.operations k (live_within k i) in
            let before : IsTrue (has_ssa t (o.region r)) = f.defined.dominance (o.operation k) (o.region r) (within_root k i) (subst (In (o.region r)) (sym x.regions) (in_map o.region (regions_of u k) r j)) in
            subst (λ z. IsTrue (has_ssa_at u z)) (sym p.0) (subst (λ z. IsTrue (ssa_in z)) x.head (subst (λ z. IsTrue (has_ssa_at t z)) p.1 before))

        forwards : (k i b : ℕ) (x : Operation) → IsInside u root k → op_at u k ≡ Some x → IsTrue (m.is_branch x.head) → slice_get x.successors i ≡ Some b → length (m.forwarded (shape_of m u x) i) ≡ length (arguments_of u b)
        forwards k i b x ins e br s =
            let y = original_op m t u o w w' h k x e in
            let z = shows_original m t u o w w' h k x y.0 e y.1 in
            let base = f.defined.forwards (o.operation k) i (o.block b) y.0 (inside_root k ins) y.1 (subst (λ a. IsTrue (m.is_branch a)) (sym z.head) br) (ap (λ l. slice_get l i) z.successors ∙ slice_map o.block x.successors i b s) in
            let r = some_of (block_parent_of u b) (w'.joined.successors k b (subst (In b) (sym (op_shows u k x e).successors) (in_slice x.successors i b s))) in
            ap (λ a. length (m.forwarded a i)) (sym (shape_original m t u o w w' h k x y.0 e y.1)) ∙ base ∙ ap length (h.blocks b r.0 r.1).arguments ∙ length-map (arguments_of u b) o.value

        terminators : (k b : ℕ) (x : Head) → IsInside u root k → head_of u k ≡ Some x → IsTrue (m.is_terminator x) → parent_of u k ≡ Some b → last_of None (body_of u b) ≡ Some k
        terminators k b x ins e tr q =
            let r = region_in t u o w w' h k b q in
            last_back k b r.0 q r.1 (f.defined.terminators (o.operation k) (o.block b) x (inside_root k ins) ((h.operations k (live_in t u o w w' h k b q)).head ∙ e) tr (parent_forth t u o w w' h k b q))

        unused : (k v user : ℕ) → IsInside u root k → successors_of u k ≢ [] → In v (results_of u k) → In v (operands_of u user) → ⊥
        unused k v user ins ne j i =
            let x = h.operations k (live_inside k ins) in
            f.defined.unused (o.operation k) (o.value v) (o.operation user) (inside_root k ins) (λ e. ne (map_none o.block (successors_of u k) (sym x.successors ∙ e))) (subst (In (o.value v)) (sym x.results) (in_map o.value (results_of u k) v j)) (subst (In (o.value v)) (sym (h.operations user (user_live (head_of u user) refl)).operands) (in_map o.value (operands_of u user) v i))
          where
            user_live : (z : Option Head) → head_of u user ≡ z → IsLive u user
            user_live None e = absurd (subst (In v) (w'.joined.erased user e).0 i)
            user_live (Some y) e = subst IsSome (sym e) refl

    linked : IsWellLinked m u root
    linked = record { edges = c.edges; admitted = admitted }
      where
        same : (x : Head) (a b c d a' b' c' d' : ℕ) → a ≡ a' → b ≡ b' → c ≡ c' → d ≡ d' → m.admits x a b c d ≡ m.admits x a' b' c' d'
        same x a b c d a' b' c' d' p q r s = cc

        admitted : (k : ℕ) → IsWithin u root k → IsAdmitted m u k
        admitted k i x e =
            let y = h.operations k (live_within k i) in
            subst IsTrue (same x _ _ _ _ _ _ _ _ (ap length y.operands ∙ length-map (operands_of u k) o.value) (ap length y.results ∙ length-map (results_of u k) o.value) (ap length y.successors ∙ length-map (successors_of u k) o.block) (ap length y.regions ∙ length-map (regions_of u k) o.region)) (f.linked.admitted (o.operation k) (within_root k i) x (y.head ∙ e))

    pub copied_fit : IsFit m u root
    copied_fit = record {
      live = live;
      chosen = λ x e. f.chosen x (ap (head_of t) (sym own) ∙ (h.operations root live).head ∙ e);
      defined = defined;
      linked = linked;
    }

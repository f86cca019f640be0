-- Roots stay fit where a call was inlined.
use Rattle.std.proofs.Common.{◌≡◌, ◌≢◌, ◌⊎◌, inl, inr, ⊎_elim, ℕ, true, true≢false, List, [], ◌∷◌, ◌++◌, map, length, Option, Some, None, IsSome, IsTrue, is_some, slice_get, refl, sym, ap, ◌∙◌, subst}
use Rattle.std.proofs.lemmas.Bool.{cases_eq}
use Rattle.std.proofs.lemmas.List.{length-map}
use Rattle.std.proofs.lemmas.Option.{slice_get_past}
use Rattle.pliron_core.specs.declared.context.Def.{Def}
use Rattle.pliron_core.specs.declared.context.Def.TheVariants.{Result, Argument}
use Rattle.pliron_core.specs.Changes.{IsDefinedInside, IsDefiningOperationInside}
use Rattle.pliron_core.specs.Reads.{has_ssa, has_ssa_at, ssa_in}
use Rattle.pliron_core.specs.Tree.{Tree, In, IsDistinct, IsLive, IsBlock, IsRegion, IsDefined, IsMadeBy, IsInside, IsInside.Directly, IsInside.Deeper, IsWithin, HoldsBlock, first_of, last_of, head_of, row_of, operands_of, successors_of, results_of, regions_of, parent_of, body_of, arguments_of, block_parent_of, layout_of, region_parent_of, parent_operation_of, block_parent_operation_of, definition_of, up_from, op_of_slot}
use Rattle.pliron_core.specs.Invariant.{IsTree}
use Rattle.pliron_core.proofs.HoldingLemmas.{some_is, not_none, in_slice, slice_in, slot_is, maker_is, block_held, holder_by, holder_live, inside_up, deeper, within_inside, not_itself, inside_block, block_inside, result_live, argument_stands}
use Rattle.pliron_core.proofs.WithinLemmas.{holder_from, holder_steps, block_holder_from}
use Rattle.pliron_core.proofs.NeighbourLemmas.{first_of-In, last_of-In}
use Rattle.pliron_laws.specs.Datum.{Head, Datum, Meaning}
use Rattle.pliron_laws.specs.Tree.{Operation, op_at, shape_of}
use Rattle.pliron_laws.specs.Root.{IsDominated, WellDefined}
use Rattle.pliron_laws.specs.Linked.{EndsBlock, IsAdmitted}
use Rattle.pliron_laws.proofs.Records.{op_shows}
use Rattle.pliron_theory.specs.Keeps.{IsFit}
use Rattle.pliron_theory.proofs.Bound.{made_within}
use Rattle.pliron_theory.proofs.SweptParts.{block_place_of, block_held_at}
use Rattle.pliron_theory.proofs.SweptStays.{admitted_same}
use Rattle.pliron_pass_linked.specs.Calls.{CallingConvention}
use Rattle.pliron_rewrite_copies.proofs.Maps.{in_map, slice_map, last_map, map_none, map_apart, option_map_some}
use Rattle.pliron_rewrite_inlining.specs.Inlined.{InlinedCall, IsCopy, IsReturnReplaced, AreCopies, IsFreshKey, IsCallInlined}
use Rattle.pliron_rewrite_inlining.specs.InlinedBeside.{AreCopiesBeside, InlinedRootsLaw}
use Rattle.pliron_rewrite_inlining.proofs.CallerSteps.{stays_at, shape_same}
use Rattle.pliron_rewrite_inlining.proofs.CopiedShapes.{live_op, live_op_at, HasOriginal, has_original}
use Rattle.pliron_rewrite_inlining.proofs.InlinedWays.{last_new, last_jump, body_same, elsewhere}
use Rattle.pliron_rewrite_inlining.proofs.InlinedDominance.{split_back, new_split_back, still_dominated, IsValueCopy, IsValueCopy.CopiedArgument, IsValueCopy.CopiedResult, copy_dominated}

-- what has something is live
lives_by : (z : Tree) (k : ℕ) → (head_of z k ≡ None → ⊥) → IsLive z k
lives_by z k never = go (head_of z k) refl
  where
    go : (o : Option Head) → head_of z k ≡ o → IsSome o
    go None e = absurd (never e)
    go (Some y) e = refl

user_live : (z : Tree) → IsTree z → (k v : ℕ) → In v (operands_of z k) → IsLive z k
user_live z y k v i = lives_by z k (λ e. subst (In v) (y.joined.erased k e).0 i)

jumper_live : (z : Tree) → IsTree z → (k b : ℕ) → In b (successors_of z k) → IsLive z k
jumper_live z y k b i = lives_by z k (λ e. subst (In b) (y.joined.erased k e).1 i)

holder_lives : (z : Tree) → IsTree z → (k r : ℕ) → In r (regions_of z k) → IsLive z k
holder_lives z y k r i = lives_by z k (λ e. subst (In r) (ap (λ q. q.regions) (y.joined.erased k e).2) i)

-- what is in a copied block is a copy, or in the place of a return at its end
in_copies : (m : Meaning) (t u : Tree) (x : InlinedCall) (l : List ℕ) → AreCopies m t u x l → (o : Option ℕ) (k : ℕ) → In k l → IsCopy m t u x k ⊎ (IsReturnReplaced m t u x k × (last_of o l ≡ Some k))
in_copies m t u x [] y o k i = absurd i
in_copies m t u x (j ∷ []) (inl y) o k i = ⊎_elim (λ e. inl (subst (IsCopy m t u x) (sym e) y.0)) (λ z. absurd z) i
in_copies m t u x (j ∷ []) (inr y) o k i = ⊎_elim (λ e. inr (subst (IsReturnReplaced m t u x) (sym e) y, ap Some (sym e))) (λ z. absurd z) i
in_copies m t u x (j ∷ n ∷ ks) y o k (inl e) = inl (subst (IsCopy m t u x) (sym e) y.0)
in_copies m t u x (j ∷ n ∷ ks) y o k (inr i) = in_copies m t u x (n ∷ ks) y.1 (Some j) k i

-- what an operation uses that is directly inside what defines that, it uses itself
used_directly : (t : Tree) → IsTree t → (callee k v : ℕ) → parent_operation_of t k ≡ Some callee → IsDefinedInside t callee v → (d : IsDominated t k v) → d.around ≡ k
used_directly t w callee k v up made d = ⊎_elim (λ e. sym e) (λ i. absurd (never i)) d.holds
  where
    held : (r y : ℕ) × (block_parent_of t d.block ≡ Some r) × IsRegion t r × (region_parent_of t r ≡ Some y) × (block_parent_operation_of t d.block ≡ Some y) × IsLive t y
    held = block_held t d.block w.joined (subst IsSome (sym d.in_region) refl)

    in_holder : IsWithin t callee held.1
    in_holder = made_within t callee d.region held.1 (definition_of t v) (ap (λ r. region_parent_of t r) (some_is (sym d.in_region ∙ held.2)) ∙ held.4) d.defined made

    around_held : IsInside t held.1 d.around
    around_held = Directly (holder_by t d.around d.block held.1 d.in_block held.5)

    below : IsInside t d.around k → IsInside t held.1 callee
    below i = let y = inside_up i in within_inside around_held (subst (IsWithin t d.around) (some_is (sym y.1 ∙ up)) y.2)

    turn : IsInside t d.around k → IsWithin t callee held.1 → IsInside t callee callee
    turn i (inl e) = subst (λ z. IsInside t z callee) e (below i)
    turn i (inr j) = deeper j (below i)

    never : IsInside t d.around k → ⊥
    never i = not_itself w.joined.rooted (turn i in_holder)

-- an operation is admitted that has the head and the counts of one that is
admitted_as : (m : Meaning) (t u : Tree) (k j : ℕ) → head_of t k ≡ head_of u j → length (operands_of u j) ≡ length (operands_of t k) → length (results_of u j) ≡ length (results_of t k) → length (successors_of u j) ≡ length (successors_of t k) → length (regions_of u j) ≡ length (regions_of t k) → IsAdmitted m t k → IsAdmitted m u j
admitted_as m t u k j head operands results successors regions a y e =
    let i : IsTrue (m.admits y (length (operands_of t k)) (length (results_of t k)) (length (successors_of t k)) (length (regions_of t k))) = a y (head ∙ e) in
    subst (λ n. IsTrue (m.admits y n (length (results_of u j)) (length (successors_of u j)) (length (regions_of u j)))) (sym operands)
    (subst (λ n. IsTrue (m.admits y (length (operands_of t k)) n (length (successors_of u j)) (length (regions_of u j)))) (sym results)
    (subst (λ n. IsTrue (m.admits y (length (operands_of t k)) (length (results_of t k)) n (length (regions_of u j)))) (sym successors)
    (subst (λ n. IsTrue (m.admits y (length (operands_of t k)) (length (results_of t k)) (length (successors_of t k)) n)) (sym regions) i)))

module _ (m : Meaning) (c : CallingConvention) (t u : Tree) (x : InlinedCall) (symbol : Datum) (w : IsTree t) (w' : IsTree u) (h : IsCallInlined m c t u x symbol) (s : AreCopiesBeside m t u x) where
  pub target : block_parent_of t x.after ≡ block_parent_of t s.block
  target = s.target ∙ sym s.in_region

  pub apart : (b : ℕ) → x.copied b ≡ true → IsBlock t b → ⊥
  apart b e is = true≢false (sym is ∙ ap is_some (s.absent b e))

  call_block : IsBlock t s.block
  call_block = subst IsSome (sym s.in_region) refl

  call_in : In x.call (body_of t s.block)
  call_in = w.bodies.listed x.call s.block s.holds

  region_after : block_parent_of u s.block ≡ Some s.region
  region_after = h.block_parents s.block call_block ∙ s.in_region

  new_last : last_of None (body_of u s.block) ≡ Some x.new
  new_last = last_new x (body_of t s.block) (body_of u s.block) (h.bodies s.block call_block) call_in None

  new_in : parent_of u x.new ≡ Some s.block
  new_in = w'.bodies.owned x.new s.block (last_of-In x.new (body_of u s.block) new_last)

  gone : (k j : ℕ) → IsLive u k → head_of u j ≡ None → k ≡ j → ⊥
  gone k j live e f = true≢false (sym live ∙ ap (λ z. is_some (head_of u z)) f ∙ ap is_some e)

  -- an operation that was there and is
  pub record Remains (k : ℕ) : Type 0 where
    pub live : IsLive t k
    pub not_call : k ≡ x.call → ⊥
    pub not_jump : k ≡ x.jump → ⊥

  -- which operations there are after
  pub data Kind (k : ℕ) : Type 0 where
    IsOld : Remains k → Kind k
    IsNew : k ≡ x.new → Kind k
    IsInCopy : (b : ℕ) → x.copied b ≡ true → parent_of u k ≡ Some b → IsCopy m t u x k → Kind k
    IsJumpBack : (b : ℕ) → x.copied b ≡ true → parent_of u k ≡ Some b → last_of None (body_of u b) ≡ Some k → IsReturnReplaced m t u x k → Kind k

  remains : (k : ℕ) → IsLive t k → IsLive u k → Remains k
  remains k before live = record { live = before; not_call = gone k x.call live h.deleted.0; not_jump = gone k x.jump live h.deleted.1 }

  kind : (k : ℕ) → IsLive u k → Kind k
  kind k live = ⊎_elim
      (λ l. IsOld (remains k l live))
      (λ y. ⊎_elim (λ e. IsNew e) (λ z. copied z.0 z.1 z.2) y)
      (s.operations k live)
    where
      copied : (b : ℕ) → x.copied b ≡ true → parent_of u k ≡ Some b → Kind k
      copied b e p = ⊎_elim
          (λ y. IsInCopy b e p y)
          (λ y. IsJumpBack b e p y.1 y.0)
          (in_copies m t u x (body_of u b) (h.copies b e).operations None k (w'.bodies.listed k b p))

  same_row : (k : ℕ) → Remains k → row_of u k ≡ row_of t k
  same_row k y = h.rows k y.live y.not_call y.not_jump

  same_operands : (k : ℕ) → Remains k → operands_of u k ≡ operands_of t k
  same_operands k y = h.operands k y.live y.not_call y.not_jump

  same_successors : (k : ℕ) → Remains k → successors_of u k ≡ successors_of t k
  same_successors k y = h.successors k y.live y.not_call y.not_jump

  same_parent : (k : ℕ) → Remains k → parent_of u k ≡ parent_of t k
  same_parent k y = h.parents k y.live y.not_call y.not_jump

  -- what holds a region was there
  holder_stays : (k r : ℕ) → In r (regions_of u k) → Remains k
  holder_stays k r i = go (kind k (holder_lives u w' k r i))
    where
      none : regions_of u k ≡ [] → Remains k
      none e = absurd (subst (In r) e i)

      go : Kind k → Remains k
      go (IsOld y) = y
      go (IsNew e) = none (s.childless k (inl e))
      go (IsInCopy b e p y) = none y.childless
      go (IsJumpBack b e p l y) = none (s.childless k (inr y))

  block_back : (b p : ℕ) → IsBlock t b → block_parent_operation_of u b ≡ Some p → (block_parent_operation_of t b ≡ Some p) × Remains p
  block_back b p is e =
      let q = block_place_of u w' b p e in
      let y = holder_stays p q.region (in_slice (regions_of u p) q.index q.region q.listed) in
      let f = ap (λ z. slice_get z.regions q.index) (sym (same_row p y)) ∙ q.listed in
      (block_held_at t b p (record { region = q.region; index = q.index; in_region = sym (h.block_parents b is) ∙ q.in_region; slot = w.joined.regions p q.index q.region f; listed = f }), y)

  block_same : (b : ℕ) → IsBlock t b → block_parent_operation_of u b ≡ block_parent_operation_of t b
  block_same b is =
      let q = block_held u b w'.joined (subst IsSome (sym (h.block_parents b is)) is) in
      q.5 ∙ sym (block_back b q.1 is q.5).0

  place_same : (k : ℕ) → Remains k → parent_operation_of u k ≡ parent_operation_of t k
  place_same k y = ap (λ o. up_from o (λ b. block_parent_operation_of u b)) (same_parent k y) ∙ go (parent_of t k) refl
    where
      go : (o : Option ℕ) → parent_of t k ≡ o → up_from o (λ b. block_parent_operation_of u b) ≡ up_from o (λ b. block_parent_operation_of t b)
      go None e = refl
      go (Some b) e = block_same b (w.joined.all_in_place k b e).1

  -- what holds the call holds the new jump and the copies
  beside_held : (b : ℕ) → block_parent_of u b ≡ Some s.region → block_parent_operation_of u b ≡ block_parent_operation_of t s.block
  beside_held b e = block_holder_from u b s.region e ∙ sym (block_holder_from u s.block s.region region_after) ∙ block_same s.block call_block

  place_beside : (k b : ℕ) → parent_of u k ≡ Some b → block_parent_of u b ≡ Some s.region → parent_operation_of u k ≡ parent_operation_of t x.call
  place_beside k b p e = holder_from u k b p ∙ beside_held b e ∙ sym (holder_from t x.call s.block s.holds)

  place_new : (k : ℕ) → k ≡ x.new → parent_operation_of u k ≡ parent_operation_of t x.call
  place_new k e = ap (λ z. parent_operation_of u z) e ∙ place_beside x.new s.block new_in region_after

  holder_remains : (k p : ℕ) → parent_operation_of u k ≡ Some p → Remains p
  holder_remains k p e =
      let q = holder_steps u k p e in
      let r = block_place_of u w' q.0 p q.2 in
      holder_stays p r.region (in_slice (regions_of u p) r.index r.region r.listed)

  -- what is inside an operation, or has its place, was so
  inside_back : (root k j : ℕ) → parent_operation_of u k ≡ parent_operation_of t j → IsInside u root k → IsInside t root j
  inside_back root k j same (Directly e) = Directly (sym same ∙ e)
  inside_back root k j same (Deeper p e i) = Deeper p (sym same ∙ e) (inside_back root p p (place_same p (holder_remains k p e)) i)

  inside_forth : (root k j : ℕ) → parent_operation_of u k ≡ parent_operation_of t j → IsInside t root j → IsInside u root k
  inside_forth root k j same (Directly e) = Directly (same ∙ e)
  inside_forth root k j same (Deeper p e i) = Deeper p (same ∙ e) (inside_forth root p p (place_same p (holder_remains k p (same ∙ e))) i)

  within_back : (root k : ℕ) → Remains k → IsWithin u root k → IsWithin t root k
  within_back root k y (inl e) = inl e
  within_back root k y (inr i) = inr (inside_back root k k (place_same k y) i)

  within_forth : (root k : ℕ) → Remains k → IsWithin t root k → IsWithin u root k
  within_forth root k y (inl e) = inl e
  within_forth root k y (inr i) = inr (inside_forth root k k (place_same k y) i)

  outer_remains : (p k : ℕ) → IsInside u p k → Remains p
  outer_remains p k (Directly e) = holder_remains k p e
  outer_remains p k (Deeper q e i) = outer_remains p q i

  -- a value that was there and is
  abbrev MakerStands : Def → Type 0
  MakerStands (Result q i) = Remains q
  MakerStands (Argument b i) = IsBlock t b

  pub record OldValue (v : ℕ) : Type 0 where
    pub maker : Def
    pub now : definition_of u v ≡ Some maker
    pub before : definition_of t v ≡ Some maker
    pub stands : MakerStands maker

  abbrev pub ValueCopy : ℕ → Type 0
  ValueCopy v = IsValueCopy m c t u x symbol w w' h s.block s.holds target apart v

  -- what is in a copy has its original in the callee's region
  original_in : (k b : ℕ) → x.copied b ≡ true → parent_of u k ≡ Some b → parent_of t (x.originals.operation k) ≡ Some (x.originals.block b)
  original_in k b e p = w.bodies.owned (x.originals.operation k) (x.originals.block b) (subst (In (x.originals.operation k)) (sym (h.copies b e).body) (in_map x.originals.operation (body_of u b) k (w'.bodies.listed k b p)))

  made_of : (v : ℕ) → IsDefined u v → OldValue v ⊎ (IsFreshKey t v × ValueCopy v)
  made_of v is = let y = maker_is u v is in go y.0 y.1 y.2
    where
      result : (q i : ℕ) → definition_of u v ≡ Some (Result q i) → slice_get (results_of u q) i ≡ Some v → Kind q → OldValue v ⊎ (IsFreshKey t v × ValueCopy v)
      result q i e l (IsOld y) = inl (record { maker = Result q i; now = e; before = w.joined.results q i v (ap (λ z. slice_get z.results i) (sym (same_row q y)) ∙ l); stands = y })
      result q i e l (IsNew f) = absurd (subst (In v) (s.no_results q (inl f)) (in_slice (results_of u q) i v l))
      result q i e l (IsInCopy b f p y) = inr (
        y.results v (in_slice (results_of u q) i v l),
        CopiedResult q i b f p (original_in q b f p) e (w.joined.results (x.originals.operation q) i (x.originals.value v) (ap (λ z. slice_get z i) y.same.results ∙ slice_map x.originals.value (results_of u q) i v l)),
      )
      result q i e l (IsJumpBack b f p last y) = absurd (subst (In v) (s.no_results q (inr y)) (in_slice (results_of u q) i v l))

      argument : (b i : ℕ) → definition_of u v ≡ Some (Argument b i) → slice_get (arguments_of u b) i ≡ Some v → IsBlock t b ⊎ (x.copied b ≡ true) → OldValue v ⊎ (IsFreshKey t v × ValueCopy v)
      argument b i e l (inl y) = inl (record { maker = Argument b i; now = e; before = w.joined.arguments b i v (ap (λ z. slice_get z i) (sym (h.arguments b y)) ∙ l); stands = y })
      argument b i e l (inr f) = inr (
        (h.copies b f).fresh v (in_slice (arguments_of u b) i v l),
        CopiedArgument b i f e (w.joined.arguments (x.originals.block b) i (x.originals.value v) (ap (λ z. slice_get z i) (h.copies b f).arguments ∙ slice_map x.originals.value (arguments_of u b) i v l)),
      )

      go : (d : Def) → definition_of u v ≡ Some d → IsMadeBy u v (Some d) → OldValue v ⊎ (IsFreshKey t v × ValueCopy v)
      go (Result q i) e l = result q i e l (kind q (result_live u w'.joined q i v l))
      go (Argument b i) e l = argument b i e l (s.blocks b (argument_stands u w'.joined b i v l))

  not_fresh : (v : ℕ) → IsDefined t v → IsFreshKey t v → ⊥
  not_fresh v is f = let y = maker_is t v is in not_none (sym (slice_get_past t.definitions v f) ∙ y.1)

  old_value : (v : ℕ) → IsDefined t v → IsDefined u v → OldValue v
  old_value v was is = ⊎_elim (λ y. y) (λ z. absurd (not_fresh v was z.0)) (made_of v is)

  copy_value : (v : ℕ) → IsFreshKey t v → IsDefined u v → ValueCopy v
  copy_value v f is = ⊎_elim (λ y. absurd (not_none (sym (slice_get_past t.definitions v f) ∙ y.before))) (λ z. z.1) (made_of v is)

  made_back : (root v : ℕ) → OldValue v → IsDefinedInside u root v → IsDefinedInside t root v
  made_back root v y i = subst (IsDefiningOperationInside t root) (sym y.before) (go y.maker y.stands (subst (IsDefiningOperationInside u root) y.now i))
    where
      go : (d : Def) → MakerStands d → IsDefiningOperationInside u root (Some d) → IsDefiningOperationInside t root (Some d)
      go (Result q j) st i = inside_back root q q (place_same q st) i
      go (Argument b j) st i = let p = block_back b i.0 st i.1 in (i.0, p.0, within_back root i.0 p.1 i.2)

  made_forth : (root v : ℕ) → OldValue v → IsDefinedInside t root v → IsDefinedInside u root v
  made_forth root v y i = subst (IsDefiningOperationInside u root) (sym y.now) (go y.maker y.stands (subst (IsDefiningOperationInside t root) y.before i))
    where
      go : (d : Def) → MakerStands d → IsDefiningOperationInside t root (Some d) → IsDefiningOperationInside u root (Some d)
      go (Result q j) st i = inside_forth root q q (place_same q st) i
      go (Argument b j) st i =
          let e : block_parent_operation_of u b ≡ Some i.0 = block_same b st ∙ i.1 in
          (i.0, e, within_forth root i.0 (block_back b i.0 st e).1 i.2)

  maker_parent : (v : ℕ) → OldValue v → (q i : ℕ) → definition_of t v ≡ Some (Result q i) → parent_of u q ≡ parent_of t q
  maker_parent v y q i e = same_parent q (subst MakerStands (some_is (sym y.before ∙ e)) y.stands)

  -- an operation that holds a copy holds what the copies define
  holds_copies : (root k b d : ℕ) → x.copied b ≡ true → parent_of u k ≡ Some b → IsInside u root k → x.copied d ≡ true → HoldsBlock u root d
  holds_copies root k b d e p i f = let y = block_inside b p i in (y.0, beside_held d (s.beside d f) ∙ sym (beside_held b (s.beside b e)) ∙ y.1, y.2)

  copy_inside : (root k b v : ℕ) → x.copied b ≡ true → parent_of u k ≡ Some b → IsInside u root k → ValueCopy v → IsDefinedInside u root v
  copy_inside root k b v e p i (CopiedArgument d j f du dt) = subst (IsDefiningOperationInside u root) (sym du) (holds_copies root k b d e p i f)
  copy_inside root k b v e p i (CopiedResult q j d f home original du dt) = subst (IsDefiningOperationInside u root) (sym du) (inside_block d home (holds_copies root k b d e p i f))

  copies_distinct : (b : ℕ) → x.copied b ≡ true → IsDistinct (map x.originals.operation (body_of u b))
  copies_distinct b e = subst IsDistinct (h.copies b e).body (w.bodies.distinct (x.originals.block b))

  same_in_copy : (k j b : ℕ) → x.copied b ≡ true → In k (body_of u b) → In j (body_of u b) → x.originals.operation k ≡ x.originals.operation j → k ≡ j
  same_in_copy k j b e i l same = map_apart x.originals.operation (body_of u b) k j (copies_distinct b e) i l same

  operations_apart : (k j d e : ℕ) → x.copied d ≡ true → x.copied e ≡ true → parent_of u k ≡ Some d → parent_of u j ≡ Some e → x.originals.operation k ≡ x.originals.operation j → k ≡ j
  operations_apart k j d e f g p q same = same_in_copy k j d f (w'.bodies.listed k d p) (subst (λ z. In j (body_of u z)) (sym one) (w'.bodies.listed j e q)) same
    where
      one : d ≡ e
      one = s.apart d e f g (some_is (sym (original_in k d f p) ∙ ap (λ z. parent_of t z) same ∙ original_in j e g q))

  -- the region of the call begins as it did
  entry_there : (e : ℕ) → first_of (layout_of u s.region) None ≡ Some e → IsBlock t e
  entry_there e first =
      let r = slot_is t s.region (w.joined.placed s.block s.region s.in_region) in
      let before = sym (h.entries r.0.op s.region (in_slice (regions_of t r.0.op) r.0.index s.region r.2)) ∙ first in
      subst IsSome (sym (w.layouts.owned e s.region (first_of-In e (layout_of t s.region) before))) refl

  only : (b q : ℕ) → In q (b ∷ []) → q ≡ b
  only b q i = ⊎_elim (λ e. e) (λ z. absurd z) i

  after_there : IsBlock t x.after
  after_there = subst IsSome (sym s.target) refl

  not_new : (k : ℕ) → Remains k → k ≡ x.new → ⊥
  not_new k y e = true≢false (sym y.live ∙ ap (λ z. is_some (head_of t z)) e ∙ ap is_some s.absent_jump)

  new_absent : (b : ℕ) → In x.new (body_of t b) → ⊥
  new_absent b i = true≢false (sym (w.joined.all_in_place x.new b (w.bodies.owned x.new b i)).0 ∙ ap is_some s.absent_jump)

  new_operands : (k v : ℕ) → k ≡ x.new → In v (operands_of u k) → In v (operands_of t x.call)
  new_operands k v e i = subst (In v) h.operands_passed (subst (λ z. In v (operands_of u z)) e i)

  old_operands : (k v : ℕ) → Remains k → In v (operands_of u k) → In v (operands_of t k)
  old_operands k v y i = subst (In v) (same_operands k y) i

  copy_operands : (k v : ℕ) → IsCopy m t u x k → In v (operands_of u k) → In (x.originals.value v) (operands_of t (x.originals.operation k))
  copy_operands k v y i = subst (In (x.originals.value v)) (sym y.same.operands) (in_map x.originals.value (operands_of u k) v i)

  jump_operands : (k v : ℕ) → IsReturnReplaced m t u x k → In v (operands_of u k) → In (x.originals.value v) (operands_of t (x.originals.operation k))
  jump_operands k v y i = subst (In (x.originals.value v)) (sym y.operands) (in_map x.originals.value (operands_of u k) v i)

  copy_results : (k v : ℕ) → IsCopy m t u x k → In v (results_of u k) → In (x.originals.value v) (results_of t (x.originals.operation k))
  copy_results k v y i = subst (In (x.originals.value v)) (sym y.same.results) (in_map x.originals.value (results_of u k) v i)

  result_before : (k v : ℕ) → In v (results_of t k) → IsDefined t v
  result_before k v i = let n = slice_in (results_of t k) v i in subst (IsMadeBy t v) (sym (w.joined.results k n.0 v n.1)) n.1

  -- an old operation ends its block where it did, and so does a copy
  last_old : (k b : ℕ) → Remains k → parent_of t k ≡ Some b → last_of None (body_of t b) ≡ Some k → last_of None (body_of u b) ≡ Some k
  last_old k b y p e = ⊎_elim
      (λ f. absurd (y.not_jump (some_is (sym e ∙ ap (λ z. last_of None (body_of t z)) f ∙ last_jump x (body_of t s.block) (body_of u s.block) (h.bodies s.block call_block) call_in None))))
      (λ ne. ap (last_of None) (body_same x (body_of t b) (body_of u b) (h.bodies b (w.joined.all_in_place k b p).1) (elsewhere m c t u x symbol w w' h s.block s.holds target b ne)) ∙ e)
      (cases_eq b s.block)

  last_copy : (k b : ℕ) → x.copied b ≡ true → parent_of u k ≡ Some b → last_of None (body_of t (x.originals.block b)) ≡ Some (x.originals.operation k) → last_of None (body_of u b) ≡ Some k
  last_copy k b e p l =
      let r = option_map_some x.originals.operation (last_of None (body_of u b)) (x.originals.operation k) (sym (last_map x.originals.operation None (body_of u b)) ∙ ap (last_of None) (sym (h.copies b e).body) ∙ l) in
      r.1 ∙ ap Some (same_in_copy r.0 k b e (last_of-In r.0 (body_of u b) r.1) (w'.bodies.listed k b p) r.2)

  -- where the callee is fit, what is in the copies is well defined
  module _ (g : IsFit m t x.callee) where
    original_place : (k b : ℕ) → x.copied b ≡ true → parent_of u k ≡ Some b → parent_operation_of t (x.originals.operation k) ≡ Some x.callee
    original_place k b e p =
        holder_from t (x.originals.operation k) (x.originals.block b) (original_in k b e p)
        ∙ block_holder_from t (x.originals.block b) x.region (h.copies b e).original
        ∙ ap op_of_slot (w.joined.regions x.callee 0 x.region (ap (λ l. slice_get l 0) h.callee.holds))

    original_inside : (k b : ℕ) → x.copied b ≡ true → parent_of u k ≡ Some b → IsInside t x.callee (x.originals.operation k)
    original_inside k b e p = Directly (original_place k b e p)

    from_copy : (user v b : ℕ) → x.copied b ≡ true → parent_of u user ≡ Some b → In v (operands_of u user) → IsFreshKey t v → In (x.originals.value v) (operands_of t (x.originals.operation user)) → IsDominated u user v
    from_copy user v b e p i fresh j = copy_dominated m c t u x symbol w w' h s.block s.holds target apart s.apart operations_apart s.region s.beside user v b e p (copy_value v fresh (w'.joined.operands user v i)) d around in_block entry_there
      where
        made : IsDefinedInside t x.callee (x.originals.value v)
        made = g.defined.own_values (x.originals.operation user) (x.originals.value v) (original_inside user b e p) j

        d : IsDominated t (x.originals.operation user) (x.originals.value v)
        d = g.defined.dominated (x.originals.operation user) (x.originals.value v) j made

        around : d.around ≡ x.originals.operation user
        around = used_directly t w x.callee (x.originals.operation user) (x.originals.value v) (original_place user b e p) made d

        in_block : d.block ≡ x.originals.block b
        in_block = some_is (sym d.in_block ∙ ap (λ z. parent_of t z) around ∙ original_in user b e p)

    module _ (root : ℕ) (f : IsFit m t root) (live : IsLive u root) where
      root_stays : Remains root
      root_stays = remains root f.live live

      back : (k : ℕ) → Remains k → IsInside u root k → IsInside t root k
      back k y i = inside_back root k k (place_same k y) i

      new_back : (k : ℕ) → k ≡ x.new → IsInside u root k → IsInside t root x.call
      new_back k e i = inside_back root k x.call (place_new k e) i

      own_values : (k v : ℕ) → IsInside u root k → In v (operands_of u k) → IsDefinedInside u root v
      own_values k v i j = go (kind k (user_live u w' k v j))
        where
          is : IsDefined u v
          is = w'.joined.operands k v j

          old : (q : ℕ) → IsInside t root q → In v (operands_of t q) → IsDefinedInside u root v
          old q inside was = made_forth root v (old_value v (w.joined.operands q v was) is) (f.defined.own_values q v inside was)

          go : Kind k → IsDefinedInside u root v
          go (IsOld y) = old k (back k y i) (old_operands k v y j)
          go (IsNew e) = old x.call (new_back k e i) (new_operands k v e j)
          go (IsInCopy b e p y) = copy_inside root k b v e p i (copy_value v (y.operands v j) is)
          go (IsJumpBack b e p l y) = copy_inside root k b v e p i (copy_value v (y.fresh v j) is)

      ssa : (k r : ℕ) → IsWithin u root k → In r (regions_of u k) → IsTrue (has_ssa u r)
      ssa k r i j =
          let stays = holder_stays k r j in
          let rows = same_row k stays in
          let before : In r (regions_of t k) = subst (In r) (ap (λ z. z.regions) rows) j in
          let y = slice_in (regions_of t k) r before in
          let z = slice_in (regions_of u k) r j in
          let there : region_parent_of t r ≡ Some k = ap op_of_slot (w.joined.regions k y.0 r y.1) in
          let here : region_parent_of u r ≡ Some k = ap op_of_slot (w'.joined.regions k z.0 r z.1) in
          let old : IsTrue (has_ssa_at t (Some k)) = subst (λ o. IsTrue (has_ssa_at t o)) there (f.defined.dominance k r (within_back root k stays i) before) in
          subst (λ o. IsTrue (has_ssa_at u o)) (sym here) (subst (λ q. IsTrue (ssa_in q)) (sym (ap (λ q. q.head) rows)) old)

      forwards_old : (k i b : ℕ) (o : Operation) → Remains k → IsInside u root k → op_at u k ≡ Some o → IsTrue (m.is_branch o.head) → slice_get o.successors i ≡ Some b → length (m.forwarded (shape_of m u o) i) ≡ length (arguments_of u b)
      forwards_old k i b o y inside e br l =
          ap (λ z. length (m.forwarded z i)) (shape_same m c t u x symbol w w' h k o (stays_at m c t u x symbol w w' h k o before y.not_call y.not_jump))
          ∙ f.defined.forwards k i b o (back k y inside) before br l
          ∙ ap length (sym (h.arguments b (w.joined.successors k b (old_successor b (subst (In b) (sym (op_shows u k o e).successors) (in_slice o.successors i b l))))))
        where
          old_successor : (z : ℕ) → In z (successors_of u k) → In z (successors_of t k)
          old_successor z j = subst (In z) (same_successors k y) j

          before : op_at t k ≡ Some o
          before = live_op_at t k y.live ∙ sym (stays_at m c t u x symbol w w' h k (live_op t k y.live) (live_op_at t k y.live) y.not_call y.not_jump).other ∙ e

      forwards_copy : (k i b d : ℕ) (o : Operation) → x.copied d ≡ true → parent_of u k ≡ Some d → IsCopy m t u x k → op_at u k ≡ Some o → IsTrue (m.is_branch o.head) → slice_get o.successors i ≡ Some b → length (m.forwarded (shape_of m u o) i) ≡ length (arguments_of u b)
      forwards_copy k i b d o cd p y e br l =
          ap (λ z. length (m.forwarded (shape_of m u z) i)) (sym same)
          ∙ ap (λ z. length (m.forwarded z i)) (sym r.shape)
          ∙ g.defined.forwards (x.originals.operation k) i (x.originals.block b) r.original (original_inside k d cd p) r.original_at branch target_before
          ∙ ap length (h.copies b copied).arguments
          ∙ length-map (arguments_of u b) x.originals.value
        where
          r : HasOriginal m t u x k
          r = has_original m t u x h.copies k y

          same : r.copy ≡ o
          same = some_is (sym r.at ∙ e)

          successor : slice_get r.copy.successors i ≡ Some b
          successor = subst (λ z. slice_get z.successors i ≡ Some b) (sym same) l

          copied : x.copied b ≡ true
          copied = y.leads b (subst (In b) (sym r.own_successors) (in_slice r.copy.successors i b successor))

          target_before : slice_get r.original.successors i ≡ Some (x.originals.block b)
          target_before = ap (λ z. slice_get z i) r.successors ∙ slice_map x.originals.block r.copy.successors i b successor

          heads : r.original.head ≡ o.head
          heads = some_is (sym (op_shows t (x.originals.operation k) r.original r.original_at).head ∙ y.same.head ∙ (op_shows u k o e).head)

          branch : IsTrue (m.is_branch r.original.head)
          branch = subst (λ z. IsTrue (m.is_branch z)) (sym heads) br

      forwards : (k i b : ℕ) (o : Operation) → IsInside u root k → op_at u k ≡ Some o → IsTrue (m.is_branch o.head) → slice_get o.successors i ≡ Some b → length (m.forwarded (shape_of m u o) i) ≡ length (arguments_of u b)
      forwards k i b o inside e br l = go (kind k (subst IsSome (sym (op_shows u k o e).head) refl))
        where
          go : Kind k → length (m.forwarded (shape_of m u o) i) ≡ length (arguments_of u b)
          go (IsOld y) = forwards_old k i b o y inside e br l
          go (IsNew n) = (s.fits k (inl n)).forwards o i b e br l
          go (IsInCopy d cd p y) = forwards_copy k i b d o cd p y e br l
          go (IsJumpBack d cd p last y) = (s.fits k (inr y)).forwards o i b e br l

      terminators : (k b : ℕ) (hd : Head) → IsInside u root k → head_of u k ≡ Some hd → IsTrue (m.is_terminator hd) → parent_of u k ≡ Some b → last_of None (body_of u b) ≡ Some k
      terminators k b hd i e tr p = go (kind k (subst IsSome (sym e) refl))
        where
          go : Kind k → last_of None (body_of u b) ≡ Some k
          go (IsOld y) =
              let before : parent_of t k ≡ Some b = sym (same_parent k y) ∙ p in
              last_old k b y before (f.defined.terminators k b hd (back k y i) (ap (λ z. z.head) (sym (same_row k y)) ∙ e) tr before)
          go (IsNew n) =
              let one : b ≡ s.block = some_is (sym p ∙ ap (λ z. parent_of u z) n ∙ new_in) in
              ap (λ z. last_of None (body_of u z)) one ∙ new_last ∙ ap Some (sym n)
          go (IsInCopy d cd q y) =
              let one : d ≡ b = some_is (sym q ∙ p) in
              ap (λ z. last_of None (body_of u z)) (sym one) ∙ last_copy k d cd q (g.defined.terminators (x.originals.operation k) (x.originals.block d) hd (original_inside k d cd q) (y.same.head ∙ e) tr (original_in k d cd q))
          go (IsJumpBack d cd q last y) =
              let one : d ≡ b = some_is (sym q ∙ p) in
              ap (λ z. last_of None (body_of u z)) (sym one) ∙ last

      unused_old : (k v user : ℕ) → Remains k → IsInside u root k → successors_of u k ≢ [] → In v (results_of u k) → In v (operands_of u user) → ⊥
      unused_old k v user y i ne j l = go (kind user (user_live u w' user v l))
        where
          made : In v (results_of t k)
          made = subst (In v) (ap (λ z. z.results) (same_row k y)) j

          not : (q : ℕ) → In v (operands_of t q) → ⊥
          not q z = f.defined.unused k v q (back k y i) (λ e. ne (same_successors k y ∙ e)) made z

          go : Kind user → ⊥
          go (IsOld z) = not user (old_operands user v z l)
          go (IsNew e) = not x.call (new_operands user v e l)
          go (IsInCopy b e p z) = not_fresh v (result_before k v made) (z.operands v l)
          go (IsJumpBack b e p last z) = not_fresh v (result_before k v made) (z.fresh v l)

      unused_copy : (k v user b : ℕ) → x.copied b ≡ true → parent_of u k ≡ Some b → IsCopy m t u x k → successors_of u k ≢ [] → In v (results_of u k) → In v (operands_of u user) → ⊥
      unused_copy k v user b e p y ne j l = go (kind user (user_live u w' user v l))
        where
          not : (q : ℕ) → In (x.originals.value v) (operands_of t q) → ⊥
          not q z = g.defined.unused (x.originals.operation k) (x.originals.value v) q (original_inside k b e p) (λ n. ne (map_none x.originals.block (successors_of u k) (sym y.same.successors ∙ n))) (copy_results k v y j) z

          go : Kind user → ⊥
          go (IsOld z) = not_fresh v (w.joined.operands user v (old_operands user v z l)) (y.results v j)
          go (IsNew n) = not_fresh v (w.joined.operands x.call v (new_operands user v n l)) (y.results v j)
          go (IsInCopy d cd q z) = not (x.originals.operation user) (copy_operands user v z l)
          go (IsJumpBack d cd q last z) = not (x.originals.operation user) (jump_operands user v z l)

      unused : (k v user : ℕ) → IsInside u root k → successors_of u k ≢ [] → In v (results_of u k) → In v (operands_of u user) → ⊥
      unused k v user i ne j l = go (kind k (holder_live u k (inside_up i).0 w'.joined (inside_up i).1).0)
        where
          go : Kind k → ⊥
          go (IsOld y) = unused_old k v user y i ne j l
          go (IsNew e) = subst (In v) (s.no_results k (inl e)) j
          go (IsInCopy b e p y) = unused_copy k v user b e p y ne j l
          go (IsJumpBack b e p last y) = subst (In v) (s.no_results k (inr y)) j

      -- a use of a value that was there is dominated as it was
      module _ (v : ℕ) (y : OldValue v) where
        stays_dominated : (user user' around : ℕ) (d : IsDominated t user v) → IsWithin u around user' → parent_of u around ≡ parent_of t d.around
            → ((done rest : List ℕ) → body_of u d.block ≡ done ++ around ∷ rest → (rest' : List ℕ) × (body_of t d.block ≡ done ++ d.around ∷ rest')) → IsDominated u user' v
        stays_dominated user user' around d within stands splits = still_dominated m c t u x symbol w w' h s.block s.holds target apart user user' v around d within stands splits (y.now ∙ sym y.before) (maker_parent v y)

        as_before : (user user' : ℕ) (d : IsDominated t user v) → IsWithin u d.around user' → Remains d.around → IsDominated u user' v
        as_before user user' d within st = stays_dominated user user' d.around d within (same_parent d.around st)
            (λ done rest e. split_back x (body_of t d.block) (body_of u d.block) done rest d.around (h.bodies d.block (w.joined.all_in_place d.around d.block d.in_block).1) (λ n. not_new d.around st n) e)

        old_user : (user : ℕ) → Remains user → IsDominated t user v → IsDominated u user v
        old_user user st d = go d.holds
          where
            go : IsWithin t d.around user → IsDominated u user v
            go (inl e) = as_before user user d (inl e) (subst Remains e st)
            go (inr i) = let inside = inside_forth d.around user user (place_same user st) i in as_before user user d (inr inside) (outer_remains d.around user inside)

        new_user : (user : ℕ) → user ≡ x.new → IsDominated t x.call v → IsDominated u user v
        new_user user n d = go d.holds
          where
            go : IsWithin t d.around x.call → IsDominated u user v
            go (inr i) = let inside = inside_forth d.around user x.call (place_new user n) i in as_before x.call user d (inr inside) (outer_remains d.around user inside)
            go (inl e) = stays_dominated x.call user x.new d (inl n) (new_in ∙ sym s.holds ∙ ap (λ z. parent_of t z) e)
                (λ done rest l.
                let r = new_split_back x (body_of t d.block) (body_of u d.block) done rest (h.bodies d.block (w.joined.all_in_place d.around d.block d.in_block).1) (new_absent d.block) l in
                (r.0, r.1 ∙ ap (λ z. done ++ z ∷ r.0) e))

      dominated : (user v : ℕ) → In v (operands_of u user) → IsDefinedInside u root v → IsDominated u user v
      dominated user v i made = go (kind user (user_live u w' user v i))
        where
          value : (q : ℕ) → In v (operands_of t q) → OldValue v
          value q j = old_value v (w.joined.operands q v j) (w'.joined.operands user v i)

          before : (q : ℕ) → In v (operands_of t q) → IsDominated t q v
          before q j = f.defined.dominated q v j (made_back root v (value q j) made)

          go : Kind user → IsDominated u user v
          go (IsOld y) = let j = old_operands user v y i in old_user v (value user j) user y (before user j)
          go (IsNew n) = let j = new_operands user v n i in new_user v (value x.call j) user n (before x.call j)
          go (IsInCopy b e p y) = from_copy user v b e p i (y.operands v i) (copy_operands user v y i)
          go (IsJumpBack b e p last y) = from_copy user v b e p i (y.fresh v i) (jump_operands user v y i)

      defined : WellDefined m u root
      defined = record {
        no_successors = same_successors root root_stays ∙ f.defined.no_successors;
        own_values = own_values;
        dominance = ssa;
        forwards = forwards;
        terminators = terminators;
        unused = unused;
        dominated = dominated;
      }

      held_back : (k z : ℕ) → Remains k → In z (successors_of t k) → IsInside u root k ⊎ HoldsBlock u root z → IsInside t root k ⊎ HoldsBlock t root z
      held_back k z y i (inl j) = inl (back k y j)
      held_back k z y i (inr q) = let r = block_back z q.0 (w.joined.successors k z i) q.1 in inr (q.0, r.0, within_back root q.0 r.1 q.2)

      edges_old : (k z : ℕ) → Remains k → In z (successors_of u k) → IsInside u root k ⊎ HoldsBlock u root z → EndsBlock u k
      edges_old k z y i held = record {
        block = ends.block;
        in_block = same_parent k y ∙ ends.in_block;
        last = last_old k ends.block y ends.in_block ends.last;
        own_region = λ q j. h.block_parents q (w.joined.successors k q (led q j)) ∙ ends.own_region q (led q j) ∙ sym (h.block_parents ends.block (w.joined.all_in_place k ends.block ends.in_block).1);
      }
        where
          led : (q : ℕ) → In q (successors_of u k) → In q (successors_of t k)
          led q j = subst (In q) (same_successors k y) j

          ends : EndsBlock t k
          ends = f.linked.edges k z (led z i) (held_back k z y (led z i) held)

      edges_copy : (k z b : ℕ) → x.copied b ≡ true → parent_of u k ≡ Some b → IsCopy m t u x k → In z (successors_of u k) → EndsBlock u k
      edges_copy k z b e p y i = record {
        block = b;
        in_block = p;
        last = last_copy k b e p (ap (λ q. last_of None (body_of t q)) (some_is (sym (original_in k b e p) ∙ ends.in_block)) ∙ ends.last);
        own_region = λ q j. s.beside q (y.leads q j) ∙ sym (s.beside b e);
      }
        where
          ends : EndsBlock t (x.originals.operation k)
          ends = g.linked.edges (x.originals.operation k) (x.originals.block z) (subst (In (x.originals.block z)) (sym y.same.successors) (in_map x.originals.block (successors_of u k) z i)) (inl (original_inside k b e p))

      edges : (k z : ℕ) → In z (successors_of u k) → IsInside u root k ⊎ HoldsBlock u root z → EndsBlock u k
      edges k z i held = go (kind k (jumper_live u w' k z i))
        where
          go : Kind k → EndsBlock u k
          go (IsOld y) = edges_old k z y i held
          go (IsNew n) = record {
            block = s.block;
            in_block = ap (λ q. parent_of u q) n ∙ new_in;
            last = new_last ∙ ap Some (sym n);
            own_region = λ q j. ap (λ o. block_parent_of u o) (only x.entry q (subst (In q) h.enters.leads (subst (λ o. In q (successors_of u o)) n j))) ∙ s.beside x.entry h.entry_copied ∙ sym region_after;
          }
          go (IsInCopy b e p y) = edges_copy k z b e p y i
          go (IsJumpBack b e p last y) = record {
            block = b;
            in_block = p;
            last = last;
            own_region = λ q j. ap (λ o. block_parent_of u o) (only x.after q (subst (In q) y.jumps.leads j)) ∙ h.block_parents x.after after_there ∙ s.target ∙ sym (s.beside b e);
          }

      admitted : (k : ℕ) → IsWithin u root k → IsAdmitted m u k
      admitted k i = go (kind k (within_live i))
        where
          within_live : IsWithin u root k → IsLive u k
          within_live (inl e) = subst (IsLive u) (sym e) live
          within_live (inr j) = (holder_live u k (inside_up j).0 w'.joined (inside_up j).1).0

          go : Kind k → IsAdmitted m u k
          go (IsOld y) =
              let rows = same_row k y in
              admitted_same m t u k (ap (λ z. z.head) rows) (ap length (same_operands k y)) (ap (λ z. length z.results) rows) (ap length (same_successors k y)) (ap (λ z. length z.regions) rows) (f.linked.admitted k (within_back root k y i))
          go (IsNew n) = (s.fits k (inl n)).admitted
          go (IsInCopy b e p y) = admitted_as m t u (x.originals.operation k) k y.same.head
              (sym (ap length y.same.operands ∙ length-map (operands_of u k) x.originals.value))
              (sym (ap length y.same.results ∙ length-map (results_of u k) x.originals.value))
              (sym (ap length y.same.successors ∙ length-map (successors_of u k) x.originals.block))
              (sym (ap length y.same.regions ∙ length-map (regions_of u k) x.originals.region))
              (g.linked.admitted (x.originals.operation k) (inr (original_inside k b e p)))
          go (IsJumpBack b e p last y) = (s.fits k (inr y)).admitted

      stays_fit : IsFit m u root
      stays_fit = record {
        live = live;
        chosen = λ y e. f.chosen y (ap (λ z. z.head) (sym (same_row root root_stays)) ∙ e);
        defined = defined;
        linked = record { edges = edges; admitted = admitted };
      }

pub inlined_roots : InlinedRootsLaw
inlined_roots m c t u x symbol w w' h s g root f live = stays_fit m c t u x symbol w w' h s g root f live

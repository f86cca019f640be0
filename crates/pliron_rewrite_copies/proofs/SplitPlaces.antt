-- Where operations and blocks stand in a tree in which a block was split.
use Rattle.std.proofs.Common.{◌≡◌, ◌≢◌, ◌⊎◌, inl, inr, ⊎_elim, ℕ, ◌<◌, ◌≤◌, true≢false, List, [], ◌∷◌, ◌++◌, length, Option, Some, None, IsSome, is_some, IsTrue, slice_get, refl, sym, ap, ◌∙◌, subst, arith, append_assoc}
use Rattle.std.proofs.lemmas.Bool.{cases_eq}
use Rattle.pliron_core.specs.declared.context.Def.{Def}
use Rattle.pliron_core.specs.declared.context.Def.TheVariants.{Result, Argument}
use Rattle.pliron_core.specs.Changes.{IsDefinedInside, IsDefiningOperationInside}
use Rattle.pliron_core.specs.Edges.{succs_from}
use Rattle.pliron_core.specs.Reads.{has_ssa, has_ssa_at, ssa_in}
use Rattle.pliron_core.specs.Tree.{Tree, In, first_of, last_of, IsLive, IsMadeBy, IsInside, IsInside.Directly, IsInside.Deeper, IsWithin, HoldsBlock, head_of, operands_of, successors_of, results_of, regions_of, parent_of, body_of, arguments_of, block_parent_of, layout_of, region_parent_of, block_parent_operation_of, parent_operation_of, definition_of, up_from, op_of_slot, without}
use Rattle.pliron_core.specs.Invariant.{IsTree}
use Rattle.pliron_core.proofs.HoldingLemmas.{some_is, not_none, in_slice, slice_in, maker_is, holder_is, holder_by}
use Rattle.pliron_core.proofs.ListLemmas.{In-left, In-right, In-cases}
use Rattle.pliron_core.proofs.NeighbourLemmas.{last_of-In, first_of-In}
use Rattle.pliron_core.proofs.RowLemmas.{last_of-append}
use Rattle.pliron_laws.specs.Datum.{Head, Meaning}
use Rattle.pliron_laws.specs.Tree.{Operation, op_at, shape_of}
use Rattle.pliron_laws.specs.Agree.{Agree}
use Rattle.pliron_laws.specs.Paths.{Path, Leads}
use Rattle.pliron_laws.specs.Root.{defining_block, HasPassed, IsDominated, WellDefined}
use Rattle.pliron_laws.specs.Linked.{EndsBlock, IsAdmitted, IsWellLinked}
use Rattle.pliron_theory.specs.Keeps.{IsFit}
use Rattle.pliron_theory.specs.Splicing.{IsSpliced}
use Rattle.pliron_laws.proofs.Records.{op_shows}
use Rattle.pliron_theory.proofs.Keys.{split_append}
use Rattle.pliron_theory.proofs.SweptParts.{HasBlockPlace, block_place_of, block_held_at}
use Rattle.pliron_theory.proofs.SweptStays.{admitted_same}

-- the last of two lists in a row is that of the second, which is not empty
last_back : (xs ys : List ℕ) (before : Option ℕ) → ys ≢ [] → last_of before (xs ++ ys) ≡ last_of None ys
last_back [] [] before ne = absurd (ne refl)
last_back [] (y ∷ ys) before ne = refl
last_back (x ∷ xs) ys before ne = last_back xs ys (Some x) ne

module _ (m : Meaning) (t u : Tree) (a b jump : ℕ) (front : List ℕ) (w : IsTree t) (w' : IsTree u) (h : IsSpliced u t a b jump front) (some : body_of u b ≢ []) where
  pub jump_at : parent_of u jump ≡ Some a
  jump_at = w'.bodies.owned jump a (subst (In jump) (sym h.split) (In-right jump front (jump ∷ []) (inl refl)))

  pub jump_last : last_of None (body_of u a) ≡ Some jump
  jump_last = ap (last_of None) h.split ∙ last_of-append None front (jump ∷ [])

  pub not_jump : (k : ℕ) → IsLive t k → k ≢ jump
  not_jump k l e = true≢false (sym l ∙ ap (λ z. is_some (head_of t z)) e ∙ ap is_some h.deleted)

  pub in_t : (k c : ℕ) → parent_of t k ≡ Some c → k ≢ jump
  in_t k c e = not_jump k (w.joined.all_in_place k c e).0

  -- where an operation stands
  pub data StandsAt (k c : ℕ) : Type 0 where
    Moved : parent_of u k ≡ Some b → c ≡ a → StandsAt k c
    Same : parent_of u k ≡ Some c → c ≢ b → StandsAt k c

  pub stands : (k c : ℕ) → parent_of t k ≡ Some c → StandsAt k c
  stands k c e = go (parent_of u k) refl
    where
      other : (parent_of u k ≢ Some b) → parent_of u k ≡ Some c
      other ne = sym (h.parents k (in_t k c e) ne) ∙ e

      go : (x : Option ℕ) → parent_of u k ≡ x → StandsAt k c
      go None q = absurd (not_none (sym q ∙ other (λ z. not_none (sym q ∙ z))))
      go (Some d) q = ⊎_elim
          (λ s. Moved (q ∙ ap Some s) (some_is (sym e ∙ h.moved k (q ∙ ap Some s))))
          (λ ne. let here = other (λ z. ne (some_is (sym q ∙ z))) in Same here (λ s. ne (some_is (sym q ∙ here) ∙ s)))
          (cases_eq d b)

  -- holders
  pub holder_not_jump : (c p : ℕ) → block_parent_operation_of u c ≡ Some p → p ≢ jump
  holder_not_jump c p e s = let q = block_place_of u w' c p e in subst (In q.region) (ap (regions_of u) s ∙ h.childless) (in_slice (regions_of u p) q.index q.region q.listed)

  pub block_forth : (c p : ℕ) → c ≢ b → block_parent_operation_of u c ≡ Some p → block_parent_operation_of t c ≡ Some p
  block_forth c p ne e =
      let q = block_place_of u w' c p e in
      let listed = ap (λ z. slice_get z.regions q.index) (h.rows p (holder_not_jump c p e)) ∙ q.listed in
      block_held_at t c p (record { region = q.region; index = q.index; in_region = h.block_parents c ne ∙ q.in_region; slot = w.joined.regions p q.index q.region listed; listed = listed })

  block_back : (c p : ℕ) → block_parent_operation_of t c ≡ Some p → (block_parent_operation_of u c ≡ Some p) × (c ≢ b)
  block_back c p e =
      let q = block_place_of t w c p e in
      let ne : c ≢ b = λ s. not_none (sym h.detached_block ∙ ap (block_parent_of t) (sym s) ∙ q.in_region) in
      let np : p ≢ jump = λ s. subst (In q.region) (ap (regions_of t) s ∙ ap (λ z. z.regions) (w.joined.erased jump h.deleted).2) (in_slice (regions_of t p) q.index q.region q.listed) in
      let listed = ap (λ z. slice_get z.regions q.index) (sym (h.rows p np)) ∙ q.listed in
      (block_held_at u c p (record { region = q.region; index = q.index; in_region = sym (h.block_parents c ne) ∙ q.in_region; slot = w'.joined.regions p q.index q.region listed; listed = listed }), ne)

  beside_holder : block_parent_operation_of u b ≡ block_parent_operation_of u a
  beside_holder = ap (λ z. up_from z (λ r. region_parent_of u r)) h.beside

  holder_forth : (x p : ℕ) → x ≢ jump → parent_operation_of u x ≡ Some p → parent_operation_of t x ≡ Some p
  holder_forth x p ne e =
      let q = holder_is u x p e in
      ⊎_elim
      (λ s. holder_by t x a p (h.moved x (q.1 ∙ ap Some s)) (block_forth a p h.apart (sym beside_holder ∙ ap (block_parent_operation_of u) (sym s) ∙ q.2)))
      (λ nb. holder_by t x q.0 p (h.parents x ne (λ z. nb (some_is (sym q.1 ∙ z))) ∙ q.1) (block_forth q.0 p nb q.2))
      (cases_eq q.0 b)

  holder_back : (x p : ℕ) → parent_operation_of t x ≡ Some p → parent_operation_of u x ≡ Some p
  holder_back x p e = let q = holder_is t x p e in go q.0 (stands x q.0 q.1) (block_back q.0 p q.2).0
    where
      go : (c : ℕ) → StandsAt x c → block_parent_operation_of u c ≡ Some p → parent_operation_of u x ≡ Some p
      go c (Moved s z) f = holder_by u x b p s (beside_holder ∙ ap (block_parent_operation_of u) (sym z) ∙ f)
      go c (Same s z) f = holder_by u x c p s f

  pub inside_forth : (z x : ℕ) → x ≢ jump → IsInside u z x → IsInside t z x
  inside_forth z x ne (Directly e) = Directly (holder_forth x z ne e)
  inside_forth z x ne (Deeper p e i) = Deeper p (holder_forth x p ne e) (inside_forth z p (let q = holder_is u x p e in holder_not_jump q.0 p q.2) i)

  pub inside_back : (z x : ℕ) → IsInside t z x → IsInside u z x
  inside_back z x (Directly e) = Directly (holder_back x z e)
  inside_back z x (Deeper p e i) = Deeper p (holder_back x p e) (inside_back z p i)

  pub within_back : (z x : ℕ) → IsWithin t z x → IsWithin u z x
  within_back z x (inl e) = inl e
  within_back z x (inr i) = inr (inside_back z x i)

  pub within_forth : (z x : ℕ) → x ≢ jump → IsWithin u z x → IsWithin t z x
  within_forth z x ne (inl e) = inl e
  within_forth z x ne (inr i) = inr (inside_forth z x ne i)

  -- edges
  last_in : (c k : ℕ) → last_of None (body_of u c) ≡ Some k → parent_of u k ≡ Some c
  last_in c k q = w'.bodies.owned k c (last_of-In k (body_of u c) q)

  pub to_b : (c : ℕ) → Leads u c b → c ≡ a
  to_b c l = go (last_of None (body_of u c)) refl l.successor
    where
      go : (z : Option ℕ) → last_of None (body_of u c) ≡ z → In b (succs_from u z) → c ≡ a
      go None q i = absurd i
      go (Some k) q i = some_is (sym (last_in c k q) ∙ ap (parent_of u) (h.only k i) ∙ jump_at)

  last_of_a : last_of None (body_of t a) ≡ last_of None (body_of u b)
  last_of_a = ap (last_of None) h.joined ∙ last_back front (body_of u b) None some

  leads_forth : (c x : ℕ) → c ≢ a → c ≢ b → x ≢ b → Leads u c x → Leads t c x
  leads_forth c x na nb xb l = record { successor = go (last_of None (body_of u c)) refl l.successor; same_region = h.block_parents x xb ∙ l.same_region ∙ sym (h.block_parents c nb) }
    where
      go : (z : Option ℕ) → last_of None (body_of u c) ≡ z → In x (succs_from u z) → In x (succs_from t (last_of None (body_of t c)))
      go None q i = absurd i
      go (Some k) q i =
          let ne : k ≢ jump = λ s. na (some_is (sym (last_in c k q) ∙ ap (parent_of u) s ∙ jump_at)) in
          subst (λ z. In x (succs_from t z)) (sym (ap (last_of None) (h.bodies c na nb) ∙ q)) (subst (In x) (sym (h.successors k ne)) i)

  leads_from_b : (x : ℕ) → x ≢ b → Leads u b x → Leads t a x
  leads_from_b x xb l = record { successor = go (last_of None (body_of u b)) refl l.successor; same_region = h.block_parents x xb ∙ l.same_region ∙ h.beside ∙ sym (h.block_parents a h.apart) }
    where
      go : (z : Option ℕ) → last_of None (body_of u b) ≡ z → In x (succs_from u z) → In x (succs_from t (last_of None (body_of t a)))
      go None q i = absurd i
      go (Some k) q i =
          let ne : k ≢ jump = λ s. h.apart (some_is (sym jump_at ∙ ap (parent_of u) (sym s) ∙ last_in b k q)) in
          subst (λ z. In x (succs_from t z)) (sym (last_of_a ∙ q)) (subst (In x) (sym (h.successors k ne)) i)

  from_a : (x : ℕ) → Leads u a x → x ≡ b
  from_a x l = ⊎_elim (λ s. s) (λ z. absurd z) (subst (In x) h.goes (subst (λ z. In x (succs_from u z)) jump_last l.successor))

  -- a path to another block than b is one before, without b
  pub record HasWay (entry x : ℕ) (before : List ℕ) : Type 0 where
    pub blocks : List ℕ
    pub path : Path t entry x blocks
    pub same : (z : ℕ) → In z blocks → In z before
    pub ends : In a blocks → In b before

  pub way : (entry x : ℕ) (before : List ℕ) → entry ≢ b → x ≢ b → Path u entry x before → HasWay entry x before
  way entry x [] eb xb p = record { blocks = []; path = p; same = λ z i. absurd i; ends = λ i. absurd i }
  way entry x (c ∷ []) eb xb p =
      let cb : c ≢ b = λ s. eb (p.1 ∙ s) in
      let ca : c ≢ a = λ s. xb (from_a x (subst (λ z. Leads u z x) s p.0)) in
      record { blocks = c ∷ []; path = (leads_forth c x ca cb xb p.0, p.1); same = λ z i. i; ends = λ i. absurd (⊎_elim (λ s. ca (sym s)) (λ z. z) i) }
  way entry x (c ∷ d ∷ ds) eb xb p = ⊎_elim
      (λ s.
      let da : d ≡ a = to_b d (subst (Leads u d) s p.1.0) in
      let r = way entry a ds eb h.apart (subst (λ z. Path u entry z ds) da p.1.1) in
      record { blocks = a ∷ r.blocks; path = (leads_from_b x xb (subst (λ z. Leads u z x) s p.0), r.path); same = λ z i. ⊎_elim (λ q. inr (inl (q ∙ sym da))) (λ j. inr (inr (r.same z j))) i; ends = λ i. inl (sym s) })
      (λ cb.
      let ca : c ≢ a = λ s. xb (from_a x (subst (λ z. Leads u z x) s p.0)) in
      let r = way entry c (d ∷ ds) eb cb p.1 in
      record { blocks = c ∷ r.blocks; path = (leads_forth c x ca cb xb p.0, r.path); same = λ z i. ⊎_elim (λ q. inl q) (λ j. inr (r.same z j)) i; ends = λ i. ⊎_elim (λ q. absurd (ca (sym q))) (λ j. inr (r.ends j)) i })
      (cases_eq c b)

  -- values
  pub made_same : (k v : ℕ) → In v (operands_of u k) → definition_of t v ≡ definition_of u v
  made_same k v i = let d = maker_is u v (w'.joined.operands k v i) in go d.0 d.2 ∙ sym d.1
    where
      go : (d : Def) → IsMadeBy u v (Some d) → definition_of t v ≡ Some d
      go (Result q j) y = w.joined.results q j v (ap (λ z. slice_get z.results j) (h.rows q (λ s. subst (In v) (ap (results_of u) s ∙ h.no_results) (in_slice (results_of u q) j v y))) ∙ y)
      go (Argument c j) y = w.joined.arguments c j v (ap (λ z. slice_get z j) (h.arguments c (λ s. h.unused k v i (subst (λ z. In v (arguments_of u z)) s (in_slice (arguments_of u c) j v y)))) ∙ y)

  pub made_forth : (root : ℕ) (k v : ℕ) → In v (operands_of u k) → IsDefinedInside u root v → IsDefinedInside t root v
  made_forth root k v i made = let d = maker_is u v (w'.joined.operands k v i) in subst (IsDefiningOperationInside t root) (sym (made_same k v i ∙ d.1)) (go d.0 d.2 (subst (IsDefiningOperationInside u root) d.1 made))
    where
      go : (d : Def) → IsMadeBy u v (Some d) → IsDefiningOperationInside u root (Some d) → IsDefiningOperationInside t root (Some d)
      go (Result q j) y x = inside_forth root q (λ s. subst (In v) (ap (results_of u) s ∙ h.no_results) (in_slice (results_of u q) j v y)) x
      go (Argument c j) y x = (x.0, block_forth c x.0 (λ s. h.unused k v i (subst (λ z. In v (arguments_of u z)) s (in_slice (arguments_of u c) j v y))) x.1, within_forth root x.0 (holder_not_jump c x.0 x.1) x.2)

  pub made_back : (root : ℕ) (d : Option Def) → IsDefiningOperationInside t root d → IsDefiningOperationInside u root d
  made_back root None i = i
  made_back root (Some (Result k j)) i = inside_back root k i
  made_back root (Some (Argument c j)) i = (i.0, (block_back c i.0 i.1).0, within_back root i.0 i.2)

  region_back : (k c region : ℕ) → StandsAt k c → block_parent_of t c ≡ Some region → (d : ℕ) × (parent_of u k ≡ Some d) × (block_parent_of u d ≡ Some region)
  region_back k c region (Moved s z) e = (b, s, h.beside ∙ sym (h.block_parents a h.apart) ∙ ap (block_parent_of t) (sym z) ∙ e)
  region_back k c region (Same s nb) e = (c, s, sym (h.block_parents c nb) ∙ e)

  pub home_back : (region : ℕ) (d : Option Def) → up_from (defining_block t d) (λ c. block_parent_of t c) ≡ Some region → up_from (defining_block u d) (λ c. block_parent_of u c) ≡ Some region
  home_back region None e = e
  home_back region (Some (Argument c j)) e = sym (h.block_parents c (λ s. not_none (sym h.detached_block ∙ ap (block_parent_of t) (sym s) ∙ e))) ∙ e
  home_back region (Some (Result k j)) e = go (parent_of t k) refl e
    where
      go : (z : Option ℕ) → parent_of t k ≡ z → up_from z (λ c. block_parent_of t c) ≡ Some region → up_from (parent_of u k) (λ c. block_parent_of u c) ≡ Some region
      go None q f = absurd (not_none f)
      go (Some c) q f = let r = region_back k c region (stands k c q) f in ap (λ z. up_from z (λ c. block_parent_of u c)) r.1 ∙ r.2

  -- what passed before, passed after
  later_passed : (k : ℕ) (blocks before : List ℕ) → ((z : ℕ) → In z blocks → In z before) → (In a blocks → In b before) → (c : ℕ) → StandsAt k c → In c blocks → (d : ℕ) × (parent_of u k ≡ Some d) × In d before
  later_passed k blocks before same ends c (Moved s z) i = (b, s, ends (subst (λ y. In y blocks) z i))
  later_passed k blocks before same ends c (Same s nb) i = (c, s, same c i)

  pub passed_in_b : (x : Option Def) (blocks before done : List ℕ) → ((z : ℕ) → In z blocks → In z before) → (In a blocks → In b before) → HasPassed t x blocks a (front ++ done) → HasPassed u x (a ∷ before) b done
  passed_in_b None blocks before done same ends p = p
  passed_in_b (Some (Argument e j)) blocks before done same ends (inl s) = inr (inl s)
  passed_in_b (Some (Argument e j)) blocks before done same ends (inr i) = inr (inr (same e i))
  passed_in_b (Some (Result k j)) blocks before done same ends (inl i) = ⊎_elim
      (λ n. inr (a, w'.bodies.owned k a (subst (In k) (sym h.split) (In-left k front (jump ∷ []) n)), inl refl))
      (λ n. inl n)
      (In-cases k front done i)
  passed_in_b (Some (Result k j)) blocks before done same ends (inr x) = let y = later_passed k blocks before same ends x.0 (stands k x.0 x.1) x.2 in inr (y.0, y.1, inr y.2)

  pub passed_elsewhere : (x : Option Def) (c : ℕ) (blocks before done : List ℕ) → ((z : ℕ) → In z blocks → In z before) → (In a blocks → In b before) → HasPassed t x blocks c done → HasPassed u x before c done
  passed_elsewhere None c blocks before done same ends p = p
  passed_elsewhere (Some (Argument e j)) c blocks before done same ends (inl s) = inl s
  passed_elsewhere (Some (Argument e j)) c blocks before done same ends (inr i) = inr (same e i)
  passed_elsewhere (Some (Result k j)) c blocks before done same ends (inl i) = inl i
  passed_elsewhere (Some (Result k j)) c blocks before done same ends (inr x) = inr (later_passed k blocks before same ends x.0 (stands k x.0 x.1) x.2)

  -- a place of another block than b is one before
  pub split_forth : (x c : ℕ) (done rest : List ℕ) → x ≢ jump → c ≢ b → body_of u c ≡ done ++ x ∷ rest → (r : List ℕ) × (body_of t c ≡ done ++ x ∷ r)
  split_forth x c done rest ne nb e = ⊎_elim
      (λ s. ⊎_elim
      (λ r. (r.0 ++ body_of u b, ap (body_of t) s ∙ h.joined ∙ ap (λ l. l ++ body_of u b) r.1 ∙ append_assoc done (x ∷ r.0) (body_of u b)))
      (λ r. absurd (⊎_elim ne (λ z. z) (subst (In x) (sym r.2) (In-right x r.0 (x ∷ rest) (inl refl)))))
      (split_append x rest front (jump ∷ []) done (sym h.split ∙ ap (body_of u) (sym s) ∙ e)))
      (λ na. (rest, h.bodies c na nb ∙ e))
      (cases_eq c a)

  -- an operation that ends its block ends it after too
  pub last_forth : (k c : ℕ) → StandsAt k c → last_of None (body_of t c) ≡ Some k → (d : ℕ) × (parent_of u k ≡ Some d) × (last_of None (body_of u d) ≡ Some k) × (block_parent_of u d ≡ block_parent_of t c)
  last_forth k c (Moved s z) q = (b, s, sym last_of_a ∙ ap (λ y. last_of None (body_of t y)) (sym z) ∙ q, h.beside ∙ sym (h.block_parents a h.apart) ∙ ap (block_parent_of t) (sym z))
  last_forth k c (Same s nb) q = ⊎_elim
      (λ z. absurd (h.apart (some_is (ap Some (sym z) ∙ sym s ∙ last_in b k (sym last_of_a ∙ ap (λ y. last_of None (body_of t y)) (sym z) ∙ q)))))
      (λ na. (c, s, ap (last_of None) (sym (h.bodies c na nb)) ∙ q, sym (h.block_parents c nb)))
      (cases_eq c a)

-- The ways through blocks after a call was inlined, read back as ways before.
use Rattle.std.proofs.Common.{◌≡◌, ◌⊎◌, inl, inr, ⊎_elim, ℕ, true, List, [], ◌∷◌, ◌++◌, map, Option, Some, None, refl, sym, ap, ap₂, ◌∙◌, subst}
use Rattle.pliron_core.specs.Tree.{Tree, In, IsLive, IsBlock, last_of, successors_of, parent_of, body_of, block_parent_of}
use Rattle.pliron_core.specs.Invariant.{IsTree}
use Rattle.pliron_core.specs.Edges.{succs_of, succs_from}
use Rattle.std.proofs.lemmas.Bool.{cases_eq}
use Rattle.pliron_core.proofs.HoldingLemmas.{some_is}
use Rattle.pliron_core.proofs.NeighbourLemmas.{last_of-In}
use Rattle.pliron_laws.specs.Datum.{Datum, Meaning}
use Rattle.pliron_laws.specs.Paths.{Leads, Path}
use Rattle.pliron_pass_linked.specs.Calls.{CallingConvention}
use Rattle.pliron_rewrite_copies.proofs.Maps.{in_map}
use Rattle.pliron_rewrite_inlining.specs.Inlined.{InlinedCall, AreCopies, HasNewJump, IsCallInlined}

pub body_same : (x : InlinedCall) (xs ys : List ℕ) → HasNewJump x xs ys → (In x.call xs → ⊥) → ys ≡ xs
body_same x [] [] j out = refl
body_same x [] (y ∷ ys) j out = absurd j
body_same x (k ∷ ks) [] j out = absurd j
body_same x (k ∷ ks) (y ∷ ys) (inl j) out = ap₂ (λ a l. a ∷ l) j.2 (body_same x ks ys j.3 (λ i. out (inr i)))
body_same x (k ∷ ks) (y ∷ ys) (inr j) out = absurd (out (inl (sym j.0)))

pub last_new : (x : InlinedCall) (xs ys : List ℕ) → HasNewJump x xs ys → In x.call xs → (o : Option ℕ) → last_of o ys ≡ Some x.new
last_new x [] ys j i o = absurd i
last_new x (k ∷ ks) [] j i o = absurd j
last_new x (k ∷ ks) (y ∷ ys) (inl j) (inl e) o = absurd (j.0 (sym e))
last_new x (k ∷ ks) (y ∷ ys) (inl j) (inr i) o = last_new x ks ys j.3 i (Some y)
last_new x (k ∷ ks) (y ∷ ys) (inr j) i o = ap (last_of (Some y)) j.3 ∙ ap Some j.2

pub last_jump : (x : InlinedCall) (xs ys : List ℕ) → HasNewJump x xs ys → In x.call xs → (o : Option ℕ) → last_of o xs ≡ Some x.jump
last_jump x [] ys j i o = absurd i
last_jump x (k ∷ ks) [] j i o = absurd j
last_jump x (k ∷ ks) (y ∷ ys) (inl j) (inl e) o = absurd (j.0 (sym e))
last_jump x (k ∷ ks) (y ∷ ys) (inl j) (inr i) o = last_jump x ks ys j.3 i (Some k)
last_jump x (k ∷ ks) (y ∷ ys) (inr j) i o = ap (last_of (Some k)) j.1

-- the last of a list that has none of the two isn't one of them
last_stays : (x : InlinedCall) (xs ys : List ℕ) → HasNewJump x xs ys → (In x.call xs → ⊥) → (k : ℕ) → In k xs → (k ≡ x.call → ⊥) × (k ≡ x.jump → ⊥)
last_stays x [] ys j out k i = absurd i
last_stays x (y ∷ xs) [] j out k i = absurd j
last_stays x (y ∷ xs) (z ∷ zs) (inl j) out k (inl e) = (λ f. j.0 (sym e ∙ f), λ f. j.1 (sym e ∙ f))
last_stays x (y ∷ xs) (z ∷ zs) (inl j) out k (inr i) = last_stays x xs zs j.3 (λ q. out (inr q)) k i
last_stays x (y ∷ xs) (z ∷ zs) (inr j) out k i = absurd (out (inl (sym j.0)))

module _ (m : Meaning) (c : CallingConvention) (t u : Tree) (x : InlinedCall) (symbol : Datum) (w : IsTree t) (w' : IsTree u) (h : IsCallInlined m c t u x symbol) (a : ℕ) (holds : parent_of t x.call ≡ Some a) (target : block_parent_of t x.after ≡ block_parent_of t a) where
  in_a : In x.call (body_of t a)
  in_a = w.bodies.listed x.call a holds

  block_a : IsBlock t a
  block_a = (w.joined.all_in_place x.call a holds).1

  pub elsewhere : (b : ℕ) → (b ≡ a → ⊥) → In x.call (body_of t b) → ⊥
  elsewhere b ne i = ne (some_is (sym (w.bodies.owned x.call b i) ∙ holds))

  -- other blocks that were there lead where they led
  old_leads : (b d : ℕ) → IsBlock t b → (b ≡ a → ⊥) → In d (succs_of u b) → In d (succs_of t b)
  old_leads b d is ne i = go (last_of None (body_of t b)) refl (subst (λ l. In d (succs_from u (last_of None l))) (body_same x (body_of t b) (body_of u b) (h.bodies b is) (elsewhere b ne)) i)
    where
      go : (o : Option ℕ) → last_of None (body_of t b) ≡ o → In d (succs_from u (last_of None (body_of t b))) → In d (succs_from t (last_of None (body_of t b)))
      go None e i = absurd (subst (λ o. In d (succs_from u o)) e i)
      go (Some k) e i =
          let member : In k (body_of t b) = last_of-In k (body_of t b) e in
          let stays = last_stays x (body_of t b) (body_of u b) (h.bodies b is) (elsewhere b ne) k member in
          let alive : IsLive t k = (w.joined.all_in_place k b (w.bodies.owned k b member)).0 in
          subst (λ o. In d (succs_from t o)) (sym e) (subst (In d) (h.successors k alive stays.0 stays.1) (subst (λ o. In d (succs_from u o)) e i))

  -- the block of the call leads to the copy of the entry, where it led behind the call
  pub a_leads : (d : ℕ) → In d (succs_of u a) → d ≡ x.entry
  a_leads d i = ⊎_elim (λ e. e) (λ z. absurd z) (subst (In d) (ap (succs_from u) (last_new x (body_of t a) (body_of u a) (h.bodies a block_a) in_a None) ∙ h.enters.leads) i)

  a_led : In x.after (succs_of t a)
  a_led = subst (In x.after) (sym (ap (succs_from t) (last_jump x (body_of t a) (body_of u a) (h.bodies a block_a) in_a None) ∙ h.jumps.leads)) (inl refl)

  -- a copy leads to copies, or behind the call
  copies_lead : (k : ℕ) (ks : List ℕ) → AreCopies m t u x (k ∷ ks) → (o : Option ℕ) (d : ℕ) → In d (succs_from u (last_of o (k ∷ ks))) → (x.copied d ≡ true) ⊎ (d ≡ x.after)
  copies_lead k [] (inl y) o d i = inl (y.0.leads d i)
  copies_lead k [] (inr y) o d i = inr (⊎_elim (λ e. e) (λ z. absurd z) (subst (In d) y.jumps.leads i))
  copies_lead k (j ∷ ks) y o d i = copies_lead j ks y.1 (Some k) d i

  copy_leads : (b d : ℕ) → x.copied b ≡ true → In d (succs_of u b) → (x.copied d ≡ true) ⊎ (d ≡ x.after)
  copy_leads b d e i = go (body_of u b) (h.copies b e).operations i
    where
      go : (l : List ℕ) → AreCopies m t u x l → In d (succs_from u (last_of None l)) → (x.copied d ≡ true) ⊎ (d ≡ x.after)
      go [] y i = absurd y
      go (k ∷ ks) y i = copies_lead k ks y None d i

  -- a way before that passes no more blocks than this one
  pub record WayBack (entry b : ℕ) (passed : List ℕ) : Type 0 where
    pub before : List ℕ
    pub path : Path t entry b before
    pub fewer : (d : ℕ) → In d before → In d passed

  -- a way after, from a block that was there: to such a block there is one before, and one to the call where it is in a copy
  abbrev pub ReadsBack : ℕ → ℕ → List ℕ → Type 0
  ReadsBack entry b passed = (IsBlock t b × WayBack entry b passed) ⊎ ((x.copied b ≡ true) × WayBack entry a passed × In a passed)

  pub is_block : (b d : ℕ) → In d (succs_of t b) → IsBlock t d
  is_block b d i = go (last_of None (body_of t b)) i
    where
      go : (o : Option ℕ) → In d (succs_from t o) → IsBlock t d
      go None i = absurd i
      go (Some k) i = w.joined.successors k d i

  old_step : (entry b d : ℕ) (passed : List ℕ) → Leads u b d → IsBlock t b → (b ≡ a → ⊥) → WayBack entry b passed → ReadsBack entry d (b ∷ passed)
  old_step entry b d passed l is ne y =
      let led : In d (succs_of t b) = old_leads b d is ne l.successor in
      let there : IsBlock t d = is_block b d led in
      inl (
        there,
        record {
          before = b ∷ y.before;
          path = (record { successor = led; same_region = sym (h.block_parents d there) ∙ l.same_region ∙ h.block_parents b is }, y.path);
          fewer = λ z. ⊎_elim (λ e. inl e) (λ i. inr (y.fewer z i));
        },
      )

  call_step : (entry b d : ℕ) (passed : List ℕ) → Leads u b d → b ≡ a → WayBack entry b passed → ReadsBack entry d (b ∷ passed)
  call_step entry b d passed l e y = inr (
    subst (λ z. x.copied z ≡ true) (sym (a_leads d (subst (λ z. In d (succs_of u z)) e l.successor))) h.entry_copied,
    record { before = y.before; path = subst (λ z. Path t entry z y.before) e y.path; fewer = λ z i. inr (y.fewer z i) },
    inl (sym e),
  )

  copy_step : (entry b d : ℕ) (passed : List ℕ) → Leads u b d → x.copied b ≡ true → WayBack entry a passed → In a passed → ReadsBack entry d (b ∷ passed)
  copy_step entry b d passed l e y i = ⊎_elim
      (λ f. inr (f, record { before = y.before; path = y.path; fewer = λ z j. inr (y.fewer z j) }, inr i))
      (λ f. subst (λ z. ReadsBack entry z (b ∷ passed)) (sym f) (inl (
        is_block a x.after a_led,
        record {
          before = a ∷ y.before;
          path = (record { successor = a_led; same_region = target }, y.path);
          fewer = λ z. ⊎_elim (λ g. inr (subst (λ v. In v passed) (sym g) i)) (λ j. inr (y.fewer z j));
        },
      )))
      (copy_leads b d e l.successor)

  pub ways_back : (entry b : ℕ) (passed : List ℕ) → IsBlock t entry → Path u entry b passed → ReadsBack entry b passed
  ways_back entry b [] is e = inl (subst (IsBlock t) e is, record { before = []; path = e; fewer = λ d i. i })
  ways_back entry d (b ∷ passed) is way = ⊎_elim
      (λ y. ⊎_elim (λ e. call_step entry b d passed way.0 e y.1) (λ ne. old_step entry b d passed way.0 y.0 ne y.1) (cases_eq b a))
      (λ y. copy_step entry b d passed way.0 y.0 y.1 y.2)
      (ways_back entry b passed is way.1)

  -- the copies are blocks that weren't there
  module _ (apart : (b : ℕ) → x.copied b ≡ true → IsBlock t b → ⊥) where
    copies_lead_back : (k : ℕ) (ks : List ℕ) → AreCopies m t u x (k ∷ ks) → (o o' : Option ℕ) (d : ℕ) → x.copied d ≡ true → In d (succs_from u (last_of o (k ∷ ks))) → In (x.originals.block d) (succs_from t (last_of o' (map x.originals.operation (k ∷ ks))))
    copies_lead_back k [] (inl y) o o' d e i = subst (In (x.originals.block d)) (sym y.0.same.successors) (in_map x.originals.block (successors_of u k) d i)
    copies_lead_back k [] (inr y) o o' d e i = absurd (apart d e (⊎_elim (λ f. subst (IsBlock t) (sym f) (is_block a x.after a_led)) (λ z. absurd z) (subst (In d) y.jumps.leads i)))
    copies_lead_back k (j ∷ ks) y o o' d e i = copies_lead_back j ks y.1 (Some k) (Some (x.originals.operation k)) d e i

    copy_leads_back : (b d : ℕ) → x.copied b ≡ true → x.copied d ≡ true → In d (succs_of u b) → Leads t (x.originals.block b) (x.originals.block d)
    copy_leads_back b d e f i = record {
      successor = subst (λ l. In (x.originals.block d) (succs_from t (last_of None l))) (sym (h.copies b e).body) (go (body_of u b) (h.copies b e).operations i);
      same_region = (h.copies d f).original ∙ sym (h.copies b e).original;
    }
      where
        go : (l : List ℕ) → AreCopies m t u x l → In d (succs_from u (last_of None l)) → In (x.originals.block d) (succs_from t (last_of None (map x.originals.operation l)))
        go [] y i = absurd y
        go (k ∷ ks) y i = copies_lead_back k ks y None None d f i

    -- a way after to a copied block comes from the call through copies, as a way of the callee
    pub record CopyWay (b : ℕ) (passed : List ℕ) : Type 0 where
      pub inner : List ℕ
      pub outer : List ℕ
      pub split : passed ≡ inner ++ a ∷ outer
      pub copies : (d : ℕ) → In d inner → x.copied d ≡ true
      pub path : Path t (x.originals.block x.entry) (x.originals.block b) (map x.originals.block inner)

    pub copy_ways : (entry b : ℕ) (passed : List ℕ) → IsBlock t entry → Path u entry b passed → x.copied b ≡ true → CopyWay b passed
    copy_ways entry b [] is e copied = absurd (apart b copied (subst (IsBlock t) e is))
    copy_ways entry d (b ∷ passed) is way copied = ⊎_elim
        (λ y. ⊎_elim (λ e. from_call e) (λ ne. absurd (apart d copied (is_block b d (old_leads b d y.0 ne way.0.successor)))) (cases_eq b a))
        (λ y. from_copy y.0 (copy_ways entry b passed is way.1 y.0))
        (ways_back entry b passed is way.1)
      where
        from_call : b ≡ a → CopyWay d (b ∷ passed)
        from_call e = record {
          inner = [];
          outer = passed;
          split = ap (λ z. z ∷ passed) e;
          copies = λ z i. absurd i;
          path = ap x.originals.block (sym (a_leads d (subst (λ z. In d (succs_of u z)) e way.0.successor)));
        }

        from_copy : x.copied b ≡ true → CopyWay b passed → CopyWay d (b ∷ passed)
        from_copy e y = record {
          inner = b ∷ y.inner;
          outer = y.outer;
          split = ap (λ l. b ∷ l) y.split;
          copies = λ z. ⊎_elim (λ f. subst (λ v. x.copied v ≡ true) (sym f) e) (λ i. y.copies z i);
          path = (copy_leads_back b d e copied way.0.successor, y.path);
        }

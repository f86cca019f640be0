-- A jump is made, put at the end of a block, or undone.
use Rattle.std.proofs.Common.{◌≡◌, ◌≢◌, inl, inr, ⊎_elim, ℕ, ◌<◌, ◌≤◌, List, [], ◌∷◌, ◌++◌, length, get_or, Option, Some, None, refl, sym, ap, ◌∙◌, subst, append_assoc, append-nil, arith}
use Rattle.std.proofs.lemmas.Bool.{cases_eq}
use Rattle.std.proofs.lemmas.List.{length-set, get_or-set_other, get_or-set_same, length-append, get_or_past}
use Rattle.pliron_core.specs.declared.attrs.Head.{Head}
use Rattle.pliron_core.specs.declared.context.OperationEntry.{OperationEntry}
use Rattle.pliron_core.specs.Invariant.{IsTree}
use Rattle.pliron_core.specs.Lists.{without}
use Rattle.pliron_core.specs.Tree.{Tree, In, IsDistinct, IsLive, IsBlock, first_of, last_of, next_in, up_from, no_entry, row_of, operands_of, successors_of, parent_of, body_of}
use Rattle.pliron_core.specs.Reads.{next_of}
use Rattle.pliron_core.specs.Writes.{after_creating, moved_last, put_last, taken_from}
use Rattle.pliron_core.proofs.EditLemmas.{without-out}
use Rattle.pliron_core.proofs.GrownLemmas.{get_grown, get_last, get_last_same, get_padded}
use Rattle.pliron_core.proofs.HoldingLemmas.{not_none, some_is}
use Rattle.pliron_core.proofs.LastLemmas.{last_front, last_in}
use Rattle.pliron_core.proofs.ListLemmas.{distinct-apart, distinct-back, next_in-split, split_at, without-split}
use Rattle.pliron_core.proofs.TreeLemmas.{live-within, block-within}
use Rattle.pliron_rewrite_calls.specs.CopySteps.{HasNames}
use Rattle.pliron_rewrite_calls.specs.InliningSteps.{HasSamePlaces, IsSameAt, IsJumpMade, IsPutLast, IsErasedChildless, IsTakenBack, IsLastReplaced, IsCallReplaced}

-- ---- a jump more

module _ (t u : Tree) (h : Head) (xs ys : List ℕ) (w : IsTree t) (n : HasNames (after_creating t h 0 0) u (length t.operations) xs ys) where
  abbrev entry : OperationEntry
  entry = record { head = Some h; results = []; regions = [] }

  row_in : (j : ℕ) → row_of u j ≡ row_of (after_creating t h 0 0) j
  row_in j = ap (λ (z : Tree). row_of z j) n.same

  parent_in : (j : ℕ) → parent_of u j ≡ parent_of t j
  parent_in j = ap (λ (z : Tree). parent_of z j) n.same ∙ get_grown t.parents None j

  made_others : (j : ℕ) → j ≢ length t.operations → IsSameAt t u j
  made_others j ne = record {
    row = row_in j ∙ ⊎_elim (λ e. e) (λ e. absurd (ne e.2)) (get_last t.operations entry no_entry j);
    operands = n.other_operands j ne ∙ get_grown t.operands [] j;
    successors = n.other_successors j ne ∙ get_grown t.successors [] j;
    parent = parent_in j;
  }

  pub jump_made : IsJumpMade t u (length t.operations) h xs ys
  jump_made = record {
    key = refl;
    jump = record {
      row = row_in (length t.operations) ∙ get_last_same t.operations entry no_entry;
      operands = n.operands;
      successors = n.successors;
    };
    free = parent_in (length t.operations) ∙ get_or_past t.parents (length t.operations) None (let x = w.keys.parents in omega (arith, x));
    places = record {
      slots = ap (λ (z : Tree). z.slots) n.same ∙ append-nil t.slots;
      definitions = ap (λ (z : Tree). z.definitions) n.same ∙ append-nil t.definitions;
      block_count = ap (λ (z : Tree). length z.bodies) n.same;
      arguments = λ b. ap (λ (z : Tree). get_or z.arguments b []) n.same;
      block_parents = λ b. ap (λ (z : Tree). get_or z.block_parents b None) n.same;
      layouts = λ r. ap (λ (z : Tree). get_or z.layouts r []) n.same ∙ get_padded t.layouts [] 0 r;
    };
    bodies = λ b. ap (λ (z : Tree). body_of z b) n.same;
    others = made_others;
    count = ap (λ (z : Tree). length z.operations) n.same ∙ length-append t.operations (entry ∷ []);
  }

pub jump_made_at : (t made u : Tree) (k : ℕ) (h : Head) (xs ys : List ℕ) → IsTree t → made ≡ after_creating t h 0 0 → k ≡ length t.operations → HasNames made u k xs ys → IsJumpMade t u k h xs ys
jump_made_at t made u k h xs ys w e key n =
    subst (λ z. IsJumpMade t u z h xs ys) (sym key) (jump_made t u h xs ys w (subst (λ z. HasNames (after_creating t h 0 0) u z xs ys) key (subst (λ (z : Tree). HasNames z u k xs ys) e n)))

-- what is new stands in no block
pub new_nowhere : (t : Tree) → IsTree t → (k b : ℕ) → length t.operations ≤ k → In k (body_of t b) → ⊥
new_nowhere t w k b le i = let x = live-within t k (w.joined.all_in_place k b (w.bodies.owned k b i)).0 in omega (arith, x, le)

new_empty : (t : Tree) → IsTree t → (k : ℕ) → k ≡ length t.operations → (row_of t k ≡ no_entry) × (operands_of t k ≡ []) × (successors_of t k ≡ []) × (parent_of t k ≡ None)
new_empty t w k e =
    let x = w.keys in
    (get_or_past t.operations k no_entry (omega (arith, e)), get_or_past t.operands k [] (let y = x.operands in omega (arith, e, y)), get_or_past t.successors k [] (let y = x.successors in omega (arith, e, y)), get_or_past t.parents k None (let y = x.parents in omega (arith, e, y)))

-- it is erased again
pub jump_undone : (t u z : Tree) (k : ℕ) (h : Head) (xs ys : List ℕ) → IsTree t → IsJumpMade t u k h xs ys → IsErasedChildless u z k → IsTakenBack t z
jump_undone t u z k h xs ys w m g = record {
  same = record {
    operations = λ j. elim (cases_eq j k) [ inl e ↦ ap (row_of z) e ∙ g.gone ∙ sym old.0 ∙ ap (row_of t) (sym e) | inr ne ↦ (g.others j ne).row ∙ (m.others j ne).row ];
    operands = λ j. elim (cases_eq j k) [ inl e ↦ ap (operands_of z) e ∙ g.no_operands ∙ sym old.1 ∙ ap (operands_of t) (sym e) | inr ne ↦ (g.others j ne).operands ∙ (m.others j ne).operands ];
    successors = λ j. elim (cases_eq j k) [ inl e ↦ ap (successors_of z) e ∙ g.no_successors ∙ sym old.2 ∙ ap (successors_of t) (sym e) | inr ne ↦ (g.others j ne).successors ∙ (m.others j ne).successors ];
    parents = λ j. elim (cases_eq j k) [ inl e ↦ ap (parent_of z) e ∙ g.no_parent ∙ sym old.3 ∙ ap (parent_of t) (sym e) | inr ne ↦ (g.others j ne).parent ∙ (m.others j ne).parent ];
    bodies = λ b. g.bodies b ∙ ap (without k) (m.bodies b) ∙ without-out k (body_of t b) (new_nowhere t w k b (let e = m.key in omega (arith, e)));
    arguments = λ b. g.places.arguments b ∙ m.places.arguments b;
    block_parents = λ b. g.places.block_parents b ∙ m.places.block_parents b;
    layouts = λ r. g.places.layouts r ∙ m.places.layouts r;
  };
  slots = g.places.slots ∙ m.places.slots;
  definitions = g.places.definitions ∙ m.places.definitions;
  block_count = g.places.block_count ∙ m.places.block_count;
  longer = let x = g.count in let y = m.count in omega (arith, x, y);
}
  where
    old : (row_of t k ≡ no_entry) × (operands_of t k ≡ []) × (successors_of t k ≡ []) × (parent_of t k ≡ None)
    old = new_empty t w k m.key

pub nothing_done : (t : Tree) → IsTakenBack t t
nothing_done t = record {
  same = record { operations = λ j. refl; operands = λ j. refl; successors = λ j. refl; parents = λ j. refl; bodies = λ b. refl; arguments = λ b. refl; block_parents = λ b. refl; layouts = λ r. refl };
  slots = refl;
  definitions = refl;
  block_count = refl;
  longer = omega arith;
}

-- ---- it is put last

module _ (t : Tree) (k b : ℕ) (w : IsTree t) (live : IsLive t k) (is : IsBlock t b) (free : parent_of t k ≡ None) where
  k_in : k < length t.parents
  k_in = let x = live-within t k live in let y = w.keys.parents in omega (arith, x, y)

  put : IsPutLast t (put_last t k b) k b
  put = record {
    placed = get_or-set_same t.parents k (Some b) None k_in;
    row = refl;
    operands = refl;
    successors = refl;
    body = get_or-set_same t.bodies b (body_of t b ++ k ∷ []) [] (block-within t b w.keys is);
    places = record {
      slots = refl;
      definitions = refl;
      block_count = length-set t.bodies b (body_of t b ++ k ∷ []);
      arguments = λ c. refl;
      block_parents = λ c. refl;
      layouts = λ r. refl;
    };
    bodies = λ c ne. get_or-set_other t.bodies b c (body_of t b ++ k ∷ []) [] ne;
    others = λ j ne. record { row = refl; operands = refl; successors = refl; parent = get_or-set_other t.parents k j (Some b) None ne };
    count = refl;
  }

  pub put_at_end : (u : Tree) → u ≡ moved_last t k b → IsPutLast t u k b
  put_at_end u e = subst (λ (z : Tree). IsPutLast t z k b) (sym (e ∙ ap (λ o. put_last (taken_from t k o) k b) free)) put

-- ---- in the place of the last operation

pub after_both : (t u v : Tree) → HasSamePlaces t u → HasSamePlaces u v → HasSamePlaces t v
after_both t u v p q = record {
  slots = q.slots ∙ p.slots;
  definitions = q.definitions ∙ p.definitions;
  block_count = q.block_count ∙ p.block_count;
  arguments = λ b. q.arguments b ∙ p.arguments b;
  block_parents = λ b. q.block_parents b ∙ p.block_parents b;
  layouts = λ r. q.layouts r ∙ p.layouts r;
}

pub as_before_both : (t u v : Tree) (j : ℕ) → IsSameAt t u j → IsSameAt u v j → IsSameAt t v j
as_before_both t u v j p q = record {
  row = q.row ∙ p.row;
  operands = q.operands ∙ p.operands;
  successors = q.successors ∙ p.successors;
  parent = q.parent ∙ p.parent;
}

-- what is in another block isn't here
pub elsewhere : (t : Tree) → IsTree t → (k b c : ℕ) → parent_of t k ≡ Some b → c ≢ b → In k (body_of t c) → ⊥
elsewhere t w k b c at ne i = ne (some_is (sym (w.bodies.owned k c i) ∙ at))

pub last_replaced : (t u v z : Tree) (b old new : ℕ) (h : Head) (target : ℕ) → IsTree t → last_of None (body_of t b) ≡ Some old → IsJumpMade t u new h (operands_of t old) (target ∷ []) → IsPutLast u v new b → IsErasedChildless v z old → IsLastReplaced t z b old new h target
last_replaced t u v z b old new h target w last m p g = record {
  key = m.key;
  front = f.0;
  before = f.1;
  now = g.bodies b ∙ ap (without old) (p.body ∙ ap (λ xs. xs ++ new ∷ []) (m.bodies b ∙ f.1) ∙ append_assoc f.0 (old ∷ []) (new ∷ [])) ∙ without-split old f.0 (new ∷ []) out;
  jump = record {
    row = own.row ∙ p.row ∙ m.jump.row;
    operands = own.operands ∙ p.operands ∙ m.jump.operands;
    successors = own.successors ∙ p.successors ∙ m.jump.successors;
  };
  placed = own.parent ∙ p.placed;
  gone = g.gone;
  places = after_both t u z m.places (after_both u v z p.places g.places);
  bodies = λ c ne. g.bodies c ∙ ap (without old) (p.bodies c ne ∙ m.bodies c) ∙ without-out old (body_of t c) (elsewhere t w old b c at ne);
  others = λ j no nn. as_before_both t u z j (m.others j nn) (as_before_both u v z j (p.others j nn) (g.others j no));
  count = let x = g.count in let y = p.count in let q = m.count in omega (arith, x, y, q);
}
  where
    f : (front : List ℕ) × (body_of t b ≡ front ++ old ∷ [])
    f = last_front (body_of t b) old last

    at : parent_of t old ≡ Some b
    at = w.bodies.owned old b (last_in (body_of t b) old last)

    apart : new ≢ old
    apart e = let x = live-within t old (w.joined.all_in_place old b at).0 in let y = m.key in omega (arith, x, y, e)

    own : IsSameAt v z new
    own = g.others new apart

    out : In old f.0 → ⊥
    out i = distinct-apart f.0 (old ∷ []) (subst IsDistinct f.1 (w.bodies.distinct b)) old i (inl refl)

-- ---- in the place of a call and the jump behind it

-- a list without repetition that ends with what is behind an item
behind_last : (back : List ℕ) (jump : ℕ) → IsDistinct back → first_of back None ≡ Some jump → last_of None back ≡ Some jump → back ≡ jump ∷ []
behind_last [] jump d f l = absurd (not_none f)
behind_last (j ∷ []) jump d f l = ap (λ z. z ∷ []) (some_is f)
behind_last (j ∷ k ∷ rest) jump d f l = absurd (d.0 (subst (λ z. In z (k ∷ rest)) (sym (some_is f)) (last_in (k ∷ rest) jump l)))

last_behind : (o : Option ℕ) (front back : List ℕ) (x : ℕ) → first_of back None ≡ Some x → (y : Option ℕ) → last_of o (front ++ back) ≡ y → last_of None back ≡ y
last_behind o [] [] x f y e = absurd (not_none f)
last_behind o [] (j ∷ back) x f y e = e
last_behind o (a ∷ front) back x f y e = last_behind (Some a) front back x f y e

pub call_split : (t : Tree) → IsTree t → (call jump block : ℕ) → parent_of t call ≡ Some block → next_of t call ≡ Some jump → last_of None (body_of t block) ≡ Some jump → (front : List ℕ) × (body_of t block ≡ front ++ call ∷ jump ∷ [])
call_split t w call jump block at behind last =
    let s = split_at call (body_of t block) (w.bodies.listed call block at) in
    let d : IsDistinct (s.0 ++ call ∷ s.1) = subst IsDistinct s.2 (w.bodies.distinct block) in
    let out : In call s.0 → ⊥ = λ i. distinct-apart s.0 (call ∷ s.1) d call i (inl refl) in
    let next : first_of s.1 None ≡ Some jump = sym (next_in-split call s.0 s.1 out) ∙ ap (next_in call) (sym s.2) ∙ sym (ap (λ o. up_from o (λ b. next_in call (body_of t b))) at) ∙ behind in
    let end : last_of None s.1 ≡ Some jump = last_behind None (s.0 ++ call ∷ []) s.1 jump next (Some jump) (ap (last_of None) (append_assoc s.0 (call ∷ []) s.1 ∙ sym s.2) ∙ last) in
    (s.0, s.2 ∙ ap (λ z. s.0 ++ call ∷ z) (behind_last s.1 jump (distinct-back s.0 (call ∷ s.1) d).1 next end))

-- what replacing a call asks, and what it leaves
module _ (t : Tree) (block call jump new : ℕ) (w : IsTree t) (at : parent_of t call ≡ Some block) (behind : next_of t call ≡ Some jump) (last : last_of None (body_of t block) ≡ Some jump) (free : parent_of t new ≡ None) (live : IsLive t new) where
  abbrev split : (front : List ℕ) × (body_of t block ≡ front ++ call ∷ jump ∷ [])
  split = call_split t w call jump block at behind last

  pub jump_there : parent_of t jump ≡ Some block
  jump_there = w.bodies.owned jump block (last_in (body_of t block) jump last)

  pub jump_apart : call ≢ jump
  jump_apart e = (distinct-back split.0 (call ∷ jump ∷ []) (subst IsDistinct split.1 (w.bodies.distinct block))).0 (inl e)

  pub new_apart : (new ≢ call) × (new ≢ jump)
  new_apart = (λ e. not_none (sym free ∙ ap (parent_of t) e ∙ at), λ e. not_none (sym free ∙ ap (parent_of t) e ∙ jump_there))

  module _ (u1 u2 u : Tree) (g : IsErasedChildless t u1 jump) (h : IsErasedChildless u1 u2 call) (p : IsPutLast u2 u new block) where
    call_out : In call split.0 → ⊥
    call_out i = distinct-apart split.0 (call ∷ jump ∷ []) (subst IsDistinct split.1 (w.bodies.distinct block)) call i (inl refl)

    jump_out : In jump (split.0 ++ call ∷ []) → ⊥
    jump_out i = distinct-apart (split.0 ++ call ∷ []) (jump ∷ []) (subst IsDistinct (split.1 ∙ sym (append_assoc split.0 (call ∷ []) (jump ∷ []))) (w.bodies.distinct block)) jump i (inl refl)

    left : body_of u2 block ≡ split.0
    left = h.bodies block ∙ ap (without call) (g.bodies block ∙ ap (without jump) (split.1 ∙ sym (append_assoc split.0 (call ∷ []) (jump ∷ []))) ∙ without-split jump (split.0 ++ call ∷ []) [] jump_out ∙ append-nil (split.0 ++ call ∷ [])) ∙ without-split call split.0 [] call_out ∙ append-nil split.0

    new_kept : IsSameAt t u2 new
    new_kept = as_before_both t u1 u2 new (g.others new new_apart.1) (h.others new new_apart.0)

    pub call_replaced : IsCallReplaced t u block call jump new
    call_replaced = record {
      front = split.0;
      before = split.1;
      now = p.body ∙ ap (λ z. z ++ new ∷ []) left;
      placed = p.placed;
      row = p.row ∙ new_kept.row;
      operands = p.operands ∙ new_kept.operands;
      successors = p.successors ∙ new_kept.successors;
      gone = ((p.others call (λ e. new_apart.0 (sym e))).row ∙ h.gone, (p.others jump (λ e. new_apart.1 (sym e))).row ∙ (h.others jump (λ e. jump_apart (sym e))).row ∙ g.gone);
      places = after_both t u1 u g.places (after_both u1 u2 u h.places p.places);
      bodies = λ c ne. p.bodies c ne ∙ h.bodies c ∙ ap (without call) (g.bodies c ∙ without-out jump (body_of t c) (elsewhere t w jump block c jump_there ne)) ∙ without-out call (body_of t c) (elsewhere t w call block c at ne);
      others = λ j nc nj nn. as_before_both t u1 u j (g.others j nj) (as_before_both u1 u2 u j (h.others j nc) (p.others j nn));
      count = p.count ∙ h.count ∙ g.count;
    }

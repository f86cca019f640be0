-- Operations behind one in its block move to the end of another block, one after the other.
use Rattle.std.proofs.Common.{◌≡◌, ◌≢◌, inl, inr, ⊎_elim, ℕ, suc, ◌+◌, ◌<◌, ◌≤◌, List, [], ◌∷◌, ◌++◌, length, get_or, Option, Some, None, is_some, refl, sym, ap, ◌∙◌, subst, append_assoc, append-nil, arith}
use Rattle.std.specs.List.{range_with_len}
use Rattle.std.proofs.lemmas.Bool.{cases_eq}
use Rattle.std.proofs.lemmas.List.{length-set, get_or-set_other, get_or-set_same, length-append}
use Rattle.std.proofs.lemmas.Option.{slice_get_within}
use Rattle.pliron_core.specs.Lists.{IsDistinct, next_in, without}
use Rattle.pliron_core.specs.Tree.{Tree, In, IsLive, IsBlock, IsInside.Directly, HoldsBlock, first_of, up_from, parent_of, body_of, arguments_of, block_parent_of, block_parent_operation_of, region_parent_of, layout_of}
use Rattle.pliron_core.specs.Invariant.{IsTree}
use Rattle.pliron_core.specs.Reads.{next_of}
use Rattle.pliron_core.specs.WalkSteps.{rest_after, rest_from}
use Rattle.pliron_core.specs.Writes.{block_created, moved_last, taken_from, put_last}
use Rattle.pliron_core.proofs.GrownLemmas.{get_grown, get_last, get_last_same}
use Rattle.pliron_core.proofs.ListLemmas.{In-left, In-right, In-cases, distinct-apart, distinct-length, next_in-split, without-split}
use Rattle.pliron_core.proofs.NextLemmas.{rest_after-parts, rest_from-next, rest_from-step}
use Rattle.pliron_core.proofs.TreeLemmas.{block-within, live-within}
use Rattle.pliron_core.proofs.HoldingLemmas.{some_is, not_none, holder_by, inside_by, not_itself, slot_is}
use Rattle.pliron_rewrite_calls.specs.Splitting.{AreMoving, IsSplitBehind}

-- a block has fewer operations than there are handles
pub body_fits : (t : Tree) → IsTree t → (block : ℕ) → length (body_of t block) ≤ length t.operations
body_fits t w block = distinct-length (length t.operations) (body_of t block) (w.bodies.distinct block) (λ x i. live-within t x (w.joined.all_in_place x block (w.bodies.owned x block i)).0)

pub next_inside : (t : Tree) → IsTree t → (block k : ℕ) (o : Option ℕ) → In k (body_of t block) → o ≡ next_of t k → o ≡ next_in k (body_of t block)
next_inside t w block k o i e = e ∙ ap (λ p. up_from p (λ b. next_in k (body_of t b))) (w.bodies.owned k block i)

pub rest_step : (t : Tree) → IsTree t → (block k : ℕ) (o : Option ℕ) → In k (body_of t block) → o ≡ next_of t k → length (rest_from (Some k) (body_of t block)) ≡ suc (length (rest_from o (body_of t block)))
rest_step t w block k o i e = ap length (rest_from-step (body_of t block) k o (w.bodies.distinct block) i (next_inside t w block k o i e))

pub first_behind : (t : Tree) (op block : ℕ) (o : Option ℕ) → o ≡ next_of t op → 0 + length (rest_from o (body_of t block)) ≡ length (rest_from (next_of t op) (body_of t block))
first_behind t op block o e = ap (λ z. 0 + length (rest_from z (body_of t block))) e ∙ omega arith

pub rest_fits : (t : Tree) → IsTree t → (block op : ℕ) → In op (body_of t block) → length (rest_from (next_of t op) (body_of t block)) ≤ length t.operations
rest_fits t w block op i =
    let n : next_of t op ≡ next_in op (body_of t block) = next_inside t w block op (next_of t op) i refl in
    let e = ap (λ o. length (rest_from o (body_of t block))) n ∙ ap length (rest_from-next op (body_of t block) (w.bodies.distinct block) i) in
    let p = rest_after-parts op (body_of t block) (w.bodies.distinct block) i in
    let l = ap length p.1 in
    let a = length-append p.0 (op ∷ rest_after op (body_of t block)) in
    let f = body_fits t w block in
    omega (arith, e, l, a, f)

-- a block and one beside it: what stands directly in the one does not hold the other
pub holds_none_beside : (t : Tree) → IsTree t → (a b k : ℕ) → parent_of t k ≡ Some b → block_parent_of t b ≡ block_parent_of t a → HoldsBlock t k a → ⊥
holds_none_beside t w a b k at beside h =
    let up : block_parent_operation_of t b ≡ Some h.0 = ap (λ o. up_from o (λ r. region_parent_of t r)) beside ∙ h.1 in
    let held = holder_by t k b h.0 at up in
    ⊎_elim
    (λ e. not_itself {t = t} w.joined.rooted (Directly (held ∙ ap Some e)))
    (λ i. not_itself {t = t} w.joined.rooted (inside_by h.0 held (inr i)))
    h.2

pub first_in : (xs : List ℕ) (k : ℕ) → first_of xs None ≡ Some k → (rest : List ℕ) × (xs ≡ k ∷ rest)
first_in [] k e = absurd (not_none e)
first_in (x ∷ xs) k e = (xs, ap (λ z. z ∷ xs) (some_is e))

pub none_in : (xs : List ℕ) → first_of xs None ≡ None → xs ≡ []
none_in [] e = refl
none_in (x ∷ xs) e = absurd (not_none (sym e))

-- nothing moved yet
pub none_moved : (t : Tree) → IsTree t → (op block new : ℕ) → parent_of t op ≡ Some block → body_of t new ≡ [] → AreMoving t t op block new (rest_after op (body_of t block))
none_moved t w op block new at empty =
    let p = rest_after-parts op (body_of t block) (w.bodies.distinct block) (w.bodies.listed op block at) in
    record {
      front = p.0;
      done = [];
      before = p.1;
      at_block = p.1;
      at_new = empty;
      others = λ b n m. refl;
      moved = λ k i. absurd i;
      stays = λ k f. refl;
      long = refl;
      parents_long = refl;
      same = refl;
    }

module _ (t u : Tree) (w : IsTree u) (op block new : ℕ) (rest : List ℕ) (h : AreMoving t u op block new rest) where
  op_there : In op (body_of u block)
  op_there = subst (In op) (sym h.at_block) (In-right op h.front (op ∷ rest) (inl refl))

  -- what is next behind op is the first that has not moved
  pub next_moves : (o : Option ℕ) → o ≡ next_of u op → first_of rest None ≡ o
  next_moves o e =
      let out : In op h.front → ⊥ = λ j. distinct-apart h.front (op ∷ rest) (subst IsDistinct h.at_block (w.bodies.distinct block)) op j (inl refl) in
      sym (next_inside u w block op o op_there e ∙ ap (next_in op) h.at_block ∙ next_in-split op h.front rest out)

  pub beside_still : block_parent_of t block ≡ block_parent_of t new → block_parent_of u block ≡ block_parent_of u new
  beside_still e = ap (λ (z : Tree). block_parent_of z block) h.same ∙ e ∙ sym (ap (λ (z : Tree). block_parent_of z new) h.same)

  pub block_still : (b : ℕ) → IsBlock t b → IsBlock u b
  block_still b is = subst (λ (z : Tree). IsBlock z b) (sym h.same) is

-- one more moves
module _ (t u : Tree) (w : IsTree u) (op block new k : ℕ) (rest : List ℕ) (ne : new ≢ block) (is : IsBlock u block) (is_new : IsBlock u new) (h : AreMoving t u op block new (k ∷ rest)) where
  in_block : parent_of u k ≡ Some block
  in_block = w.bodies.owned k block (subst (In k) (sym h.at_block) (In-right k h.front (op ∷ k ∷ rest) (inr (inl refl))))

  k_in : k < length u.parents
  k_in = let x = live-within u k (w.joined.all_in_place k block in_block).0 in let y = w.keys.parents in omega (arith, x, y)

  b_in : block < length u.bodies
  b_in = block-within u block w.keys is

  n_in : new < length u.bodies
  n_in = block-within u new w.keys is_new

  abbrev q : Tree
  q = taken_from u k (Some block)

  abbrev next : Tree
  next = put_last (taken_from u k (Some block)) k new

  split : body_of u block ≡ (h.front ++ op ∷ []) ++ k ∷ rest
  split = h.at_block ∙ sym (append_assoc h.front (op ∷ []) (k ∷ rest))

  out : In k (h.front ++ op ∷ []) → ⊥
  out i = distinct-apart (h.front ++ op ∷ []) (k ∷ rest) (subst IsDistinct split (w.bodies.distinct block)) k i (inl refl)

  left : without k (body_of u block) ≡ h.front ++ op ∷ rest
  left = ap (without k) split ∙ without-split k (h.front ++ op ∷ []) rest out ∙ append_assoc h.front (op ∷ []) rest

  step : AreMoving t next op block new rest
  step = record {
    front = h.front;
    done = h.done ++ k ∷ [];
    before = h.before ∙ ap (λ z. h.front ++ op ∷ z) (sym (append_assoc h.done (k ∷ []) rest));
    at_block = get_or-set_other q.bodies new block (body_of q new ++ k ∷ []) [] (λ e. ne (sym e)) ∙ get_or-set_same u.bodies block (without k (body_of u block)) [] b_in ∙ left;
    at_new = get_or-set_same q.bodies new (body_of q new ++ k ∷ []) [] (let x = length-set u.bodies block (without k (body_of u block)) in let y = n_in in omega (arith, x, y)) ∙ ap (λ z. z ++ k ∷ []) (get_or-set_other u.bodies block new (without k (body_of u block)) [] ne ∙ h.at_new);
    others = λ c na nb. get_or-set_other q.bodies new c (body_of q new ++ k ∷ []) [] nb ∙ get_or-set_other u.bodies block c (without k (body_of u block)) [] na ∙ h.others c na nb;
    moved = λ x i. elim (cases_eq x k) [
      | inl e ↦ ap (λ z. get_or next.parents z None) e ∙ get_or-set_same q.parents k (Some new) None (let y = length-set u.parents k None in let z = k_in in omega (arith, y, z))
      | inr nk ↦ get_or-set_other q.parents k x (Some new) None nk ∙ get_or-set_other u.parents k x None None nk ∙ h.moved x (⊎_elim (λ j. j) (λ j. ⊎_elim (λ e. absurd (nk e)) (λ z. absurd z) j) (In-cases x h.done (k ∷ []) i))
    ];
    stays = λ x away.
        let nk : x ≢ k = λ e. away (In-right x h.done (k ∷ []) (inl e)) in
        get_or-set_other q.parents k x (Some new) None nk ∙ get_or-set_other u.parents k x None None nk ∙ h.stays x (λ i. away (In-left x h.done (k ∷ []) i));
    long = length-set q.bodies new _ ∙ length-set u.bodies block _ ∙ h.long;
    parents_long = length-set q.parents k _ ∙ length-set u.parents k _ ∙ h.parents_long;
    same = ap {A = Tree} (λ (z : Tree). record z { bodies = next.bodies; parents = next.parents }) h.same;
  }

  same_next : next ≡ moved_last u k new
  same_next = ap {A = Option ℕ} (λ o. put_last (taken_from u k o) k new) (sym in_block)

  pub one_moved : AreMoving t (moved_last u k new) op block new rest
  one_moved = subst (λ (z : Tree). AreMoving t z op block new rest) same_next step

  shorter : length (body_of next block) < length (body_of u block)
  unfolding step
  shorter =
      let a : length (body_of next block) ≡ length (h.front ++ op ∷ rest) = ap length step.at_block in
      let b = ap length h.at_block in
      let c = length-append h.front (op ∷ rest) in
      let d = length-append h.front (op ∷ k ∷ rest) in
      omega (arith, a, b, c, d)

  pub fewer : length (body_of (moved_last u k new) block) < length (body_of u block)
  fewer = subst (λ (z : Tree). length (body_of z block) < length (body_of u block)) same_next shorter

-- what one step of the loop makes
pub record IsMovedOne (t u : Tree) (op block new k : ℕ) : Type 0 where
  pub outside : HoldsBlock u k new → ⊥
  pub moving : (rest : List ℕ) × AreMoving t (moved_last u k new) op block new rest
  pub fewer : length (body_of (moved_last u k new) block) < length (body_of u block)

pub moved_one : (t u : Tree) → IsTree t → IsTree u → (op block new k : ℕ) → (new ≡ block → ⊥) → parent_of t op ≡ Some block → IsBlock t new → block_parent_of t block ≡ block_parent_of t new
    → (m : (rest : List ℕ) × AreMoving t u op block new rest) → Some k ≡ next_of u op → IsMovedOne t u op block new k
moved_one t u w wu op block new k ne at is_new beside m e =
    let f = first_in m.0 k (next_moves t u wu op block new m.0 m.1 (Some k) e) in
    let h : AreMoving t u op block new (k ∷ f.0) = subst (AreMoving t u op block new) f.1 m.1 in
    let is = block_still t u wu op block new m.0 m.1 block (w.joined.all_in_place op block at).1 in
    let there = block_still t u wu op block new m.0 m.1 new is_new in
    record {
      outside = holds_none_beside u wu new block k (in_block t u wu op block new k f.0 ne is there h) (beside_still t u wu op block new m.0 m.1 beside);
      moving = (f.0, one_moved t u wu op block new k f.0 ne is there h);
      fewer = fewer t u wu op block new k f.0 ne is there h;
    }

pub all_moved : (t u : Tree) → IsTree u → (op block new : ℕ) → (m : (rest : List ℕ) × AreMoving t u op block new rest) → None ≡ next_of u op → AreMoving t u op block new []
all_moved t u wu op block new m e = subst (AreMoving t u op block new) (none_in m.0 (next_moves t u wu op block new m.0 m.1 None e)) m.1

pub still_live : (t u : Tree) → IsTree t → (op block new : ℕ) → parent_of t op ≡ Some block → (m : (rest : List ℕ) × AreMoving t u op block new rest) → IsLive u op
still_live t u w op block new at m = subst (λ (z : Tree). IsLive z op) (sym m.1.same) (w.joined.all_in_place op block at).0

-- the whole: a block is made, and what is behind op moves there
module _ (t u : Tree) (w : IsTree t) (op block region count : ℕ) (at : parent_of t op ≡ Some block) (in_region : block_parent_of t block ≡ Some region) where
  abbrev grown : Tree
  grown = block_created t region count

  abbrev added : ℕ
  added = length t.bodies

  old : block < length t.bodies
  old = block-within t block w.keys (w.joined.all_in_place op block at).1

  pub apart : added ≢ block
  apart e = let x = old in omega (arith, x, e)

  pub no_body : body_of grown added ≡ []
  no_body = get_last_same t.bodies [] []

  pub block_stands : block_parent_of grown block ≡ Some region
  block_stands = elim (get_last t.block_parents (Some region) None block) [
    | inl e ↦ e ∙ in_region
    | inr x ↦ absurd (not_none (sym x.1 ∙ in_region))
  ]

  pub new_stands : block_parent_of grown added ≡ Some region
  new_stands = ap (λ n. get_or grown.block_parents n None) (sym w.keys.block_parents) ∙ get_last_same t.block_parents (Some region) None

  region_in : region < length t.layouts
  region_in =
      let s = slot_is t region (w.joined.placed block region in_region) in
      let x = slice_get_within t.slots region s.0 s.1 in
      let y = w.keys.slots in
      omega (arith, x, y)

  module _ (h : AreMoving grown u op block (length t.bodies) []) where
    done_is : h.done ++ [] ≡ h.done
    done_is = append-nil h.done

    other_parent : (b : ℕ) → b ≢ added → block_parent_of grown b ≡ block_parent_of t b
    other_parent b ne = elim (get_last t.block_parents (Some region) None b) [
      | inl e ↦ e
      | inr x ↦ absurd (ne (x.2 ∙ w.keys.block_parents))
    ]

    other_arguments : (b : ℕ) → b ≢ added → arguments_of grown b ≡ arguments_of t b
    other_arguments b ne = elim (get_last t.arguments (range_with_len (length t.definitions) count) [] b) [
      | inl e ↦ e
      | inr x ↦ absurd (ne (x.2 ∙ w.keys.arguments))
    ]

    pub split_behind : IsSplitBehind t u op count
    split_behind = record {
      block = block;
      region = region;
      front = h.front;
      behind = h.done;
      holds = at;
      in_region = in_region;
      before = sym (get_grown t.bodies [] block) ∙ h.before ∙ ap (λ z. h.front ++ op ∷ z) done_is;
      kept = h.at_block;
      moved = h.at_new;
      new_parents = h.moved;
      new_arguments = ap (λ (z : Tree). arguments_of z added) h.same ∙ ap (λ n. get_or grown.arguments n []) (sym w.keys.arguments) ∙ get_last_same t.arguments (range_with_len (length t.definitions) count) [];
      new_definitions = ap (λ (z : Tree). z.definitions) h.same;
      beside = ap (λ (z : Tree). block_parent_of z added) h.same ∙ new_stands;
      last = ap (λ (z : Tree). layout_of z region) h.same ∙ get_or-set_same t.layouts region (layout_of t region ++ added ∷ []) [] region_in;
      count = h.long ∙ length-append t.bodies ([] ∷ []);
      operations = ap (λ (z : Tree). z.operations) h.same;
      operands = ap (λ (z : Tree). z.operands) h.same;
      successors = ap (λ (z : Tree). z.successors) h.same;
      slots = ap (λ (z : Tree). z.slots) h.same;
      parents = h.stays;
      bodies = λ b nb nn. h.others b nb nn ∙ get_grown t.bodies [] b;
      other_arguments = λ b nn. ap (λ (z : Tree). arguments_of z b) h.same ∙ other_arguments b nn;
      block_parents = λ b nn. ap (λ (z : Tree). block_parent_of z b) h.same ∙ other_parent b nn;
      layouts = λ r nr. ap (λ (z : Tree). layout_of z r) h.same ∙ get_or-set_other t.layouts region r (layout_of t region ++ added ∷ []) [] nr;
    }

-- once the block is made, operations may move there
pub record IsReady (made : Tree) (op block new : ℕ) : Type 0 where
  pub holds : parent_of made op ≡ Some block
  pub is_new : IsBlock made new
  pub apart : new ≢ block
  pub empty : body_of made new ≡ []
  pub beside : block_parent_of made block ≡ block_parent_of made new

pub ready : (t made : Tree) → IsTree t → (op block region new count : ℕ) → parent_of t op ≡ Some block → block_parent_of t block ≡ Some region → made ≡ block_created t region count → new ≡ length t.bodies → IsReady made op block new
ready t made w op block region new count at in_region e k =
    subst (λ n. IsReady made op block n) (sym k) (subst (λ (z : Tree). IsReady z op block (length t.bodies)) (sym e) (record {
      holds = at;
      is_new = ap is_some (new_stands t t w op block region count at in_region);
      apart = apart t t w op block region count at in_region;
      empty = no_body t t w op block region count at in_region;
      beside = block_stands t t w op block region count at in_region ∙ sym (new_stands t t w op block region count at in_region);
    }))

pub whole : (t made u : Tree) → IsTree t → (op block region new count : ℕ) → parent_of t op ≡ Some block → block_parent_of t block ≡ Some region → made ≡ block_created t region count → new ≡ length t.bodies → AreMoving made u op block new [] → IsSplitBehind t u op count
whole t made u w op block region new count at in_region e k h =
    split_behind t u w op block region count at in_region (subst (λ n. AreMoving (block_created t region count) u op block n []) k (subst (λ (z : Tree). AreMoving z u op block new []) e h))

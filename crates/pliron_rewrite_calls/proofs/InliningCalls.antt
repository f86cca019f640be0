-- What each call that inlines asks, and what it leaves.
use Rattle.std.proofs.Common.{◌≡◌, ◌≢◌, ⊎_elim, ℕ, ◌+◌, ◌<◌, ◌≤◌, List, [], ◌∷◌, length, get_or, take, Some, None, IsSome, is_some, slice_get, refl, sym, ap, ◌∙◌, subst, arith}
use Rattle.std.proofs.lemmas.Bool.{cases_eq}
use Rattle.std.proofs.lemmas.List.{get_or_past, take_all}
use Rattle.pliron_core.specs.declared.attrs.Head.{Head}
use Rattle.pliron_core.specs.declared.context.OperationEntry.{OperationEntry}
use Rattle.pliron_core.specs.Erased.{IsSelfContained, after_erasing}
use Rattle.pliron_core.specs.Invariant.{IsTree}
use Rattle.pliron_core.specs.Tree.{Tree, In, IsLive, IsBlock, IsDefined, HoldsBlock, last_of, no_entry, row_of, operands_of, successors_of, results_of, regions_of, parent_of, body_of}
use Rattle.pliron_core.specs.Reads.{next_of}
use Rattle.pliron_core.specs.Writes.{after_creating, operand_pushed, successor_pushed, moved_last}
use Rattle.pliron_core.proofs.CreatedLemmas.{defined_kept}
use Rattle.pliron_core.proofs.GrownLemmas.{get_grown, get_last, get_last_same, slice_get_kept}
use Rattle.pliron_core.proofs.LastLemmas.{last_in}
use Rattle.pliron_core.proofs.TreeLemmas.{live-within}
use Rattle.pliron_rewrite_calls.specs.CopySteps.{HasNames}
use Rattle.pliron_rewrite_calls.specs.InliningSteps.{IsJumpMade, IsPutLast, IsErasedChildless, IsTakenBack, IsLastReplaced, IsCallReplaced}
use Rattle.pliron_rewrite_calls.proofs.CopyCalls.{operand_more, successor_more}
use Rattle.pliron_rewrite_calls.proofs.CopyLists.{take_next}
use Rattle.pliron_rewrite_calls.proofs.ErasedAlone.{erased_alone, alone_contained, bare_contained}
use Rattle.pliron_rewrite_calls.proofs.Growing.{empty_slice, outside_childless}
use Rattle.pliron_rewrite_calls.proofs.JumpsMade.{jump_made_at, jump_undone, put_at_end, last_replaced, jump_there, jump_apart, new_apart, call_replaced}

-- ---- an edge

pub value_next : (t u v : Tree) → IsTree t → (k j a : ℕ) (xs : List ℕ) → IsLive t k → j < length xs → a ≡ get_or xs j a → HasNames t u k (take j xs) [] → v ≡ operand_pushed u k a → HasNames t v k (take (j + 1) xs) []
value_next t u v w k j a xs live lt is n e =
    subst (λ (z : Tree). HasNames t z k (take (j + 1) xs) []) (sym e) (subst (λ z. HasNames t (operand_pushed u k a) k z []) (sym (take_next xs j a lt is)) (operand_more t u w k live (take j xs) [] a n))

pub edge_next : (t u v : Tree) → IsTree t → (k j b : ℕ) (xs : List ℕ) → IsLive t k → length xs ≤ j → HasNames t u k (take j xs) [] → v ≡ successor_pushed u k b → HasNames t v k xs (b ∷ [])
edge_next t u v w k j b xs live le n e =
    subst (λ (z : Tree). HasNames t z k xs (b ∷ [])) (sym e) (subst (λ z. HasNames t (successor_pushed u k b) k z (b ∷ [])) (take_all j xs le) (successor_more t u w k live (take j xs) [] b n))

-- ---- a jump

-- the new operation names nothing yet, and what stood stands
pub record IsCreated (t made : Tree) (k : ℕ) : Type 0 where
  pub live : IsLive made k
  pub operands : operands_of made k ≡ []
  pub successors : successors_of made k ≡ []
  pub defined : (v : ℕ) → IsDefined t v → IsDefined made v
  pub blocks : (b : ℕ) → IsBlock t b → IsBlock made b

module _ (t : Tree) (h : Head) (w : IsTree t) where
  abbrev entry : OperationEntry
  entry = record { head = Some h; results = []; regions = [] }

  abbrev made : Tree
  made = after_creating t h 0 0

  listed : (k i v : ℕ) → slice_get (results_of t k) i ≡ Some v → slice_get (results_of made k) i ≡ Some v
  listed k i v g = ⊎_elim (λ s. ap (λ z. slice_get z.results i) s ∙ g) (λ s. absurd (empty_slice (results_of t k) i v (ap (λ z. z.results) s.1) g)) (get_last t.operations entry no_entry k)

  is_created : IsCreated t made (length t.operations)
  is_created = record {
    live = ap (λ z. is_some z.head) (get_last_same t.operations entry no_entry);
    operands = get_grown t.operands [] (length t.operations) ∙ get_or_past t.operands (length t.operations) [] (let e = w.keys.operands in omega (arith, e));
    successors = get_grown t.successors [] (length t.operations) ∙ get_or_past t.successors (length t.operations) [] (let e = w.keys.successors in omega (arith, e));
    defined = λ v is. defined_kept t made v (λ f g. slice_get_kept t.definitions _ v f g) (λ k i g. listed k i v g) (λ b i g. g) is;
    blocks = λ b is. is;
  }

  pub created_is : (z : Tree) (k : ℕ) → z ≡ after_creating t h 0 0 → k ≡ length t.operations → IsCreated t z k
  created_is z k e key = subst (λ n. IsCreated t z n) (sym key) (subst (λ (y : Tree). IsCreated t y (length t.operations)) (sym e) is_created)

-- once it has some names
module _ (t made u : Tree) (k : ℕ) (h : Head) (xs ys : List ℕ) (w : IsTree t) (wu : IsTree u) (e : made ≡ after_creating t h 0 0) (key : k ≡ length t.operations) (n : HasNames made u k xs ys) where
  pub named_jump : IsJumpMade t u k h xs ys
  named_jump = jump_made_at t made u k h xs ys w e key n

  pub named_live : IsLive u k
  named_live = subst IsSome (sym (ap (λ z. z.head) named_jump.jump.row)) refl

  pub named_contained : IsSelfContained u k
  named_contained = bare_contained u k wu named_live (ap (λ z. z.regions) named_jump.jump.row) (ap (λ z. z.results) named_jump.jump.row)

  pub named_undone : (z : Tree) → z ≡ after_erasing u k → IsTakenBack t z
  named_undone z g = jump_undone t u z k h xs ys w named_jump (erased_alone u k wu named_live (ap (λ z. z.regions) named_jump.jump.row) z g)

-- ---- a jump that is made, as the last of a block

module _ (t u : Tree) (b new : ℕ) (h : Head) (values targets : List ℕ) (w : IsTree t) (wu : IsTree u) (is : IsBlock t b) (m : IsJumpMade t u new h values targets) where
  pub made_live : IsLive u new
  made_live = subst IsSome (sym (ap (λ z. z.head) m.jump.row)) refl

  pub made_block : IsBlock u b
  made_block = subst IsSome (sym (m.places.block_parents b)) is

  pub made_outside : HoldsBlock u new b → ⊥
  made_outside = outside_childless u wu new b (ap (λ z. z.regions) m.jump.row)

  module _ (v : Tree) (wv : IsTree v) (e : v ≡ moved_last u new b) where
    pub made_put : IsPutLast u v new b
    made_put = put_at_end u new b wu made_live made_block m.free v e

    module _ (old : ℕ) (last : last_of None (body_of t b) ≡ Some old) (bare : results_of t old ≡ []) (none : regions_of t old ≡ []) where
      there : parent_of t old ≡ Some b
      there = w.bodies.owned old b (last_in (body_of t b) old last)

      old_live : IsLive t old
      old_live = (w.joined.all_in_place old b there).0

      apart : old ≢ new
      apart e = let x = live-within t old old_live in let k = m.key in omega (arith, x, k, e)

      row_same : row_of v old ≡ row_of t old
      row_same = (made_put.others old apart).row ∙ (m.others old apart).row

      pub old_stands : IsLive v old
      old_stands = subst (λ z. IsSome z.head) (sym row_same) old_live

      pub old_contained : IsSelfContained v old
      old_contained = bare_contained v old wv old_stands (ap (λ z. z.regions) row_same ∙ none) (ap (λ z. z.results) row_same ∙ bare)

      pub old_erased : (z : Tree) → z ≡ after_erasing v old → IsErasedChildless v z old
      old_erased z f = erased_alone v old wv old_stands (ap (λ z. z.regions) row_same ∙ none) z f

-- the whole, in the words of the call
pub replaced_last : (t u v z : Tree) (b old new after : ℕ) (h : Head) (values : List ℕ) → IsTree t → IsTree u → IsTree v → IsBlock t b → last_of None (body_of t b) ≡ Some old → results_of t old ≡ [] → regions_of t old ≡ [] → values ≡ operands_of t old → IsJumpMade t u new h values (after ∷ []) → v ≡ moved_last u new b → z ≡ after_erasing v old → IsLastReplaced t z b old (length t.operations) h after
replaced_last t u v z b old new after h values w wu wv is last bare none same m e f =
    subst (λ n. IsLastReplaced t z b old n h after) m.key
    (last_replaced t u v z b old new h after w last (subst (λ xs. IsJumpMade t u new h xs (after ∷ [])) same m) (made_put t u b new h values (after ∷ []) w wu is m v wv e) (old_erased t u b new h values (after ∷ []) w wu is m v wv e old last bare none z f))

-- ---- the call and the jump behind it

module _ (t : Tree) (block call jump new : ℕ) (w : IsTree t) (at : parent_of t call ≡ Some block) (behind : next_of t call ≡ Some jump) (last : last_of None (body_of t block) ≡ Some jump) (free : parent_of t new ≡ None) (live : IsLive t new) (plain : regions_of t call ≡ []) (bare : (results_of t jump ≡ []) × (regions_of t jump ≡ [])) (used : (k v : ℕ) → In v (results_of t call) → In v (operands_of t k) → k ≡ jump) (childless : regions_of t new ≡ []) where
  pub jump_stands : IsLive t jump
  jump_stands = (w.joined.all_in_place jump block (jump_there t block call jump new w at behind last free live)).0

  pub jump_contained : IsSelfContained t jump
  jump_contained = bare_contained t jump w jump_stands bare.1 bare.0

  call_apart : call ≢ jump
  call_apart = jump_apart t block call jump new w at behind last free live

  apart_new : (new ≢ call) × (new ≢ jump)
  apart_new = new_apart t block call jump new w at behind last free live

  module _ (u1 : Tree) (w1 : IsTree u1) (e1 : u1 ≡ after_erasing t jump) where
    gone_jump : IsErasedChildless t u1 jump
    gone_jump = erased_alone t jump w jump_stands bare.1 u1 e1

    call_row : row_of u1 call ≡ row_of t call
    call_row = (gone_jump.others call call_apart).row

    pub call_stands : IsLive u1 call
    call_stands = subst (λ z. IsSome z.head) (sym call_row) (w.joined.all_in_place call block at).0

    call_plain : regions_of u1 call ≡ []
    call_plain = ap (λ z. z.regions) call_row ∙ plain

    pub call_contained : IsSelfContained u1 call
    call_contained = alone_contained u1 call w1 call_stands call_plain (λ x v i j. unused x v (subst (In v) (ap (λ z. z.results) call_row) i) j)
      where
        unused : (x v : ℕ) → In v (results_of t call) → In v (operands_of u1 x) → ⊥
        unused x v i j = ⊎_elim
            (λ e. subst (In v) (ap (operands_of u1) e ∙ gone_jump.no_operands) j)
            (λ ne. ne (used x v i (subst (In v) (gone_jump.others x ne).operands j)))
            (cases_eq x jump)

    module _ (u2 : Tree) (w2 : IsTree u2) (e2 : u2 ≡ after_erasing u1 call) where
      gone_call : IsErasedChildless u1 u2 call
      gone_call = erased_alone u1 call w1 call_stands call_plain u2 e2

      new_row : row_of u2 new ≡ row_of t new
      new_row = (gone_call.others new apart_new.0).row ∙ (gone_jump.others new apart_new.1).row

      pub new_stands : IsLive u2 new
      new_stands = subst (λ z. IsSome z.head) (sym new_row) live

      pub block_stands : IsBlock u2 block
      block_stands = subst IsSome (sym (gone_call.places.block_parents block ∙ gone_jump.places.block_parents block)) (w.joined.all_in_place call block at).1

      pub new_outside : HoldsBlock u2 new block → ⊥
      new_outside = outside_childless u2 w2 new block (ap (λ z. z.regions) new_row ∙ childless)

      pub call_is_replaced : (u : Tree) → u ≡ moved_last u2 new block → IsCallReplaced t u block call jump new
      call_is_replaced u e = call_replaced t block call jump new w at behind last free live u1 u2 u gone_jump gone_call (put_at_end u2 new block w2 new_stands block_stands ((gone_call.others new apart_new.0).parent ∙ (gone_jump.others new apart_new.1).parent ∙ free) u e)

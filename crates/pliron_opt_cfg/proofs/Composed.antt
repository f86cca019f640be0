-- Blocks that go after others are gone as if all had gone at once.
use Rattle.std.proofs.Common.{◌≡◌, ◌⊎◌, inl, inr, ⊎_elim, ℕ, Option, Some, None, refl, sym, ap, ◌∙◌, subst}
use Rattle.pliron_core.specs.declared.attrs.Head.{Head}
use Rattle.pliron_core.specs.Tree.{Tree, In, IsLive, IsInside, IsInside.Directly, IsInside.Deeper, IsWithin, head_of, regions_of, parent_of, block_parent_of, block_parent_operation_of, parent_operation_of}
use Rattle.pliron_core.specs.Invariant.{IsTree}
use Rattle.pliron_core.specs.Erased.{IsInOperation, IsBlockWithin}
use Rattle.pliron_core.proofs.WithinLemmas.{block_steps, block_holder_from, holder_steps, holder_from, region_parent_live}
use Rattle.pliron_core.proofs.HoldingLemmas.{not_none, some_of, within_inside}
use Rattle.pliron_opt_cfg.specs.Removed.{IsWithout, IsErasedWith, IsBlockErasedWith}
use Rattle.pliron_opt_cfg.proofs.ScopeLemmas.{held_by, listed_by}

-- where no block goes
pub none_go : (t : Tree) (A : ℕ → Type 0) → ((b : ℕ) → A b → ⊥) → IsWithout t t A
none_go t A none = record {
  deleted = λ k y. absurd (none y.0 y.1);
  detached_blocks = λ c y. absurd (none y.0 y.1);
  rows = λ k n. refl;
  operands = λ k n. refl;
  successors = λ k n. refl;
  parents = λ k n. refl;
  bodies = λ c n. refl;
  arguments = λ c n. refl;
  block_parents = λ c n. refl;
  layouts = λ r c. (λ i. (i, λ y. none y.0 y.1), λ x. x.0);
}

-- the same blocks by another test
pub gone_alike : (t u : Tree) (A B : ℕ → Type 0) → ((b : ℕ) → A b → B b) → ((b : ℕ) → B b → A b) → IsWithout t u A → IsWithout t u B
gone_alike t u A B to from h = record {
  deleted = λ k y. h.deleted k (back k y);
  detached_blocks = λ c y. h.detached_blocks c (back_block c y);
  rows = λ k n. h.rows k (λ y. n (forth k y));
  operands = λ k n. h.operands k (λ y. n (forth k y));
  successors = λ k n. h.successors k (λ y. n (forth k y));
  parents = λ k n. h.parents k (λ y. n (forth k y));
  bodies = λ c n. h.bodies c (λ y. n (forth_block c y));
  arguments = λ c n. h.arguments c (λ y. n (forth_block c y));
  block_parents = λ c n. h.block_parents c (λ y. n (forth_block c y));
  layouts = λ r c. (
    λ i. let x = (h.layouts r c).0 i in (x.0, λ y. x.1 (back_block c y)),
    λ x. (h.layouts r c).1 (x.0, λ y. x.1 (forth_block c y)),
  );
}
  where
    forth : (k : ℕ) → IsErasedWith t A k → IsErasedWith t B k
    forth k y = (y.0, to y.0 y.1, y.2)

    back : (k : ℕ) → IsErasedWith t B k → IsErasedWith t A k
    back k y = (y.0, from y.0 y.1, y.2)

    forth_block : (c : ℕ) → IsBlockErasedWith t A c → IsBlockErasedWith t B c
    forth_block c y = (y.0, to y.0 y.1, y.2)

    back_block : (c : ℕ) → IsBlockErasedWith t B c → IsBlockErasedWith t A c
    back_block c y = (y.0, from y.0 y.1, y.2)

-- what is erased stays so
module _ (u v : Tree) (B : ℕ → Type 0) (g : IsWithout u v B) where
  still_gone : (k : ℕ) → head_of u k ≡ None → head_of v k ≡ None
  still_gone k e = go (head_of v k) refl
    where
      go : (o : Option Head) → head_of v k ≡ o → head_of v k ≡ None
      go None f = f
      go (Some h) f = absurd (not_none (sym e ∙ sym (ap (λ z. z.head) (g.rows k (λ y. not_none (sym (g.deleted k y) ∙ f)))) ∙ f))

  still_gone_block : (c : ℕ) → block_parent_of u c ≡ None → block_parent_of v c ≡ None
  still_gone_block c e = go (block_parent_of v c) refl
    where
      go : (o : Option ℕ) → block_parent_of v c ≡ o → block_parent_of v c ≡ None
      go None f = f
      go (Some r) f = absurd (not_none (sym e ∙ sym (g.block_parents c (λ y. not_none (sym (g.detached_blocks c y) ∙ f))) ∙ f))

module _ (t u : Tree) (w : IsTree t) (wu : IsTree u) (A : ℕ → Type 0) (h : IsWithout t u A) where
  live_stays : (k : ℕ) → IsLive u k → IsErasedWith t A k → ⊥
  live_stays k live y = not_none (sym (h.deleted k y) ∙ (some_of (head_of u k) live).1)

  -- what holds a block or an operation after held it before
  block_holder_was : (c x : ℕ) → block_parent_operation_of u c ≡ Some x → block_parent_operation_of t c ≡ Some x
  block_holder_was c x e =
      let s = block_steps u c x e in
      let is = wu.joined.placed c s.0 s.1 in
      let live = region_parent_live u s.0 x wu.joined is s.2 in
      let listed : In s.0 (regions_of t x) = subst (λ z. In s.0 z.regions) (h.rows x (live_stays x live)) (listed_by u wu x s.0 is s.2) in
      block_holder_from t c s.0 (sym (h.block_parents c (λ y. not_none (sym (h.detached_blocks c y) ∙ s.1))) ∙ s.1) ∙ held_by t w x s.0 listed

  parent_was : (k b : ℕ) → parent_of u k ≡ Some b → parent_of t k ≡ Some b
  parent_was k b e = sym (h.parents k (live_stays k (wu.joined.all_in_place k b e).0)) ∙ e

  holder_was : (k x : ℕ) → parent_operation_of u k ≡ Some x → parent_operation_of t k ≡ Some x
  holder_was k x e = let s = holder_steps u k x e in holder_from t k s.0 (parent_was k s.0 s.1) ∙ block_holder_was s.0 x s.2

  inside_was : (x k : ℕ) → IsInside u x k → IsInside t x k
  inside_was x k (Directly e) = Directly (holder_was k x e)
  inside_was x k (Deeper q e i) = Deeper q (holder_was k q e) (inside_was x q i)

  within_was : (x k : ℕ) → IsWithin u x k → IsWithin t x k
  within_was x k (inl e) = inl e
  within_was x k (inr i) = inr (inside_was x k i)

  stands_was : (b k : ℕ) → IsInOperation u b k → IsInOperation t b k
  stands_was b k y = (y.0, parent_was y.0 b y.1, within_was y.0 k y.2)

  block_was : (b c : ℕ) → IsBlockWithin u b c → IsBlockWithin t b c
  block_was b c (inl e) = inl e
  block_was b c (inr y) = inr (y.0, block_holder_was c y.0 y.1, stands_was b y.0 y.2)

  -- what goes takes with it what stands in it
  inside_goes : (x k : ℕ) → IsInside t x k → IsErasedWith t A x → IsErasedWith t A k
  inside_goes x k i y = (y.0, y.1, (y.2.0, y.2.1, ⊎_elim (λ e. inr (subst (λ z. IsInside t z k) e i)) (λ a. inr (within_inside a (inr i))) y.2.2))

  within_goes : (x k : ℕ) → IsWithin t x k → IsErasedWith t A x → IsErasedWith t A k
  within_goes x k (inl e) y = subst (IsErasedWith t A) (sym e) y
  within_goes x k (inr i) y = inside_goes x k i y

  holder_goes : (c x : ℕ) → block_parent_operation_of t c ≡ Some x → IsErasedWith t A x → IsBlockErasedWith t A c
  holder_goes c x e y = (y.0, y.1, inr (x, e, y.2))

  in_block_goes : (c k : ℕ) → parent_of t k ≡ Some c → IsBlockErasedWith t A c → IsErasedWith t A k
  in_block_goes c k e y = ⊎_elim
      (λ s. (y.0, y.1, (k, e ∙ ap Some s, inl refl)))
      (λ x. inside_goes x.0 k (Directly (holder_from t k c e ∙ x.1)) (y.0, y.1, x.2))
      y.2

  -- what holds what stays holds it after
  block_holder_still : (c x : ℕ) → (IsBlockErasedWith t A c → ⊥) → block_parent_operation_of t c ≡ Some x → block_parent_operation_of u c ≡ Some x
  block_holder_still c x n e =
      let s = block_steps t c x e in
      let listed : In s.0 (regions_of u x) = subst (λ z. In s.0 z.regions) (sym (h.rows x (λ y. n (holder_goes c x e y)))) (listed_by t w x s.0 (w.joined.placed c s.0 s.1) s.2) in
      block_holder_from u c s.0 (h.block_parents c n ∙ s.1) ∙ held_by u wu x s.0 listed

  holder_still : (k x : ℕ) → (IsErasedWith t A k → ⊥) → parent_operation_of t k ≡ Some x → parent_operation_of u k ≡ Some x
  holder_still k x n e =
      let s = holder_steps t k x e in
      holder_from u k s.0 (h.parents k n ∙ s.1) ∙ block_holder_still s.0 x (λ y. n (in_block_goes s.0 k s.1 y)) s.2

  inside_still : (x k : ℕ) → (IsErasedWith t A k → ⊥) → IsInside t x k → IsInside u x k
  inside_still x k n (Directly e) = Directly (holder_still k x n e)
  inside_still x k n (Deeper q e i) = Deeper q (holder_still k q n e) (inside_still x q (λ y. n (inside_goes q k (Directly e) y)) i)

  within_still : (x k : ℕ) → (IsErasedWith t A k → ⊥) → IsWithin t x k → IsWithin u x k
  within_still x k n (inl e) = inl e
  within_still x k n (inr i) = inr (inside_still x k n i)

  stands_still : (b k : ℕ) → (IsErasedWith t A k → ⊥) → IsInOperation t b k → IsInOperation u b k
  stands_still b k n y = (y.0, h.parents y.0 (λ a. n (within_goes y.0 k y.2 a)) ∙ y.1, within_still y.0 k n y.2)

  block_still : (b c : ℕ) → (IsBlockErasedWith t A c → ⊥) → IsBlockWithin t b c → IsBlockWithin u b c
  block_still b c n (inl e) = inl e
  block_still b c n (inr y) = inr (y.0, block_holder_still c y.0 n y.1, stands_still b y.0 (λ a. n (holder_goes c y.0 y.1 a)) y.2)

  -- first the blocks A, then the blocks B: together these are C
  module _ (v : Tree) (B C : ℕ → Type 0) (g : IsWithout u v B) (first : (b : ℕ) → A b → C b) (second : (b : ℕ) → B b → C b) (either : (b : ℕ) → C b → A b ⊎ B b) where
    stays : (k : ℕ) → (IsErasedWith t C k → ⊥) → IsErasedWith t A k → ⊥
    stays k n y = n (y.0, first y.0 y.1, y.2)

    stays_on : (k : ℕ) → (IsErasedWith t C k → ⊥) → IsErasedWith u B k → ⊥
    stays_on k n y = n (y.0, second y.0 y.1, stands_was y.0 k y.2)

    block_stays : (c : ℕ) → (IsBlockErasedWith t C c → ⊥) → IsBlockErasedWith t A c → ⊥
    block_stays c n y = n (y.0, first y.0 y.1, y.2)

    block_stays_on : (c : ℕ) → (IsBlockErasedWith t C c → ⊥) → IsBlockErasedWith u B c → ⊥
    block_stays_on c n y = n (y.0, second y.0 y.1, block_was y.0 c y.2)

    goes : (k : ℕ) → IsErasedWith t C k → head_of v k ≡ None
    goes k y = go (head_of u k) refl
      where
        go : (o : Option Head) → head_of u k ≡ o → head_of v k ≡ None
        go None e = still_gone u v B g k e
        go (Some o) e =
            let n : IsErasedWith t A k → ⊥ = λ a. not_none (sym (h.deleted k a) ∙ e) in
            ⊎_elim (λ a. absurd (n (y.0, a, y.2))) (λ b. g.deleted k (y.0, b, stands_still y.0 k n y.2)) (either y.0 y.1)

    block_goes : (c : ℕ) → IsBlockErasedWith t C c → block_parent_of v c ≡ None
    block_goes c y = go (block_parent_of u c) refl
      where
        go : (o : Option ℕ) → block_parent_of u c ≡ o → block_parent_of v c ≡ None
        go None e = still_gone_block u v B g c e
        go (Some r) e =
            let n : IsBlockErasedWith t A c → ⊥ = λ a. not_none (sym (h.detached_blocks c a) ∙ e) in
            ⊎_elim (λ a. absurd (n (y.0, a, y.2))) (λ b. g.detached_blocks c (y.0, b, block_still y.0 c n y.2)) (either y.0 y.1)

    -- a block in a layout after went with none
    left : (c : ℕ) → (IsBlockErasedWith t A c → ⊥) → (IsBlockErasedWith u B c → ⊥) → IsBlockErasedWith t C c → ⊥
    left c n m y = ⊎_elim (λ a. n (y.0, a, y.2)) (λ b. m (y.0, b, block_still y.0 c n y.2)) (either y.0 y.1)

    pub gone_in_turn : IsWithout t v C
    gone_in_turn = record {
      deleted = goes;
      detached_blocks = block_goes;
      rows = λ k n. g.rows k (stays_on k n) ∙ h.rows k (stays k n);
      operands = λ k n. g.operands k (stays_on k n) ∙ h.operands k (stays k n);
      successors = λ k n. g.successors k (stays_on k n) ∙ h.successors k (stays k n);
      parents = λ k n. g.parents k (stays_on k n) ∙ h.parents k (stays k n);
      bodies = λ c n. g.bodies c (block_stays_on c n) ∙ h.bodies c (block_stays c n);
      arguments = λ c n. g.arguments c (block_stays_on c n) ∙ h.arguments c (block_stays c n);
      block_parents = λ c n. g.block_parents c (block_stays_on c n) ∙ h.block_parents c (block_stays c n);
      layouts = λ r c. (
        λ i.
            let b = (g.layouts r c).0 i in
            let a = (h.layouts r c).0 b.0 in
            (a.0, left c a.1 b.1),
        λ x. (g.layouts r c).1 ((h.layouts r c).1 (x.0, block_stays c x.1), block_stays_on c x.1),
      );
    }

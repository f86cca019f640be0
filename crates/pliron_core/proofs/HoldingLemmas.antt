-- What stands inside what.
use Rattle.std.proofs.Common.{◌≡◌, ◌≢◌, ◌⊎◌, ℕ, zero, suc, ◌<◌, ◌≤◌, List, [], ◌∷◌, length, Option, Some, None, IsSome, is_some, slice_get, refl, sym, ap, ◌∙◌, subst, inl, inr, true≢false, arith}
use Rattle.std.proofs.lemmas.Bool.{cases_eq}
use Rattle.std.proofs.lemmas.List.{get_or_past}
use Rattle.pliron_core.specs.declared.context.Def.{Def}
use Rattle.pliron_core.specs.declared.context.Def.TheVariants.{Result, Argument}
use Rattle.pliron_core.specs.declared.context.RegionSlot.{RegionSlot}
use Rattle.pliron_core.specs.Lists.{In}
use Rattle.pliron_core.specs.Tree.{Tree, no_entry, row_of, head_of, results_of, regions_of, parent_of, arguments_of, block_parent_of, slot_of, definition_of, region_parent_of, block_parent_operation_of, parent_operation_of, up_from, op_of_slot, climb, IsRooted, IsLive, IsBlock, IsRegion, IsListedBy, IsDefined, IsMadeBy, IsInside, IsInside.Directly, IsInside.Deeper, IsWithin, HoldsBlock}
use Rattle.pliron_core.specs.Invariant.{IsJoined}
use Rattle.pliron_core.specs.Changes.{HoldsRegion, IsDefiningOperationInside, IsDefinedInside, IsOutside}

pub some_is : {A : Type 0} {a b : A} → Some a ≡ Some b → a ≡ b
some_is e = cc

pub not_none : {A : Type 0} {a : A} → None ≡ Some a → ⊥
not_none e = cc

pub some_of : {A : Type 0} (o : Option A) → IsSome o → (a : A) × (o ≡ Some a)
some_of None s = absurd (true≢false (sym s))
some_of (Some a) s = (a, refl)

-- what an index reads stands in the list, and the other way round
pub in_slice : (xs : List ℕ) (i x : ℕ) → slice_get xs i ≡ Some x → In x xs
in_slice [] i x e = absurd (not_none e)
in_slice (y ∷ ys) zero x e = inl (sym (some_is e))
in_slice (y ∷ ys) (suc i) x e = inr (in_slice ys i x e)

pub slice_in : (xs : List ℕ) (x : ℕ) → In x xs → (i : ℕ) × (slice_get xs i ≡ Some x)
slice_in [] x i = absurd i
slice_in (y ∷ ys) x (inl e) = (0, ap Some (sym e))
slice_in (y ∷ ys) x (inr i) = let r = slice_in ys x i in (suc r.0, r.1)

-- what has a row with something in it is live
module _ (t : Tree) (w : IsJoined t) where
  live_by : {A : Type 0} (k i : ℕ) (a : A) (f : _ → List A) → f no_entry ≡ [] → slice_get (f (row_of t k)) i ≡ Some a → IsLive t k
  live_by {A} k i a f empty e = go (head_of t k) refl
    where
      go : (o : Option _) → head_of t k ≡ o → IsLive t k
      go None h =
          let none : slice_get {X = A} [] i ≡ Some a = sym (ap (λ z. slice_get z i) (ap f (w.erased k h).2 ∙ empty)) ∙ e in
          absurd (not_none none)
      go (Some x) h = ap is_some h

  pub region_live : (k i r : ℕ) → slice_get (regions_of t k) i ≡ Some r → IsLive t k
  region_live k i r e = live_by k i r (λ z. z.regions) refl e

  pub result_live : (k i v : ℕ) → slice_get (results_of t k) i ≡ Some v → IsLive t k
  result_live k i v e = live_by k i v (λ z. z.results) refl e

  pub argument_stands : (b i v : ℕ) → slice_get (arguments_of t b) i ≡ Some v → IsBlock t b
  argument_stands b i v e = go (block_parent_of t b) refl
    where
      go : (o : Option ℕ) → block_parent_of t b ≡ o → IsBlock t b
      go None h =
          let none : slice_get {X = ℕ} [] i ≡ Some v = sym (ap (λ z. slice_get z i) (w.unplaced b h).0) ∙ e in
          absurd (not_none none)
      go (Some x) h = ap is_some h

-- what is live has a key
pub past_live : (t : Tree) (k : ℕ) → IsLive t k → k < length t.operations
past_live t k is = go (cases_lt k (length t.operations))
  where
    cases_lt : (k n : ℕ) → (k < n) ⊎ (n ≤ k)
    cases_lt k n = grind arith

    go : (k < length t.operations) ⊎ (length t.operations ≤ k) → k < length t.operations
    go (inl h) = h
    go (inr h) = let e = subst (λ z. IsSome z.head) (get_or_past t.operations k no_entry h) is in absurd (true≢false (sym e))

-- the place of a region that stands, and what makes a value that stands
pub slot_is : (t : Tree) (r : ℕ) → IsRegion t r → (s : RegionSlot) × (slot_of t r ≡ Some s) × (slice_get (regions_of t s.op) s.index ≡ Some r)
slot_is t r is = go (slot_of t r) refl is
  where
    go : (o : Option RegionSlot) → slot_of t r ≡ o → IsListedBy t r o → (s : RegionSlot) × (slot_of t r ≡ Some s) × (slice_get (regions_of t s.op) s.index ≡ Some r)
    go None e l = absurd l
    go (Some s) e l = (s, e, l)

pub region_by : (t : Tree) (r : ℕ) (s : RegionSlot) → slot_of t r ≡ Some s → slice_get (regions_of t s.op) s.index ≡ Some r → IsRegion t r
region_by t r s e l = subst (IsListedBy t r) (sym e) l

pub maker_is : (t : Tree) (v : ℕ) → IsDefined t v → (d : Def) × (definition_of t v ≡ Some d) × IsMadeBy t v (Some d)
maker_is t v is = go (definition_of t v) refl is
  where
    go : (o : Option Def) → definition_of t v ≡ o → IsMadeBy t v o → (d : Def) × (definition_of t v ≡ Some d) × IsMadeBy t v (Some d)
    go None e m = absurd m
    go (Some d) e m = (d, e, m)

pub region_parent_is : (t : Tree) (r : ℕ) (s : RegionSlot) → slot_of t r ≡ Some s → region_parent_of t r ≡ Some s.op
region_parent_is t r s e = ap op_of_slot e

-- a block that stands has a region and an operation that holds it
pub block_held : (t : Tree) (b : ℕ) → IsJoined t → IsBlock t b → (r k : ℕ) × (block_parent_of t b ≡ Some r) × IsRegion t r × (region_parent_of t r ≡ Some k) × (block_parent_operation_of t b ≡ Some k) × IsLive t k
block_held t b w is =
    let p = some_of (block_parent_of t b) is in
    let region = w.placed b p.0 p.1 in
    let s = slot_is t p.0 region in
    let up = region_parent_is t p.0 s.0 s.1 in
    (p.0, s.0.op, p.1, region, up, ap (λ o. up_from o (λ r. region_parent_of t r)) p.1 ∙ up, region_live t w s.0.op s.0.index p.0 s.2)

pub held_block : (t : Tree) (b k : ℕ) → block_parent_operation_of t b ≡ Some k → IsBlock t b
held_block t b k e = go (block_parent_of t b) refl
  where
    go : (o : Option ℕ) → block_parent_of t b ≡ o → IsBlock t b
    go None h = absurd (not_none (sym (ap (λ o. up_from o (λ r. region_parent_of t r)) h) ∙ e))
    go (Some r) h = ap is_some h

-- what has a holder stands in a block that the parent operation holds
pub holder_is : (t : Tree) (x p : ℕ) → parent_operation_of t x ≡ Some p → (b : ℕ) × (parent_of t x ≡ Some b) × (block_parent_operation_of t b ≡ Some p)
holder_is t x p e = go (parent_of t x) refl
  where
    go : (o : Option ℕ) → parent_of t x ≡ o → (b : ℕ) × (parent_of t x ≡ Some b) × (block_parent_operation_of t b ≡ Some p)
    go None h = absurd (not_none (sym (ap (λ o. up_from o (λ b. block_parent_operation_of t b)) h) ∙ e))
    go (Some b) h = (b, h, sym (ap (λ o. up_from o (λ b. block_parent_operation_of t b)) h) ∙ e)

pub holder_by : (t : Tree) (x b p : ℕ) → parent_of t x ≡ Some b → block_parent_operation_of t b ≡ Some p → parent_operation_of t x ≡ Some p
holder_by t x b p e h = ap (λ o. up_from o (λ b. block_parent_operation_of t b)) e ∙ h

pub holder_live : (t : Tree) (x p : ℕ) → IsJoined t → parent_operation_of t x ≡ Some p → IsLive t x × IsLive t p
holder_live t x p w e =
    let h = holder_is t x p e in
    let s = w.all_in_place x h.0 h.1 in
    let b = block_held t h.0 w s.1 in
    (s.0, subst (IsLive t) (some_is (sym b.5 ∙ h.2)) b.6)

-- one step up from what is inside
pub inside_up : {t : Tree} {op x : ℕ} → IsInside t op x → (p : ℕ) × (parent_operation_of t x ≡ Some p) × IsWithin t op p
inside_up {t} {op} (Directly e) = (op, e, inl refl)
inside_up (Deeper p e i) = (p, e, inr i)

pub inside_by : {t : Tree} {op x : ℕ} (p : ℕ) → parent_operation_of t x ≡ Some p → IsWithin t op p → IsInside t op x
inside_by p e (inl s) = Directly (e ∙ ap Some s)
inside_by p e (inr i) = Deeper p e i

-- what is inside of what is inside
pub deeper : {t : Tree} {a b x : ℕ} → IsInside t a b → IsInside t b x → IsInside t a x
deeper h (Directly e) = Deeper _ e h
deeper h (Deeper p e k) = Deeper p e (deeper h k)

pub within_inside : {t : Tree} {a b x : ℕ} → IsInside t a b → IsWithin t b x → IsInside t a x
within_inside {t} {a} h (inl e) = subst (IsInside t a) (sym e) h
within_inside h (inr i) = deeper h i

pub holds_deeper : {t : Tree} {a b : ℕ} → IsInside t a b → (c : ℕ) → HoldsBlock t b c → HoldsBlock t a c
holds_deeper h c held = (held.0, held.1, inr (within_inside h held.2))

pub region_deeper : {t : Tree} {a b : ℕ} → IsInside t a b → (r : ℕ) → HoldsRegion t b r → HoldsRegion t a r
region_deeper h r held = (held.0, held.1, inr (within_inside h held.2))

pub maker_deeper : {t : Tree} {a b : ℕ} → IsInside t a b → (o : Option Def) → IsDefiningOperationInside t b o → IsDefiningOperationInside t a o
maker_deeper h None m = m
maker_deeper h (Some (Result k i)) m = deeper h m
maker_deeper h (Some (Argument b i)) m = holds_deeper h b m

-- an operation in a block that op holds is inside op, and the other way round
pub inside_block : {t : Tree} {op x : ℕ} (b : ℕ) → parent_of t x ≡ Some b → HoldsBlock t op b → IsInside t op x
inside_block {t} {op} {x} b e h = inside_by h.0 (holder_by t x b h.0 e h.1) h.2

pub block_inside : {t : Tree} {op x : ℕ} (b : ℕ) → parent_of t x ≡ Some b → IsInside t op x → HoldsBlock t op b
block_inside {t} {op} {x} b e i =
    let u = inside_up i in
    let h = holder_is t x u.0 u.1 in
    (u.0, subst (λ c. block_parent_operation_of t c ≡ Some u.0) (some_is (sym h.1 ∙ e)) h.2, u.2)

-- nothing is inside itself
pub not_itself : {t : Tree} {x : ℕ} → IsRooted (parent_operation_of t) → IsInside t x x → ⊥
not_itself {t} {x} rooted i = go (rooted x).0 x (rooted x).1 i
  where
    go : (n : ℕ) (y : ℕ) → climb (parent_operation_of t) n (Some y) ≡ None → IsInside t y y → ⊥
    go zero y e i = not_none (sym e)
    go (suc n) y e i =
        let u = inside_up i in
        go n u.0 (ap (climb (parent_operation_of t) n) (sym u.1) ∙ e) (within_inside (round u.2 u.1) (inl refl))
      where
        round : {p : ℕ} → IsWithin t y p → parent_operation_of t y ≡ Some p → IsInside t p p
        round {p} (inl s) h = inside_by p (subst (λ z. parent_operation_of t z ≡ Some p) (sym s) h) (inl refl)
        round (inr j) h = deeper (Directly h) j

pub outside_itself : {t : Tree} {x : ℕ} → IsRooted (parent_operation_of t) → IsLive t x → IsOutside t x x
outside_itself rooted live = (live, λ i. not_itself rooted i)

-- whether something is inside can be told
pub inside_or : (t : Tree) (op x : ℕ) → IsRooted (parent_operation_of t) → IsInside t op x ⊎ (IsInside t op x → ⊥)
inside_or t op x rooted = go (rooted x).0 x (rooted x).1
  where
    step : (n y : ℕ) (o : Option ℕ) → parent_operation_of t y ≡ o → ((p : ℕ) → o ≡ Some p → IsInside t op p ⊎ (IsInside t op p → ⊥)) → IsInside t op y ⊎ (IsInside t op y → ⊥)
    step n y None e up = inr (λ i. let u = inside_up i in not_none (sym e ∙ u.1))
    step n y (Some p) e up = at (cases_eq p op) (up p refl)
      where
        at : (p ≡ op) ⊎ (p ≢ op) → IsInside t op p ⊎ (IsInside t op p → ⊥) → IsInside t op y ⊎ (IsInside t op y → ⊥)
        at (inl s) d = inl (inside_by p e (inl s))
        at (inr ne) (inl i) = inl (Deeper p e i)
        at (inr ne) (inr free) = inr (λ i. let u = inside_up i in let s = some_is (sym u.1 ∙ e) in out (subst (IsWithin t op) s u.2))
          where
            out : IsWithin t op p → ⊥
            out (inl s) = ne s
            out (inr i) = free i

    go : (n y : ℕ) → climb (parent_operation_of t) n (Some y) ≡ None → IsInside t op y ⊎ (IsInside t op y → ⊥)
    go zero y e = absurd (not_none (sym e))
    go (suc n) y e = step n y (parent_operation_of t y) refl (λ p h. go n p (ap (climb (parent_operation_of t) n) (sym h) ∙ e))

-- two trees with the same holders
module _ (t u : Tree) (holders : (x : ℕ) → parent_operation_of u x ≡ parent_operation_of t x) where
  pub inside_alike : {op x : ℕ} → IsInside t op x → IsInside u op x
  inside_alike {op} {x} (Directly e) = Directly (holders x ∙ e)
  inside_alike {op} {x} (Deeper p e i) = Deeper p (holders x ∙ e) (inside_alike i)

  pub within_alike : {op x : ℕ} → IsWithin t op x → IsWithin u op x
  within_alike (inl e) = inl e
  within_alike (inr i) = inr (inside_alike i)

-- what keeps its holder stays inside
module _ (t u : Tree) (holders : (x p : ℕ) → parent_operation_of t x ≡ Some p → parent_operation_of u x ≡ Some p) where
  pub inside_more : {op x : ℕ} → IsInside t op x → IsInside u op x
  inside_more {op} {x} (Directly e) = Directly (holders x op e)
  inside_more {op} {x} (Deeper p e i) = Deeper p (holders x p e) (inside_more i)

  pub within_more : {op x : ℕ} → IsWithin t op x → IsWithin u op x
  within_more (inl e) = inl e
  within_more (inr i) = inr (inside_more i)

-- whether op holds a block, and whether a value is defined inside op, can be told
pub holds_or : (t : Tree) (op b : ℕ) → IsRooted (parent_operation_of t) → HoldsBlock t op b ⊎ (HoldsBlock t op b → ⊥)
holds_or t op b rooted = go (block_parent_operation_of t b) refl
  where
    at : (k : ℕ) → block_parent_operation_of t b ≡ Some k → (k ≡ op) ⊎ (k ≢ op) → IsInside t op k ⊎ (IsInside t op k → ⊥) → HoldsBlock t op b ⊎ (HoldsBlock t op b → ⊥)
    at k e (inl s) d = inl (k, e, inl s)
    at k e (inr ne) (inl i) = inl (k, e, inr i)
    at k e (inr ne) (inr free) = inr (λ h. out (subst (IsWithin t op) (some_is (sym h.1 ∙ e)) h.2))
      where
        out : IsWithin t op k → ⊥
        out (inl s) = ne s
        out (inr i) = free i

    go : (o : Option ℕ) → block_parent_operation_of t b ≡ o → HoldsBlock t op b ⊎ (HoldsBlock t op b → ⊥)
    go None e = inr (λ h. not_none (sym e ∙ h.1))
    go (Some k) e = at k e (cases_eq k op) (inside_or t op k rooted)

pub made_inside_or : (t : Tree) (op v : ℕ) → IsRooted (parent_operation_of t) → IsDefinedInside t op v ⊎ (IsDefinedInside t op v → ⊥)
made_inside_or t op v rooted = go (definition_of t v)
  where
    go : (o : Option Def) → IsDefiningOperationInside t op o ⊎ (IsDefiningOperationInside t op o → ⊥)
    go None = inr (λ m. m)
    go (Some (Result k i)) = inside_or t op k rooted
    go (Some (Argument b i)) = holds_or t op b rooted

-- What stands inside an operation, by tests and by steps up.
use Rattle.std.proofs.Common.{◌≡◌, ◌≢◌, ℕ, zero, suc, ◌<◌, Bool, true, false, nat_eq, length, Option, Some, None, is_some, refl, sym, ap, ◌∙◌, subst, inl, inr, if◌then◌else◌, true≢false}
use Rattle.std.proofs.lemmas.Bool.Decides.{eqb_tells}
use Rattle.std.proofs.lemmas.Bool.{eq-eqb}
use Rattle.pliron_core.specs.Tree.{Tree, IsLive, IsRegion, IsInside, Directly, Deeper, IsWithin, climb, up_from, op_of_slot, parent_operation_of, block_parent_operation_of, region_parent_of, parent_of, block_parent_of}
use Rattle.pliron_core.specs.Invariant.{IsJoined}
use Rattle.pliron_core.specs.Erased.{is_met, is_met_above, is_the, is_in_operation, IsInOperation}
use Rattle.pliron_core.proofs.TreeLemmas.{live-within, region_owner, region_live}
use Rattle.pliron_core.proofs.ChainLemmas.{is_met_step}

-- a step up that ends somewhere began somewhere
pub up_some : (o : Option ℕ) (f : ℕ → Option ℕ) (y : ℕ) → up_from o f ≡ Some y → (x : ℕ) × (o ≡ Some x) × (f x ≡ Some y)
up_some None f y e = absurd (cc)
up_some (Some x) f y e = (x, refl, e)

pub block_steps : (t : Tree) (b y : ℕ) → block_parent_operation_of t b ≡ Some y → (r : ℕ) × (block_parent_of t b ≡ Some r) × (region_parent_of t r ≡ Some y)
block_steps t b y e = up_some (block_parent_of t b) (λ r. region_parent_of t r) y e

pub block_holder_from : (t : Tree) (b r : ℕ) → block_parent_of t b ≡ Some r → block_parent_operation_of t b ≡ region_parent_of t r
block_holder_from t b r e = ap (λ o. up_from o (λ z. region_parent_of t z)) e

pub holder_steps : (t : Tree) (x y : ℕ) → parent_operation_of t x ≡ Some y → (b : ℕ) × (parent_of t x ≡ Some b) × (block_parent_operation_of t b ≡ Some y)
holder_steps t x y e = up_some (parent_of t x) (λ b. block_parent_operation_of t b) y e

pub holder_from : (t : Tree) (x b : ℕ) → parent_of t x ≡ Some b → parent_operation_of t x ≡ block_parent_operation_of t b
holder_from t x b e = ap (λ o. up_from o (λ z. block_parent_operation_of t z)) e

-- the operation of a standing region is live
pub region_parent_live : (t : Tree) (r y : ℕ) → IsJoined t → IsRegion t r → region_parent_of t r ≡ Some y → IsLive t y
region_parent_live t r y w is e =
    let s = region_owner t r is in
    let f : Some s.0.op ≡ Some y = sym (ap (λ o. op_of_slot o) s.1) ∙ e in
    let g : s.0.op ≡ y = cc in
    subst (IsLive t) g (region_live t s.0.op r s.0.index w s.2)

pub block_holder_live : (t : Tree) (b y : ℕ) → IsJoined t → block_parent_operation_of t b ≡ Some y → IsLive t y
block_holder_live t b y w e = let s = block_steps t b y e in region_parent_live t s.0 y w (w.placed b s.0 s.1) s.2

pub holder_live : (t : Tree) (x y : ℕ) → IsJoined t → parent_operation_of t x ≡ Some y → IsLive t x × IsLive t y
holder_live t x y w e = let s = holder_steps t x y e in ((w.all_in_place x s.0 s.1).0, block_holder_live t s.0 y w s.2)

-- what stands in a standing block has a holder
pub parent_holder : (t : Tree) (x b : ℕ) → IsJoined t → parent_of t x ≡ Some b → (y : ℕ) × (block_parent_operation_of t b ≡ Some y)
parent_holder t x b w e = go (block_parent_of t b) refl
  where
    go : (o : Option ℕ) → block_parent_of t b ≡ o → (y : ℕ) × (block_parent_operation_of t b ≡ Some y)
    go None f = absurd (true≢false (sym (w.all_in_place x b e).1 ∙ ap is_some f))
    go (Some r) f = let s = region_owner t r (w.placed b r f) in (s.0.op, block_holder_from t b r f ∙ ap (λ o. op_of_slot o) s.1)

-- a standing region has an operation
pub region_has : (t : Tree) (r : ℕ) → IsRegion t r → (y : ℕ) × (region_parent_of t r ≡ Some y)
region_has t r is = let s = region_owner t r is in (s.0.op, ap (λ o. op_of_slot o) s.1)

-- nothing holds itself
pub not_own_holder : (t : Tree) (x : ℕ) → IsJoined t → parent_operation_of t x ≢ Some x
not_own_holder t x w e = go (w.rooted x).0 (w.rooted x).1
  where
    go : (n : ℕ) → climb (parent_operation_of t) n (Some x) ≡ None → ⊥
    go zero f = cc
    go (suc n) f = go n (ap (climb (parent_operation_of t) n) (sym e) ∙ f)

module _ (t : Tree) (p : ℕ → Bool) (w : IsJoined t) where
  pub held_below : (x y : ℕ) → parent_operation_of t x ≡ Some y → y < length t.operations
  held_below x y e = live-within t y (holder_live t x y w e).1

  pub met_step : (x : ℕ) → x < length t.operations → is_met_above t p (Some x) ≡ (if p x then true else is_met_above t p (parent_operation_of t x))
  met_step x lt = is_met_step (parent_operation_of t) p w.rooted (length t.operations) held_below x lt

  pub met_here : (x : ℕ) → x < length t.operations → p x ≡ true → is_met_above t p (Some x) ≡ true
  met_here x lt e = met_step x lt ∙ ap (λ b. if b then true else is_met_above t p (parent_operation_of t x)) e

  pub met_below : (x y : ℕ) → parent_operation_of t x ≡ Some y → is_met_above t p (Some y) ≡ true → is_met_above t p (Some x) ≡ true
  met_below x y e m = met_step x (live-within t x (holder_live t x y w e).0) ∙ ap (λ o. if p x then true else is_met_above t p o) e ∙ go (p x)
    where
      go : (b : Bool) → (if b then true else is_met_above t p (Some y)) ≡ true
      go true = refl
      go false = m

  -- where the test fails, a holder is met
  pub met_up : (x : ℕ) → x < length t.operations → p x ≡ false → is_met_above t p (Some x) ≡ true → (y : ℕ) × (parent_operation_of t x ≡ Some y) × (is_met_above t p (Some y) ≡ true)
  met_up x lt e m = go (parent_operation_of t x) refl (sym (met_step x lt ∙ ap (λ b. if b then true else is_met_above t p (parent_operation_of t x)) e) ∙ m)
    where
      none : (n : ℕ) → is_met (parent_operation_of t) p n None ≡ false
      none zero = refl
      none (suc n) = refl

      go : (o : Option ℕ) → parent_operation_of t x ≡ o → is_met_above t p o ≡ true → (y : ℕ) × (parent_operation_of t x ≡ Some y) × (is_met_above t p (Some y) ≡ true)
      go None f g = absurd (true≢false (sym g ∙ none (length t.operations)))
      go (Some y) f g = (y, f, g)

  pub inside_met : (x k : ℕ) → x < length t.operations → p x ≡ true → IsInside t x k → is_met_above t p (Some k) ≡ true
  inside_met x k lt e (Directly f) = met_below k x f (met_here x lt e)
  inside_met x k lt e (Deeper y f i) = met_below k y f (inside_met x y lt e i)

  -- x is met at what stands within it
  pub within_met : (x k : ℕ) → x < length t.operations → p x ≡ true → IsWithin t x k → is_met_above t p (Some k) ≡ true
  within_met x k lt e (inl s) = met_here k (subst (λ z. z < length t.operations) (sym s) lt) (ap p s ∙ e)
  within_met x k lt e (inr i) = inside_met x k lt e i

-- what is met holds what the way started from
pub met_within : (t : Tree) (p : ℕ → Bool) (n k : ℕ) → is_met (parent_operation_of t) p n (Some k) ≡ true → (x : ℕ) × (p x ≡ true) × IsWithin t x k
met_within t p zero k e = absurd (true≢false (sym e))
met_within t p (suc n) k e = go (p k) refl e (parent_operation_of t k) refl (λ y. met_within t p n y)
  where
    none : (n : ℕ) → is_met (parent_operation_of t) p n None ≡ false
    none zero = refl
    none (suc n) = refl

    up : (o : Option ℕ) → parent_operation_of t k ≡ o → is_met (parent_operation_of t) p n o ≡ true → ((y : ℕ) → is_met (parent_operation_of t) p n (Some y) ≡ true → (x : ℕ) × (p x ≡ true) × IsWithin t x y) → (x : ℕ) × (p x ≡ true) × IsWithin t x k
    up None f g rest = absurd (true≢false (sym g ∙ none n))
    up (Some y) f g rest = let r = rest y g in (r.0, r.1, inr (elim r.2 [ inl s ↦ Directly (f ∙ ap Some s) | inr i ↦ Deeper y f i ]))

    go : (b : Bool) → p k ≡ b → (if b then true else is_met (parent_operation_of t) p n (parent_operation_of t k)) ≡ true → (o : Option ℕ) → parent_operation_of t k ≡ o → ((y : ℕ) → is_met (parent_operation_of t) p n (Some y) ≡ true → (x : ℕ) × (p x ≡ true) × IsWithin t x y) → (x : ℕ) × (p x ≡ true) × IsWithin t x k
    go true f g o h rest = (k, f, inl refl)
    go false f g o h rest = up (parent_operation_of t k) refl g rest

pub equal_from : (op x : ℕ) → nat_eq op x ≡ true → x ≡ op
equal_from op x e = elim (eqb_tells op x) [ inl y ↦ sym y.1 | inr n ↦ absurd (true≢false (sym e ∙ n.0)) ]

pub is_listed_from : (t : Tree) (block x : ℕ) → is_in_operation t block x ≡ true → parent_of t x ≡ Some block
is_listed_from t block x e = go (parent_of t x) refl e
  where
    go : (o : Option ℕ) → parent_of t x ≡ o → is_the block o ≡ true → o ≡ Some block
    go None f g = absurd (true≢false (sym g))
    go (Some c) f g = ap Some (equal_from block c g)

pub stands_met : (t : Tree) (block x : ℕ) → parent_of t x ≡ Some block → is_in_operation t block x ≡ true
stands_met t block x e = ap (λ o. is_the block o) e ∙ eq-eqb block block refl

-- the tests say what they are to say
pub is_within : (t : Tree) (op k : ℕ) → IsJoined t → IsLive t op → IsWithin t op k → is_met_above t (nat_eq op) (Some k) ≡ true
is_within t op k w live i = within_met t (nat_eq op) w op k (live-within t op live) (eq-eqb op op refl) i

pub within_is : (t : Tree) (op k : ℕ) → is_met_above t (nat_eq op) (Some k) ≡ true → IsWithin t op k
within_is t op k e = let r = met_within t (nat_eq op) (length t.operations) k e in subst (λ z. IsWithin t z k) (equal_from op r.0 r.1) r.2

pub is_in_block : (t : Tree) (block k : ℕ) → IsJoined t → IsInOperation t block k → is_met_above t (is_in_operation t block) (Some k) ≡ true
is_in_block t block k w s = within_met t (is_in_operation t block) w s.0 k (live-within t s.0 (w.all_in_place s.0 block s.1).0) (stands_met t block s.0 s.1) s.2

pub in_block_is : (t : Tree) (block k : ℕ) → is_met_above t (is_in_operation t block) (Some k) ≡ true → IsInOperation t block k
in_block_is t block k e = let r = met_within t (is_in_operation t block) (length t.operations) k e in (r.0, is_listed_from t block r.0 r.1, r.2)

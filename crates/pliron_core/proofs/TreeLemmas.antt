-- Lemmas on trees and on the reading of their tables.
use Rattle.std.proofs.Common.{◌≡◌, ◌≢◌, ◌⊎◌, ℕ, zero, suc, ◌<◌, ◌≤◌, true, false, List, [], length, get_or, Option, Some, None, IsSome, is_some, refl, sym, ap, ◌∙◌, subst, inl, inr, ⊎_elim, arith, slice_get, true≢false}
use Rattle.std.proofs.lemmas.List.{get_or_past}
use Rattle.pliron_core.specs.Tree.{Tree, IsBlock, IsLive, IsRegion, IsListedBy, Directly, Deeper, IsWithin, HoldsBlock, climb, parent_operation_of, block_parent_operation_of, parent_of, head_of, regions_of, slot_of, no_entry}
use Rattle.pliron_core.specs.declared.context.RegionSlot.{RegionSlot}
use Rattle.pliron_core.specs.Invariant.{HaveSameKeys, IsJoined}
pub use Rattle.pliron_core.proofs.MemberLemmas.{in_slice, in_at}

pub within-some : {A : Type 0} (xs : List (Option A)) (i : ℕ) → IsSome (get_or xs i None) → i < length xs
within-some xs i some = grind (arith, get_or_past)

pub cases_lt : (i n : ℕ) → (i < n) ⊎ (n ≤ i)
cases_lt i n = grind arith

pub live-within : (t : Tree) (op : ℕ) → IsLive t op → op < length t.operations
live-within t op live =
    elim (cases_lt op (length t.operations)) [
      | inl h ↦ h
      | inr h ↦ let none = subst (λ e. IsSome e.head) (get_or_past t.operations op no_entry h) live in absurd (cc)
    ]

pub block-within : (t : Tree) (b : ℕ) → HaveSameKeys t → IsBlock t b → b < length t.bodies
block-within t b keys is = let h = within-some t.block_parents b is in omega (arith, h, keys.block_parents)

-- not both
pub live_dead : (t : Tree) (k : ℕ) → IsLive t k → head_of t k ≡ None → ⊥
live_dead t k live dead = let f : true ≡ false = sym live ∙ ap is_some dead in true≢false f

-- what has a region is live
pub region_live : (t : Tree) (k r i : ℕ) → IsJoined t → slice_get (regions_of t k) i ≡ Some r → IsLive t k
region_live t k r i w e = go (head_of t k) refl
  where
    go : (h : Option _) → head_of t k ≡ h → IsSome (head_of t k)
    go None f = let x : slice_get {X = ℕ} [] i ≡ Some r = ap (λ z. slice_get z.regions i) (sym (w.erased k f).2) ∙ e in absurd (grind arith)
    go (Some h) f = ap is_some f

-- a standing region's operation, which lists it
pub region_owner : (t : Tree) (r : ℕ) → IsRegion t r → (s : RegionSlot) × (slot_of t r ≡ Some s) × (slice_get (regions_of t s.op) s.index ≡ Some r)
region_owner t r is = go (slot_of t r) refl is
  where
    go : (o : Option RegionSlot) → slot_of t r ≡ o → IsListedBy t r o → (s : RegionSlot) × (slot_of t r ≡ Some s) × (slice_get (regions_of t s.op) s.index ≡ Some r)
    go None e i = absurd i
    go (Some s) e i = (s, e, i)

-- what is met on the way up holds what the way started from
pub climb_within : (t : Tree) (op n : ℕ) (k : ℕ) → climb (parent_operation_of t) n (Some k) ≡ Some op → IsWithin t op k
climb_within t op zero k e = let f : k ≡ op = cc in inl f
climb_within t op (suc n) k e = go (λ p f. climb_within t op n p f) (parent_operation_of t k) refl e
  where
    none : (n : ℕ) → climb (parent_operation_of t) n None ≡ None
    none zero = refl
    none (suc n) = none n

    go : ((p : ℕ) → climb (parent_operation_of t) n (Some p) ≡ Some op → IsWithin t op p) → (o : Option ℕ) → parent_operation_of t k ≡ o → climb (parent_operation_of t) n o ≡ Some op → IsWithin t op k
    go up None f g = let x : None ≡ Some op = sym (none n) ∙ g in absurd (cc)
    go up (Some p) f g = inr (elim (up p g) [ inl s ↦ Directly (f ∙ ap Some s) | inr i ↦ Deeper p f i ])

pub outside_climb : (t : Tree) (op block : ℕ) → (HoldsBlock t op block → ⊥) → (n : ℕ) → climb (parent_operation_of t) n (block_parent_operation_of t block) ≢ Some op
outside_climb t op block out n e = go (block_parent_operation_of t block) refl e
  where
    none : (n : ℕ) → climb (parent_operation_of t) n None ≡ None
    none zero = refl
    none (suc n) = none n

    go : (o : Option ℕ) → block_parent_operation_of t block ≡ o → climb (parent_operation_of t) n o ≡ Some op → ⊥
    go None f g = let x : None ≡ Some op = sym (none n) ∙ g in absurd (cc)
    go (Some k) f g = out (k, f, climb_within t op n k g)

-- chains that are cut end too
pub rooted_cut : (h new : ℕ → Option ℕ) → ((x : ℕ) → (new x ≡ h x) ⊎ (new x ≡ None)) → ((x : ℕ) → (n : ℕ) × (climb h n (Some x) ≡ None)) → (x : ℕ) → (n : ℕ) × (climb new n (Some x) ≡ None)
rooted_cut h new cut rooted x = let r = rooted x in go r.0 (Some x) r.1
  where
    go : (n : ℕ) (o : Option ℕ) → climb h n o ≡ None → (m : ℕ) × (climb new m o ≡ None)
    go n None e = (0, refl)
    go zero (Some y) e = absurd (cc)
    go (suc n) (Some y) e = ⊎_elim
        (λ s. let r = go n (h y) e in (suc r.0, ap (climb new r.0) s ∙ r.1))
        (λ s. (1, s))
        (cut y)

-- what stands in a block is live
pub parented_live : (t : Tree) (x : ℕ) → IsJoined t → IsSome (parent_of t x) → IsLive t x
parented_live t x w is = go (parent_of t x) refl is
  where
    go : (o : Option ℕ) → parent_of t x ≡ o → IsSome o → IsLive t x
    go None e i = absurd (let f : true ≡ false = sym i in true≢false f)
    go (Some b) e i = (w.all_in_place x b e).0

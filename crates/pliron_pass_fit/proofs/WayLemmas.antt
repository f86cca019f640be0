-- The way from a root to an operation inside it.
use Rattle.std.proofs.Common.{◌≡◌, ◌⊎◌, ℕ, zero, suc, ◌+◌, true, nat_eq, ◌&&◌, List, [], ◌∷◌, ◌++◌, Option, Some, None, take, refl, sym, ap, ◌∙◌, subst, inl, inr, slice_get, arith}
use Rattle.std.specs.List.{list_any}
use Rattle.std.proofs.lemmas.Option.{same_Some}
use Rattle.std.proofs.lemmas.Bool.{cases_Bool}
use Rattle.pliron_core.specs.Tree.{Tree, In, IsInside, IsWithin, parent_operation_of, parent_of, block_parent_of, region_parent_of, block_parent_operation_of, up_from}
use Rattle.pliron_core.specs.Tree.IsInside.{Directly}
use Rattle.pliron_core.specs.Changes.{HoldsRegion}
use Rattle.pliron_core.specs.Invariant.{IsTree}
use Rattle.pliron_core.proofs.WalkLemmas.{inside_trans, inside_step, inside_linear, not_inside-itself, children_apart}
use Rattle.indexmap.specs.IndexSet.{insert_key}
use Rattle.pliron_pass_fit.specs.Nesting.{AreHeldInTurn, IsWay, IsAround}
use Rattle.pliron_pass_fit.proofs.ContentsLemmas.{tested_in}

-- what stands on the way holds what it leads to, and stands within the first
pub held_within : (t : Tree) (top op : ℕ) (ks : List ℕ) → AreHeldInTurn t top ks op → IsWithin t top op
held_within t top op [] e = inl e
held_within t top op (k ∷ ks) h = elim (held_within t k op ks h.1) [
  | inl e ↦ inr (subst (IsInside t top) (sym e) (Directly h.0))
  | inr u ↦ inr (inside_trans t top k op (Directly h.0) u)
]

pub on_way : (t : Tree) (top op x : ℕ) (ks : List ℕ) → AreHeldInTurn t top ks op → In x (top ∷ ks) → IsWithin t x op
on_way t top op x ks h (inl e) = subst (λ z. IsWithin t z op) (sym e) (held_within t top op ks h)
on_way t top op x [] h (inr i) = absurd i
on_way t top op x (k ∷ ks) h (inr i) = on_way t k op x ks h.1 i

pub below_top : (t : Tree) (top op x : ℕ) (ks : List ℕ) → AreHeldInTurn t top ks op → In x (top ∷ ks) → IsWithin t top x
below_top t top op x ks h (inl e) = inl e
below_top t top op x [] h (inr i) = absurd i
below_top t top op x (k ∷ ks) h (inr i) = elim (below_top t k op x ks h.1 i) [
  | inl e ↦ inr (subst (IsInside t top) (sym e) (Directly h.0))
  | inr u ↦ inr (inside_trans t top k x (Directly h.0) u)
]

-- the way cut after one that stands on it, and one more
pub cut_way : (t : Tree) (top op x i : ℕ) (ks : List ℕ) → AreHeldInTurn t top ks op → slice_get (top ∷ ks) i ≡ Some x → AreHeldInTurn t top (take i ks) x
cut_way t top op x zero ks h at = sym (same_Some top x at)
cut_way t top op x (suc i) [] h at = absurd (cc)
cut_way t top op x (suc i) (k ∷ ks) h at = (h.0, cut_way t k op x i ks h.1 at)

pub way_more : (t : Tree) (top op x : ℕ) (ks : List ℕ) → AreHeldInTurn t top ks op → parent_operation_of t x ≡ Some op → AreHeldInTurn t top (ks ++ x ∷ []) x
way_more t top op x [] e up = (up ∙ ap Some e, refl)
way_more t top op x (k ∷ ks) h up = (h.0, way_more t k op x ks h.1 up)

-- the one after what stands on the way
pub way_next : (t : Tree) (top op x i : ℕ) (ks : List ℕ) → AreHeldInTurn t top ks op → slice_get (top ∷ ks) i ≡ Some x
    → ((slice_get ks i ≡ None) × (op ≡ x)) ⊎ ((y : ℕ) × (slice_get ks i ≡ Some y) × (parent_operation_of t y ≡ Some x) × IsWithin t y op)
way_next t top op x zero [] e at = inl (refl, e ∙ same_Some top x at)
way_next t top op x zero (k ∷ ks) h at = inr (k, refl, h.0 ∙ at, held_within t k op ks h.1)
way_next t top op x (suc i) [] e at = absurd (cc)
way_next t top op x (suc i) (k ∷ ks) h at = way_next t k op x i ks h.1 at

module _ (t : Tree) (w : IsTree t) where
  antisym : (a b : ℕ) → IsWithin t a b → IsInside t b a → ⊥
  antisym a b u v = not_inside-itself t w b (inside_both u)
    where
      inside_both : IsWithin t a b → IsInside t b b
      inside_both (inl e) = subst (IsInside t b) (sym e) v
      inside_both (inr u) = inside_trans t b a b v u

  -- all that holds the operation within the first stands on the way
  pub way_whole : (top op x : ℕ) (ks : List ℕ) → AreHeldInTurn t top ks op → IsWithin t top x → IsWithin t x op → In x (top ∷ ks)
  way_whole top op x [] e (inl f) v = inl f
  way_whole top op x [] e (inr u) v = absurd (elim v [
    | inl f ↦ not_inside-itself t w top (subst (IsInside t top) (sym f ∙ e) u)
    | inr i ↦ not_inside-itself t w top (inside_trans t top x top u (subst (IsInside t x) e i))
  ])
  way_whole top op x (k ∷ ks) h u v = elim (beside (held_within t k op ks h.1) v) [
    | inl a ↦ inr (way_whole k op x ks h.1 a v)
    | inr b ↦ elim b [
      | inl e ↦ inr (inl (sym e))
      | inr i ↦ inl (above i u)
    ]
  ]
    where
      beside : IsWithin t k op → IsWithin t x op → IsWithin t k x ⊎ IsWithin t x k
      beside (inl e) (inl f) = inl (inl (sym f ∙ e))
      beside (inl e) (inr i) = inr (inr (subst (IsInside t x) e i))
      beside (inr i) v = inside_linear t w k x op i v

      above : IsInside t x k → IsWithin t top x → x ≡ top
      above i (inl e) = e
      above i (inr j) =
          let up = inside_step t x k i in
          let same : up.0 ≡ top = same_Some up.0 top (sym up.1 ∙ h.0) in
          absurd (antisym x top (subst (IsWithin t x) same up.2) j)

  pub holder_at : (a b region h : ℕ) → parent_of t a ≡ Some b → block_parent_of t b ≡ Some region → region_parent_of t region ≡ Some h → parent_operation_of t a ≡ Some h
  holder_at a b region h p q r =
      ap (λ o. up_from o (λ x. block_parent_operation_of t x)) p ∙ ap (λ o. up_from o (λ x. region_parent_of t x)) q ∙ r

  -- a step of the way: it is cut after the parent operation, and led on
  pub led : (root at op holder above : ℕ) (old short new : List ℕ) → IsWay t root at old → parent_operation_of t op ≡ Some holder → slice_get old above ≡ Some holder → short ≡ take (above + 1) old
      → new ≡ insert_key (λ x y. nat_eq x y && true) short op → IsWay t root op new
  led root at op holder above old short new way up there cut put =
      let ks = take above way.below in
      let there2 : slice_get (root ∷ way.below) above ≡ Some holder = ap (λ z. slice_get z above) (sym way.split) ∙ there in
      let kept = cut_way t root at holder above way.below way.held there2 in
      let one : above + 1 ≡ suc above = omega arith in
      let is : short ≡ root ∷ ks = cut ∙ ap (λ z. take (above + 1) z) way.split ∙ ap (λ n. take n (root ∷ way.below)) one in
      let out : In op (root ∷ ks) → ⊥ = λ i. antisym op holder (on_way t root holder op ks kept i) (Directly up) in
      let added : insert_key (λ x y. nat_eq x y && true) (root ∷ ks) op ≡ (root ∷ ks) ++ op ∷ [] = put_last (root ∷ ks) op out in
      record {
        below = ks ++ op ∷ [];
        split = put ∙ ap (λ z. insert_key (λ x y. nat_eq x y && true) z op) is ∙ added;
        held = way_more t root holder op ks kept up;
      }
    where
      put_last : (xs : List ℕ) (x : ℕ) → (In x xs → ⊥) → insert_key (λ x y. nat_eq x y && true) xs x ≡ xs ++ x ∷ []
      put_last xs x out = elim (cases_Bool (list_any (λ y. nat_eq x y && true) xs)) [
        | inl h ↦ absurd (out (tested_in xs x h))
        | inr h ↦ rw h refl
      ]

  -- what stands around the user in the region
  module _ (root user region h : ℕ) (keys : List ℕ) (way : IsWay t root user keys) (parent : region_parent_of t region ≡ Some h) where
    inside_holder : (a b : ℕ) → IsAround t user region a b → IsInside t h user
    inside_holder a b s = inside_step_in (Directly (holder_at a b region h s.in_block s.in_region parent)) s.holds
      where
        inside_step_in : IsInside t h a → IsWithin t a user → IsInside t h user
        inside_step_in i (inl e) = subst (IsInside t h) (sym e) i
        inside_step_in i (inr j) = inside_trans t h a user i j

    pub holder_on_way : HoldsRegion t root region → (a b : ℕ) → IsAround t user region a b → In h keys
    holder_on_way held a b s =
        let u : IsWithin t root h = subst (IsWithin t root) (same_Some held.0 h (sym held.1 ∙ parent)) held.2 in
        subst (In h) (sym way.split) (way_whole root user h way.below way.held u (inr (inside_holder a b s)))

    next_one : (i : ℕ) (xs : List ℕ) (o : Option ℕ) → keys ≡ root ∷ xs → slice_get keys (i + 1) ≡ o → slice_get xs i ≡ o
    next_one i xs o split e = let one : i + 1 ≡ suc i = omega arith in sym (ap (λ z. slice_get z (i + 1)) split ∙ ap (slice_get (root ∷ xs)) one) ∙ e

    pub nothing_below : (i : ℕ) → slice_get keys i ≡ Some h → slice_get keys (i + 1) ≡ None → (a b : ℕ) → IsAround t user region a b → ⊥
    nothing_below i at none a b s =
        let below = next_one i way.below None way.split none in
        elim (way_next t root user h i way.below way.held (ap (λ z. slice_get z i) (sym way.split) ∙ at)) [
          | inl e ↦ not_inside-itself t w h (subst (IsInside t h) e.1 (inside_holder a b s))
          | inr y ↦ some_none y.0 (sym y.1 ∙ below)
        ]
      where
        some_none : (y : ℕ) → Some y ≡ None → ⊥
        some_none y e = cc

    pub one_below : (i x : ℕ) → slice_get keys i ≡ Some h → slice_get keys (i + 1) ≡ Some x → (parent_operation_of t x ≡ Some h) × IsWithin t x user
    one_below i x at next =
        let below = next_one i way.below (Some x) way.split next in
        elim (way_next t root user h i way.below way.held (ap (λ z. slice_get z i) (sym way.split) ∙ at)) [
          | inl e ↦ absurd (some_none (sym below ∙ e.0))
          | inr y ↦ let same : y.0 ≡ x = same_Some y.0 x (sym y.1 ∙ below) in (subst (λ z. parent_operation_of t z ≡ Some h) same y.2, subst (λ z. IsWithin t z user) same y.3)
        ]
      where
        some_none : Some x ≡ None → ⊥
        some_none e = cc

    pub only_around : (x : ℕ) → (parent_operation_of t x ≡ Some h) × IsWithin t x user → (a b : ℕ) → IsAround t user region a b → a ≡ x
    only_around x known a b s = children_apart t w a x h user (holder_at a b region h s.in_block s.in_region parent) known.0 s.holds known.1

  -- two that stand around one user in one region are one
  pub around_once : (user region h a b c d : ℕ) → region_parent_of t region ≡ Some h → IsAround t user region a b → IsAround t user region c d → a ≡ c
  around_once user region h a b c d parent s r =
      children_apart t w a c h user (holder_at a b region h s.in_block s.in_region parent) (holder_at c d region h r.in_block r.in_region parent) s.holds r.holds

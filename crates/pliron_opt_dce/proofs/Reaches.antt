-- What one use keeps alive: an operation around its value, and those around that one that the user isn't within.
use Rattle.std.proofs.Common.{◌≡◌, inl, inr, ℕ, Bool, true, false, nat_eq, ◌&&◌, Option, Some, None, IfSome, refl, sym, ◌∙◌, subst, arith}
use Rattle.pliron_core.specs.Changes.{IsDefinedInside}
use Rattle.pliron_core.specs.Tree.{Tree, In, IsLive, Directly, IsWithin, operands_of, definition_of, parent_operation_of}
use Rattle.pliron_core.specs.Invariant.{IsTree}
use Rattle.pliron_core.proofs.HoldingLemmas.{some_is, inside_up, inside_by, within_inside, maker_deeper, not_itself}
use Rattle.pliron_opt_dce.specs.declared.around.LiveChain.{LiveChain}
use Rattle.pliron_opt_dce.specs.Readiness.{IsKeptAlive, IsHeldUpTo}
use Rattle.pliron_opt_dce.proofs.ReadyTests.{held_from_inside}

-- the keys of two operations are not the same
pub key_differs : (a b : ℕ) (r : Bool) → r ≡ (nat_eq a b && true) → r ≡ false → a ≡ b → ⊥
key_differs a b r s f e = grind (arith, s, f, e)

-- on the way up from the user: if it is within the operation, so is what the climb has reached
abbrev pub IsClimbing : Tree → (op user : ℕ) → Option ℕ → Type 0
IsClimbing t op user o = IsWithin t op user → (h : ℕ) × (o ≡ Some h) × IsWithin t op h

pub climb_starts : (t : Tree) (op user : ℕ) → IsClimbing t op user (Some user)
climb_starts t op user i = (user, refl, i)

module _ (t : Tree) (op user h : ℕ) (c : IsClimbing t op user (Some h)) where
  reached : IsWithin t op user → IsWithin t op h
  reached i = let r = c i in subst (IsWithin t op) (sym (some_is r.1)) r.2

  pub climb_more : (o : Option ℕ) → (h ≡ op → ⊥) → o ≡ parent_operation_of t h → IsClimbing t op user o
  climb_more o n up i = past (reached i)
    where
      past : IsWithin t op h → (k : ℕ) × (o ≡ Some k) × IsWithin t op k
      past (inl e) = absurd (n e)
      past (inr j) = let y = inside_up j in (y.0, up ∙ y.1, y.2)

  -- nothing at the parent operation or around it is within the operation
  pub climb_stops : IsTree t → parent_operation_of t op ≡ Some h → IsWithin t op user → ⊥
  climb_stops w up i = not_itself w.joined.rooted (within_inside (Directly up) (reached i))

pub climb_ends : (t : Tree) (op user : ℕ) (o : Option ℕ) → o ≡ None → IsClimbing t op user o → IsWithin t op user → ⊥
climb_ends t op user o none c i = let r = c i in let y : None ≡ Some r.0 = sym none ∙ r.1 in absurd (cc)

pub holds_up : (t : Tree) (op top v user : ℕ) → IsLive t op → IsWithin t top op → IsDefinedInside t op v → In v (operands_of t user) → (IsWithin t top user → ⊥) → IsHeldUpTo t op top
holds_up t op top v user live within made used out = record {
  live = live;
  within = within;
  held = λ k a b. held_from_inside t k v (around k b) (user, used, λ z. out (through k a z));
}
  where
    around : (k : ℕ) → IsWithin t k op → IsDefinedInside t k v
    around k (inl e) = subst (λ z. IsDefinedInside t z v) e made
    around k (inr i) = maker_deeper i (definition_of t v) made

    through : (k : ℕ) → IsWithin t top k → IsWithin t k user → IsWithin t top user
    through k (inl e) z = subst (λ q. IsWithin t q user) e z
    through k (inr i) z = inr (within_inside i z)

-- the same for the parent operation
pub holds_next : (t : Tree) (at top op : ℕ) → IsHeldUpTo t at top → (at ≡ top → ⊥) → parent_operation_of t at ≡ Some op → IsLive t op → IsHeldUpTo t op top
holds_next t at top op h n up live = record {
  live = live;
  within = next h.within;
  held = λ k a b. h.held k a (inr (inside_by op up b));
}
  where
    next : IsWithin t top at → IsWithin t top op
    next (inl e) = absurd (n e)
    next (inr i) = let y = inside_up i in subst (IsWithin t top) (some_is (sym y.1 ∙ up)) y.2

pub reach_holds : (t : Tree) (at top : ℕ) → IsHeldUpTo t at top → IsKeptAlive t at
reach_holds t at top h = h.held at h.within (inl refl)

-- what was found holds the operation that was asked for
pub held_told : (t : Tree) (op : ℕ) (found : Option LiveChain) → IfSome found (λ reach. (reach.at ≡ op) × IsHeldUpTo t reach.at reach.top) → (found ≡ None → ⊥) → IsKeptAlive t op
held_told t op None h n = absurd (n refl)
held_told t op (Some reach) h n = subst (IsKeptAlive t) h.0 (reach_holds t reach.at reach.top h.1)

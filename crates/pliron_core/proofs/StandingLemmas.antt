-- What stands because it uses something, and what is used.
use Rattle.std.proofs.Common.{◌≡◌, ◌⊎◌, ℕ, ◌<◌, ◌≤◌, List, [], ◌∷◌, length, Option, Some, None, is_some, slice_get, refl, sym, ap, ◌∙◌, subst, inl, inr, arith}
use Rattle.std.proofs.lemmas.Option.{slice_get_within}
use Rattle.std.proofs.lemmas.List.{get_or_past}
use Rattle.pliron_core.specs.declared.attrs.Head.{Head}
use Rattle.pliron_core.specs.declared.uses.Use.{Use}
use Rattle.pliron_core.specs.Lists.{In}
use Rattle.pliron_core.specs.Uses.{AreAgreed}
use Rattle.pliron_core.specs.Tree.{Tree, IsLive, IsInside, IsInside.Directly, IsInside.Deeper, head_of, operands_of, successors_of, block_parent_of, uses_of}
use Rattle.pliron_core.specs.Invariant.{IsJoined, IsTree}
use Rattle.pliron_core.proofs.HoldingLemmas.{not_none, holder_live, in_slice, slice_in}

-- what has operands or successors stands
pub used_live : (t : Tree) → IsJoined t → (k v : ℕ) → In v (operands_of t k) → IsLive t k
used_live t w k v i = go (head_of t k) refl
  where
    go : (o : Option Head) → head_of t k ≡ o → IsLive t k
    go None e = absurd (subst (In v) (w.erased k e).0 i)
    go (Some h) e = ap is_some e

pub leads_live : (t : Tree) → IsJoined t → (k b : ℕ) → In b (successors_of t k) → IsLive t k
leads_live t w k b i = go (head_of t k) refl
  where
    go : (o : Option Head) → head_of t k ≡ o → IsLive t k
    go None e = absurd (subst (In b) (w.erased k e).1 i)
    go (Some h) e = ap is_some e

-- what is inside stands, and so does what it is inside of
pub inside_live : (t : Tree) → IsJoined t → {a k : ℕ} → IsInside t a k → IsLive t a × IsLive t k
inside_live t w (Directly {x} e) = let l = holder_live t x _ w e in (l.1, l.0)
inside_live t w (Deeper {x} p e i) = ((inside_live t w i).0, (holder_live t x p w e).0)

-- a block with a region has a key
pub placed_within : (t : Tree) → IsTree t → (b r : ℕ) → block_parent_of t b ≡ Some r → b < length t.bodies
placed_within t w b r e = go (cases b (length t.block_parents))
  where
    cases : (x n : ℕ) → (x < n) ⊎ (n ≤ x)
    cases x n = grind arith

    go : (b < length t.block_parents) ⊎ (length t.block_parents ≤ b) → b < length t.bodies
    go (inl lt) = let k = w.keys.block_parents in omega (arith, lt, k)
    go (inr le) = absurd (not_none (sym (get_or_past t.block_parents b None le) ∙ e))

-- a value without uses is no operand, and one with a use is
pub no_use : (t : Tree) (uses : List (List Use)) (v : ℕ) → AreAgreed t.operands uses → length (uses_of uses v) ≡ 0 → (user : ℕ) → In v (operands_of t user) → ⊥
no_use t uses v a e user i =
    let p = slice_in (operands_of t user) v i in
    let u = a.complete user p.0 v p.1 in
    let lt = slice_get_within (uses_of uses v) u.0 _ u.1 in
    absurd (omega (arith, lt, e))

pub some_use : (t : Tree) (uses : List (List Use)) (v : ℕ) → AreAgreed t.operands uses → (length (uses_of uses v) ≡ 0 → ⊥) → (user : ℕ) × In v (operands_of t user)
some_use t uses v a some = go (uses_of uses v) refl
  where
    go : (xs : List Use) → uses_of uses v ≡ xs → (user : ℕ) × In v (operands_of t user)
    go [] e = absurd (some (ap length e))
    go (x ∷ xs) e = (x.user, in_slice (operands_of t x.user) x.place v (a.listed v 0 x (ap (λ z. slice_get z 0) e)))

-- Lemmas on the members of a list.
use Rattle.std.proofs.Common.{◌≡◌, ℕ, zero, suc, List, [], ◌∷◌, Some, sym, ap, inl, inr, arith}
use Rattle.std.specs.List.{slice_get}
use Rattle.pliron_core.specs.Lists.{In}

-- what stands at an index is a member
pub in_slice : (xs : List ℕ) (i v : ℕ) → slice_get xs i ≡ Some v → In v xs
in_slice [] i v e = grind arith
in_slice (y ∷ ys) zero v e = let f : y ≡ v = cc in inl (sym f)
in_slice (y ∷ ys) (suc i) v e = inr (in_slice ys i v e)

-- a member stands at some index
pub in_at : (xs : List ℕ) (v : ℕ) → In v xs → (i : ℕ) × (slice_get xs i ≡ Some v)
in_at [] v i = absurd i
in_at (x ∷ xs) v (inl e) = (0, ap Some (sym e))
in_at (x ∷ xs) v (inr i) = let r = in_at xs v i in (suc r.0, r.1)

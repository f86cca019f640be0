-- What is within a live operation is live; lists of what is live.
use Rattle.std.proofs.Common.{◌≡◌, inl, inr, ℕ, List, sym, ◌∙◌, subst}
use Rattle.std.specs.Prelude.{slice_get}
use Rattle.std.specs.List.{All}
use Rattle.std.proofs.lemmas.Option.{slice_get_within, slice_get-get_or}
use Rattle.pliron_core.specs.Tree.{Tree, In, IsLive, IsWithin}
use Rattle.pliron_core.specs.Invariant.{IsTree}
use Rattle.pliron_core.proofs.HoldingLemmas.{some_is, slice_in, inside_up}
use Rattle.pliron_core.proofs.WalkLemmas.{held_live}

pub within_live : (t : Tree) → IsTree t → (op k : ℕ) → IsLive t op → IsWithin t op k → IsLive t k
within_live t w op k live (inl e) = subst (IsLive t) (sym e) live
within_live t w op k live (inr i) = held_live t w k (inside_up i).0 (inside_up i).1

pub live_in : (t : Tree) (fs : List ℕ) → All (λ f. IsLive t f) fs → (f : ℕ) → In f fs → IsLive t f
live_in t fs all f i =
    let at = slice_in fs f i in
    let lt = slice_get_within fs at.0 f at.1 in
    subst (λ z. IsLive t z) (some_is (sym (slice_get-get_or fs at.0 f lt) ∙ at.1)) (all at.0 f lt)

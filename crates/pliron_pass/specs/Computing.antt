-- Computing analyses with what they need.
use Rattle.std.specs.Prelude.{◌≡◌, ℕ, ◌+◌, List, [], ◌∷◌, ◌++◌, Bool, Option, None, IsSome}
use Rattle.pliron_pass.specs.Grown.{cached_at}

module _ {K E : Type 0} (eq : K → K → Bool) (needs : K → ℕ) (need : K → ℕ → K) (o : ℕ) where
  mutual
    -- a kind is computed for o: nothing happens where it is cached, and else what it needs is computed
    -- and then its analysis is put last
    pub data Computes : K → List ((K × ℕ) × E) → List ((K × ℕ) × E) → Type 0 where
      Found : {k : K} {es : List ((K × ℕ) × E)} → IsSome (cached_at eq es k o) → Computes k es es
      Made : {k : K} {es fs : List ((K × ℕ) × E)} (e : E) → cached_at eq es k o ≡ None → ComputesNeeds k (needs k) es fs → Computes k es (fs ++ ((k, o), e) ∷ [])

    -- the first n needs of a kind are computed in turn
    pub data ComputesNeeds : K → ℕ → List ((K × ℕ) × E) → List ((K × ℕ) × E) → Type 0 where
      NeedsNone : {k : K} {es : List ((K × ℕ) × E)} → ComputesNeeds k 0 es es
      NeedsNext : {k : K} {n : ℕ} {es fs gs : List ((K × ℕ) × E)} → ComputesNeeds k n es fs → Computes (need k n) fs gs → ComputesNeeds k (n + 1) es gs

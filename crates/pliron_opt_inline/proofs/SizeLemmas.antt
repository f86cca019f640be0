-- Sums of sizes, and walks over what is directly inside an operation.
use Rattle.std.proofs.Common.{◌≡◌, ◌⊎◌, inl, inr, ⊎_elim, ℕ, ◌+◌, ◌-◌, ◌^◌, ◌≤◌, min, List, [], ◌∷◌, refl, sym, ap, ◌∙◌, subst, arith}
use Rattle.std.specs.List.{sum_by}
use Rattle.std.specs.Option.{option_map_or}
use Rattle.std.proofs.lemmas.List.Sums.{sum_by-cons}
use Rattle.pliron_core.specs.declared.attrs.Head.{Head}
use Rattle.pliron_core.specs.Tree.{Tree, In, IsLive, head_of}
use Rattle.pliron_core.proofs.HoldingLemmas.{some_of}
use Rattle.pliron_laws.specs.Answers.{ReadsHead}
use Rattle.pliron_opt_inline.specs.Sizes.{size_at}

-- what is cut off by a bound in between is cut off in the end
pub cut_between : (a b r top : ℕ) → min (min (a + b) top + r) top ≡ min (a + (b + r)) top
cut_between a b r top = grind arith

pub cut_below : (a top : ℕ) → min a top ≤ top
cut_below a top = grind arith

pub uncut : (a top : ℕ) → a ≤ top → a ≡ min (a + 0) top
uncut a top h = grind arith

pub size_read : (size : Head → ℕ) (t : Tree) (k n : ℕ) → IsLive t k → ReadsHead size t k n → n ≡ size_at size t k
size_read size t k n live reads = let h = some_of (head_of t k) live in reads h.0 h.1 ∙ sym (ap (λ o. option_map_or size o 0) h.1)

-- one more is in the sum
pub sum_more : (f : ℕ → ℕ) (a n x whole top : ℕ) (rest rest' : List ℕ) → rest ≡ x ∷ rest' → n ≡ f x → min (a + sum_by f rest) top ≡ whole → min (min (a + n) top + sum_by f rest') top ≡ whole
sum_more f a n x whole top rest rest' e is so =
    cut_between a n (sum_by f rest') top ∙ ap (λ z. min (a + z) top) (ap (λ z. z + sum_by f rest') is ∙ sym (ap (sum_by f) e ∙ sum_by-cons f x rest')) ∙ so

-- what holds of all that was passed, and of one more
pub one_passed : (P : ℕ → Type 0) (xs rest rest' : List ℕ) (x : ℕ) → rest ≡ x ∷ rest' → P x → ((k : ℕ) → In k xs → In k rest ⊎ P k) → (k : ℕ) → In k xs → In k rest' ⊎ P k
one_passed P xs rest rest' x e p all k i = ⊎_elim (λ j. ⊎_elim (λ s. inr (subst P (sym s) p)) (λ l. inl l) (subst (In k) e j)) (λ q. inr q) (all k i)

pub all_passed : (P : ℕ → Type 0) (xs : List ℕ) → ((k : ℕ) → In k xs → In k [] ⊎ P k) → (k : ℕ) → In k xs → P k
all_passed P xs all k i = ⊎_elim (λ j. absurd j) (λ q. q) (all k i)

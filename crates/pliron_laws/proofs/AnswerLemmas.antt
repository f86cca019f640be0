-- Answers of tests.
use Rattle.std.proofs.Common.{◌≡◌, ◌↔◌, IsTrue, Bool, true, false, refl, sym, ◌∙◌}
use Rattle.std.proofs.lemmas.Bool.{false≢true}

-- the answer yes, where it holds, and no, where it doesn't
pub yes : (P : Type 0) → P → IsTrue true ↔ P
yes P p = (λ e. p, λ q. refl)

pub no : (P : Type 0) → (P → ⊥) → IsTrue false ↔ P
no P out = (λ e. absurd (false≢true e), λ p. absurd (out p))

-- one test has one answer
pub refuted : (b : Bool) → b ≡ false → b ≡ true → ⊥
refuted b e f = false≢true (sym e ∙ f)

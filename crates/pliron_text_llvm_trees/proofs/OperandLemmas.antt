-- Numbers that pass a test, added one after another.
use Rattle.std.proofs.Common.{append-nil, ◌≡◌, ℕ, zero, suc, ◌+◌, ◌-◌, ◌<◌, ◌≤◌, Bool, true, false, List, [], ◌∷◌, ◌++◌, refl, sym, ap, ◌∙◌, append_assoc, arith, if◌then◌else◌}
use Rattle.pliron_text_llvm_edges.specs.Numbers.{numbers_passing}
use Rattle.pliron_text_llvm_edges.proofs.NumberLemmas.{passing_first}

-- no number yet
pub operands_none : (test : ℕ → Bool) (number end : ℕ) (found : List ℕ) → found ≡ []
    → found ++ numbers_passing test number (end - number) ≡ numbers_passing test number (end - number)
operands_none test number end found e = ap (λ xs. xs ++ numbers_passing test number (end - number)) e

-- a number more
pub operands_more : (test : ℕ → Bool) (number end : ℕ) (whole found after : List ℕ) → number < end
    → found ++ numbers_passing test number (end - number) ≡ whole → after ≡ found ++ numbers_passing test number 1
    → after ++ numbers_passing test (number + 1) (end - (number + 1)) ≡ whole
operands_more test number end whole found after less e grown =
    let one : List ℕ = numbers_passing test number 1 in
    let rest : List ℕ = numbers_passing test (number + 1) (end - (number + 1)) in
    ap (λ xs. xs ++ rest) grown ∙ append_assoc found one rest
    ∙ ap (λ ns. found ++ ns) (sym (passing_first test number end less)) ∙ e

-- no number is left
pub operands_all : (test : ℕ → Bool) (number end : ℕ) (whole found : List ℕ) → end ≤ number
    → found ++ numbers_passing test number (end - number) ≡ whole → found ≡ whole
operands_all test number end whole found past e =
    let none : end - number ≡ 0 = omega (arith, past) in
    sym (append-nil found) ∙ ap (λ count. found ++ numbers_passing test number count) (sym none) ∙ e

-- ---- the last one of so many

first_apart : (b : Bool) (number : ℕ) (rest : List ℕ) → (if b then number ∷ rest else rest) ≡ (if b then number ∷ [] else []) ++ rest
first_apart true number rest = refl
first_apart false number rest = refl

passing_cons : (test : ℕ → Bool) (number count : ℕ) → numbers_passing test number (suc count) ≡ numbers_passing test number 1 ++ numbers_passing test (number + 1) count
passing_cons test number count = first_apart (test number) number (numbers_passing test (number + 1) count)

pub passing_last : (test : ℕ → Bool) (number count : ℕ) → numbers_passing test number (suc count) ≡ numbers_passing test number count ++ numbers_passing test (number + count) 1
passing_last test number zero = ap (λ n. numbers_passing test n 1) (let e : number ≡ number + 0 = omega arith in e)
passing_last test number (suc count) =
    let one : List ℕ = numbers_passing test number 1 in
    let middle : List ℕ = numbers_passing test (number + 1) count in
    passing_cons test number (suc count)
    ∙ ap (λ xs. one ++ xs) (passing_last test (number + 1) count)
    ∙ sym (append_assoc one middle (numbers_passing test (number + 1 + count) 1))
    ∙ ap (λ xs. xs ++ numbers_passing test (number + 1 + count) 1) (sym (passing_cons test number count))
    ∙ ap (λ n. numbers_passing test number (suc count) ++ numbers_passing test n 1) (let e : number + 1 + count ≡ number + suc count = omega arith in e)

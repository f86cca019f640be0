-- Holes of numbers that pass a test, added one after another.
use Rattle.std.proofs.Common.{append-nil, ◌≡◌, ℕ, ◌+◌, ◌-◌, ◌<◌, ◌≤◌, Bool, true, false, List, [], ◌∷◌, ◌++◌, refl, sym, ap, ◌∙◌, append_assoc, arith}
use Rattle.std.specs.Prelude.{Some, None, slice_get, option_to_list}
use Rattle.pliron_text_llvm_syntax.specs.declared.forms.Hole.{Hole}
use Rattle.pliron_text_llvm_edges.specs.Numbers.{numbers_passing}
use Rattle.pliron_text_llvm_edges.proofs.NumberLemmas.{passing_first, passing_true, passing_false}
use Rattle.pliron_text_llvm_plans.specs.Forms.{holes_numbered}

-- ---- one hole

pub hole_left : (test : ℕ → Bool) (holes : List Hole) (number : ℕ) (found : List Hole) → test number ≡ false → found ≡ found ++ holes_numbered holes (numbers_passing test number 1)
hole_left test holes number found fails = sym (append-nil found) ∙ ap (λ ns. found ++ holes_numbered holes ns) (sym (passing_false test number fails))

pub hole_put : (test : ℕ → Bool) (holes : List Hole) (number : ℕ) (hole : Hole) (found after : List Hole) → test number ≡ true → slice_get holes number ≡ Some hole → after ≡ found ++ hole ∷ []
    → after ≡ found ++ holes_numbered holes (numbers_passing test number 1)
hole_put test holes number hole found after passes at grown =
    grown ∙ ap (λ o. found ++ (option_to_list o ++ [])) (sym at) ∙ ap (λ ns. found ++ holes_numbered holes ns) (sym (passing_true test number passes))

pub hole_missing : (test : ℕ → Bool) (holes : List Hole) (number : ℕ) (found : List Hole) → test number ≡ true → slice_get holes number ≡ None → found ≡ found ++ holes_numbered holes (numbers_passing test number 1)
hole_missing test holes number found passes at =
    sym (append-nil found) ∙ ap (λ o. found ++ (option_to_list o ++ [])) (sym at) ∙ ap (λ ns. found ++ holes_numbered holes ns) (sym (passing_true test number passes))

-- ---- all holes

numbered-append : (holes : List Hole) (first second : List ℕ) → holes_numbered holes (first ++ second) ≡ holes_numbered holes first ++ holes_numbered holes second
numbered-append holes [] second = refl
numbered-append holes (number ∷ first) second =
    ap (λ xs. option_to_list (slice_get holes number) ++ xs) (numbered-append holes first second)
    ∙ sym (append_assoc (option_to_list (slice_get holes number)) (holes_numbered holes first) (holes_numbered holes second))

pub holes_begun : (test : ℕ → Bool) (holes : List Hole) (number end : ℕ) (found : List Hole) → found ≡ []
    → found ++ holes_numbered holes (numbers_passing test number (end - number)) ≡ holes_numbered holes (numbers_passing test number (end - number))
holes_begun test holes number end found e = ap (λ xs. xs ++ holes_numbered holes (numbers_passing test number (end - number))) e

pub holes_more : (test : ℕ → Bool) (holes : List Hole) (number end : ℕ) (whole found after : List Hole) → number < end
    → found ++ holes_numbered holes (numbers_passing test number (end - number)) ≡ whole → after ≡ found ++ holes_numbered holes (numbers_passing test number 1)
    → after ++ holes_numbered holes (numbers_passing test (number + 1) (end - (number + 1))) ≡ whole
holes_more test holes number end whole found after less e grown =
    let one : List ℕ = numbers_passing test number 1 in
    let rest : List ℕ = numbers_passing test (number + 1) (end - (number + 1)) in
    ap (λ xs. xs ++ holes_numbered holes rest) grown
    ∙ append_assoc found (holes_numbered holes one) (holes_numbered holes rest)
    ∙ ap (λ xs. found ++ xs) (sym (numbered-append holes one rest))
    ∙ ap (λ ns. found ++ holes_numbered holes ns) (sym (passing_first test number end less)) ∙ e

pub holes_all : (test : ℕ → Bool) (holes : List Hole) (number end : ℕ) (whole found : List Hole) → end ≤ number
    → found ++ holes_numbered holes (numbers_passing test number (end - number)) ≡ whole → found ≡ whole
holes_all test holes number end whole found past e =
    let none : end - number ≡ 0 = omega (arith, past) in
    sym (append-nil found) ∙ ap (λ count. found ++ holes_numbered holes (numbers_passing test number count)) (sym none) ∙ e

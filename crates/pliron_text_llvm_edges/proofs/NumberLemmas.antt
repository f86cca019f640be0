-- Numbers of what is in blocks, added one after another.
use Rattle.std.proofs.Common.{append-nil, ◌≡◌, ℕ, suc, ◌+◌, ◌-◌, ◌<◌, ◌≤◌, Bool, true, false, List, [], ◌∷◌, ◌++◌, length, get_or, drop, refl, sym, ap, ◌∙◌, append_assoc, arith, if◌then◌else◌, map}
use Rattle.std.proofs.lemmas.List.{drop_all, drop_more, map-append}
use Rattle.pliron_text_llvm_reader.specs.declared.blocks.BlockLines.{BlockLines}
use Rattle.pliron_text_llvm_edges.specs.Numbers.{numbers_passing, in_block, in_blocks}

first_apart : (b : Bool) (number : ℕ) (rest : List ℕ) → (if b then number ∷ rest else rest) ≡ (if b then number ∷ [] else []) ++ rest
first_apart true number rest = refl
first_apart false number rest = refl

-- the first of the numbers, and those behind it
pub passing_first : (test : ℕ → Bool) (number end : ℕ) → number < end
    → numbers_passing test number (end - number) ≡ numbers_passing test number 1 ++ numbers_passing test (number + 1) (end - (number + 1))
passing_first test number end less =
    let count : end - number ≡ suc (end - (number + 1)) = omega (arith, less) in
    ap (numbers_passing test number) count ∙ first_apart (test number) number (numbers_passing test (number + 1) (end - (number + 1)))

-- a number more
pub passing_more : (test : ℕ → Bool) (block number end : ℕ) (whole found after : List (ℕ × ℕ)) → number < end
    → found ++ in_block block (numbers_passing test number (end - number)) ≡ whole → after ≡ found ++ in_block block (numbers_passing test number 1)
    → after ++ in_block block (numbers_passing test (number + 1) (end - (number + 1))) ≡ whole
passing_more test block number end whole found after less e grown =
    let one : List ℕ = numbers_passing test number 1 in
    let rest : List ℕ = numbers_passing test (number + 1) (end - (number + 1)) in
    ap (λ xs. xs ++ in_block block rest) grown
    ∙ append_assoc found (in_block block one) (in_block block rest)
    ∙ ap (λ xs. found ++ xs) (sym (map-append (λ n. (block, n)) one rest))
    ∙ ap (λ ns. found ++ in_block block ns) (sym (passing_first test number end less)) ∙ e

-- no number is left
pub passing_all : (test : ℕ → Bool) (block number end : ℕ) (whole found : List (ℕ × ℕ)) → end ≤ number
    → found ++ in_block block (numbers_passing test number (end - number)) ≡ whole → found ≡ whole
passing_all test block number end whole found past e =
    let none : end - number ≡ 0 = omega (arith, past) in
    sym (append-nil found) ∙ ap (λ count. found ++ in_block block (numbers_passing test number count)) (sym none) ∙ e

-- a block more
pub blocks_more : (numbers_of : BlockLines → List ℕ) (whole found after : List (ℕ × ℕ)) (blocks : List BlockLines) (i : ℕ) (d : BlockLines) (number next : ℕ) → i < length blocks
    → found ++ in_blocks numbers_of number (drop i blocks) ≡ whole → after ≡ found ++ in_block number (numbers_of (get_or blocks i d)) → next ≡ number + 1
    → after ++ in_blocks numbers_of next (drop (i + 1) blocks) ≡ whole
blocks_more numbers_of whole found after blocks i d number next less e grown next_is =
    let block : BlockLines = get_or blocks i d in
    let rest : List BlockLines = drop (i + 1) blocks in
    ap (λ n. after ++ in_blocks numbers_of n rest) next_is
    ∙ ap (λ xs. xs ++ in_blocks numbers_of (number + 1) rest) grown
    ∙ append_assoc found (in_block number (numbers_of block)) (in_blocks numbers_of (number + 1) rest)
    ∙ ap (λ bs. found ++ in_blocks numbers_of number bs) (sym (drop_more blocks i d less)) ∙ e

-- no block is left
pub blocks_all : (numbers_of : BlockLines → List ℕ) (whole found : List (ℕ × ℕ)) (blocks : List BlockLines) (i number : ℕ) → length blocks ≤ i
    → found ++ in_blocks numbers_of number (drop i blocks) ≡ whole → found ≡ whole
blocks_all numbers_of whole found blocks i number past e =
    sym (append-nil found) ∙ ap (λ bs. found ++ in_blocks numbers_of number bs) (sym (drop_all i blocks past)) ∙ e

-- ---- one of them

pub passing_true : (test : ℕ → Bool) (number : ℕ) → test number ≡ true → numbers_passing test number 1 ≡ number ∷ []
passing_true test number h = ap (λ b. if b then number ∷ [] else []) h

pub passing_false : (test : ℕ → Bool) (number : ℕ) → test number ≡ false → numbers_passing test number 1 ≡ []
passing_false test number h = ap (λ b. if b then number ∷ [] else []) h

-- it passes, and something is added for it
pub one_pushed : {X : Type 0} (place : X → (ℕ × ℕ)) (test : ℕ → Bool) (block number : ℕ) (x : X) (found after : List X) → test number ≡ true → place x ≡ (block, number) → after ≡ found ++ x ∷ []
    → map place after ≡ map place found ++ in_block block (numbers_passing test number 1)
one_pushed place test block number x found after passes at grown =
    ap (map place) grown ∙ map-append place found (x ∷ [])
    ∙ ap (λ p. map place found ++ p ∷ []) at
    ∙ ap (λ ns. map place found ++ in_block block ns) (sym (passing_true test number passes))

-- it doesn't, and nothing is added
pub none_pushed : {X : Type 0} (place : X → (ℕ × ℕ)) (test : ℕ → Bool) (block number : ℕ) (found : List X) → test number ≡ false
    → map place found ≡ map place found ++ in_block block (numbers_passing test number 1)
none_pushed place test block number found fails =
    sym (append-nil (map place found)) ∙ ap (λ ns. map place found ++ in_block block ns) (sym (passing_false test number fails))

-- nothing is added yet
pub blocks_begun : {X : Type 0} (place : X → (ℕ × ℕ)) (numbers_of : BlockLines → List ℕ) (found : List X) (blocks : List BlockLines) → found ≡ [] → map place found ++ in_blocks numbers_of 0 (drop 0 blocks) ≡ in_blocks numbers_of 0 blocks
blocks_begun place numbers_of found blocks e = ap (λ xs. map place xs ++ in_blocks numbers_of 0 blocks) e

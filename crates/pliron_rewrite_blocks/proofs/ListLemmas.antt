-- Lists of blocks and of operations.
use Rattle.std.proofs.Common.{◌≡◌, ◌≢◌, inl, inr, ⊎_elim, ℕ, ◌<◌, Bool, true, false, if◌then◌else◌, List, [], ◌∷◌, ◌++◌, length, Option, Some, None, refl, sym, ap, ◌∙◌, arith}
use Rattle.std.proofs.lemmas.Bool.Decides.{eqb_tells}
use Rattle.pliron_core.specs.Lists.{without}
use Rattle.pliron_core.specs.Tree.{In, IsRising, first_of, last_of}
use Rattle.pliron_core.proofs.HoldingLemmas.{some_is, not_none}
use Rattle.pliron_theory.specs.Sweeping.{keep, swept}
use Rattle.pliron_theory.proofs.SweptLists.{from_swept}

rising_kept : (z : Bool) (x : ℕ) (xs : List ℕ) → ((y : ℕ) → In y xs → x < y) → IsRising xs → IsRising (keep z x xs)
rising_kept true x xs f r = r
rising_kept false x xs f r = (f, r)

pub rising_swept : (dead : ℕ → Bool) (xs : List ℕ) → IsRising xs → IsRising (swept dead xs)
rising_swept dead [] r = tt
rising_swept dead (x ∷ xs) r = rising_kept (dead x) x (swept dead xs) (λ y i. r.0 y (from_swept dead y xs i).0) (rising_swept dead xs r.1)

pub in_one : (xs : List ℕ) (x y : ℕ) → length xs ≡ 1 → In x xs → In y xs → x ≡ y
in_one [] x y e i j = absurd i
in_one (z ∷ []) x y e (inl s) (inl r) = s ∙ sym r
in_one (z ∷ []) x y e (inr i) j = absurd i
in_one (z ∷ []) x y e (inl s) (inr j) = absurd j
in_one (z ∷ u ∷ xs) x y e i j = grind arith

pub first_without : (b d : ℕ) (xs : List ℕ) → d ≢ b → first_of xs None ≡ Some d → first_of (without b xs) None ≡ Some d
first_without b d [] ne e = absurd (not_none e)
first_without b d (x ∷ xs) ne e = ⊎_elim
    (λ y. absurd (ne (sym (some_is e) ∙ sym y.1)))
    (λ n. ap (λ z. first_of (if z then xs else x ∷ without b xs) None) n.0 ∙ e)
    (eqb_tells b x)

pub last_some : (o : Option ℕ) (xs : List ℕ) (k : ℕ) → last_of None xs ≡ Some k → last_of o xs ≡ Some k
last_some o [] k e = absurd (not_none e)
last_some o (x ∷ xs) k e = e

pub swept_end : (dead : ℕ → Bool) (xs : List ℕ) (k : ℕ) → dead k ≡ true → ((x : ℕ) → In x xs → dead x ≡ false) → swept dead (xs ++ k ∷ []) ≡ xs
swept_end dead [] k e f = ap (λ z. keep z k []) e
swept_end dead (x ∷ xs) k e f = ap (λ z. keep z x (swept dead (xs ++ k ∷ []))) (f x (inl refl)) ∙ ap (λ l. x ∷ l) (swept_end dead xs k e (λ y i. f y (inr i)))

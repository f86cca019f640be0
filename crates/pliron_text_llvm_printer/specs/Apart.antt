-- Numbers that differ.
use Rattle.std.specs.Prelude.{◌≡◌, ◌<◌, ℕ, Option, Some}

-- all of them are below this one
abbrev pub NumbersBelow : (ℕ → Option ℕ) → ℕ → Type 0
NumbersBelow number next = (key n : ℕ) → number key ≡ Some n → n < next

-- no two keys have one number
abbrev pub NumbersApart : (ℕ → Option ℕ) → Type 0
NumbersApart number = (one other n : ℕ) → number one ≡ Some n → number other ≡ Some n → one ≡ other

-- none of the first numbers is one of the second ones
abbrev pub ShareNone : (ℕ → Option ℕ) → (ℕ → Option ℕ) → Type 0
ShareNone first second = (one other n : ℕ) → first one ≡ Some n → second other ≡ Some n → ⊥

-- How a key, or none, is written in 32 bits.
use Rattle.std.specs.Prelude.{◌≡◌, ℕ, ◌==◌, if◌then◌else◌, Option, Some, None}
use Rattle.std.proofs.Common.{inl, inr, sym, refl}
use Rattle.std.proofs.lemmas.Bool.Decides.{eqb_tells}
use Rattle.pliron_core.specs.Keys.{key_limit}

-- the key that is written so: the number that no key has says that there is none
abbrev pub key_read : ℕ → Option ℕ
key_read n = if n == key_limit then None else Some n

-- how a key is written
abbrev pub key_written : Option ℕ → ℕ
key_written None = key_limit
key_written (Some key) = key

-- what is read is written as it was
pub written_as_read : (n : ℕ) → key_written (key_read n) ≡ n
written_as_read n = elim (eqb_tells n key_limit) [
  | inl is ↦ rw is.0 (sym is.1)
  | inr not ↦ rw not.0 refl
]

-- Laws of facts.
use Rattle.std.specs.Prelude.{◌≡◌, ℕ, ◌<◌, true, nat_eq}
use Rattle.std.proofs.Common.{sym}
use Rattle.pliron_core.proofs.WithinLemmas.{equal_from}

-- equal kinds are one
pub one_kind : (a b : ℕ) → nat_eq a b ≡ true → a ≡ b
one_kind a b h = sym (equal_from a b h)

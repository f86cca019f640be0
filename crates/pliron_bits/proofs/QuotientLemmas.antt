-- What stands behind a test of a divisor.
use Rattle.std.proofs.Common.{◌≡◌, ◌≢◌, ℕ, nat_eq, if◌then◌else◌, Option, None, arith}

pub otherwise : (b : ℕ) (result quotient : Option ℕ) → result ≡ quotient → b ≢ 0 → result ≡ (if nat_eq b 0 then None else quotient)
otherwise b result quotient e apart = grind (arith, e, apart)

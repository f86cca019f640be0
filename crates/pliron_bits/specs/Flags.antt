-- Flags as a number: 1 and 2 for what may not wrap, as MLIR counts them, 4, 8 and 16 for the others.
use Rattle.std.specs.Prelude.{ℕ, ◌+◌, ◌/◌, ◌%◌, nat_eq, if◌then◌else◌, Bool}
use Rattle.pliron_bits.specs.declared.flags.Flags.{Flags}

abbrev pub flags_of_number : ℕ → Flags
flags_of_number n = record {
  no_signed_wrap = nat_eq (n % 2) 1;
  no_unsigned_wrap = nat_eq (n / 2 % 2) 1;
  exact = nat_eq (n / 4 % 2) 1;
  disjoint = nat_eq (n / 8 % 2) 1;
  nonnegative = nat_eq (n / 16 % 2) 1;
}

abbrev pub flag_weight : Bool → ℕ → ℕ
flag_weight b n = if b then n else 0

abbrev pub number_of_flags : Flags → ℕ
number_of_flags f = flag_weight f.no_signed_wrap 1 + flag_weight f.no_unsigned_wrap 2 + flag_weight f.exact 4 + flag_weight f.disjoint 8 + flag_weight f.nonnegative 16

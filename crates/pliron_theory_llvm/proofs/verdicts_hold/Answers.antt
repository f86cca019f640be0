use Rattle.std.proofs.Common.{refl}
use Rattle.pliron_theory_llvm.proofs.verdicts_hold.Goals as goal

pub returns : goal.returns
returns c = record {
  difference = λ l. refl;
  difference_by_tables = λ value. refl;
  sum_of_poison = λ l. refl;
  passed_by_tables = λ value. refl;
  overflow = λ l. refl;
  wrapped = λ l. refl;
  constant_meant = λ l. refl;
  by_zero = λ l. refl;
  by_poison = λ l. refl;
  least_or_poison = λ l. refl;
  least = λ l. refl;
  poison_by_two = λ l. refl;
  inexact = λ l. refl;
  shifted = λ l. refl;
  common_bit = λ l. refl;
  negative = λ l. refl;
  picked_five = λ l. refl;
  picked_by_poison = λ l. refl;
  branch = λ l. refl;
}

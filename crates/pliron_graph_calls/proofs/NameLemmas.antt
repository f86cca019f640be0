-- Names are equal where their data are.
use Rattle.std.proofs.Common.{◌≡◌, ℤ, List, ℕ, true, sym, ap, subst, arith}
use Rattle.std.proofs.lemmas.Bool.{false≢true}
use Rattle.std.proofs.lemmas.Bool.Decides.{Decides-int_eq}
use Rattle.std.specs.Cmp.Lexicographic.{pointwise, same_text, nat_list_eq_equiv}
use Rattle.std.specs.Prelude.{nat_eq}
use Rattle.pliron_laws.specs.Datum.{Number, Text}
use Rattle.pliron_graph_calls.specs.Names.{datum_of_name}
use Rattle.pliron_graph_calls.specs.declared.function_name.FunctionName.{FunctionName}
use Rattle.pliron_graph_calls.specs.declared.function_name.FunctionName.TheVariants.{Number as NumberName, Letters}
use Rattle.pliron_graph_calls.specs.contracts.function_name.FunctionNamePartialEq.TheImpl.{ghosts as equality}

pub data_equal : (a b : FunctionName) → equality.eq a b ≡ true → datum_of_name a ≡ datum_of_name b
data_equal (NumberName m) (NumberName n) e = ap (λ z. Number z) ((Decides-int_eq m n).0 e)
data_equal (NumberName m) (Letters w) e = absurd (false≢true e)
data_equal (Letters v) (NumberName n) e = absurd (false≢true e)
data_equal (Letters v) (Letters w) e = ap (λ z. Text z) (same_text v.items w.items (sym e))

same_number : (m n : ℤ) → Number m ≡ Number n → m ≡ n
same_number m n e = grind (arith, e)

same_letters : (v w : List ℕ) → Text v ≡ Text w → v ≡ w
same_letters v w e = grind (arith, e)

pub names_equal : (a b : FunctionName) → datum_of_name a ≡ datum_of_name b → equality.eq a b ≡ true
names_equal (NumberName m) (NumberName n) e = (Decides-int_eq m n).1 (same_number m n e)
names_equal (NumberName m) (Letters w) e = absurd (grind (arith, e))
names_equal (Letters v) (NumberName n) e = absurd (grind (arith, e))
names_equal (Letters v) (Letters w) e = subst (λ z. pointwise nat_eq v.items z ≡ true) (same_letters v.items w.items e) (nat_list_eq_equiv.refl v.items)

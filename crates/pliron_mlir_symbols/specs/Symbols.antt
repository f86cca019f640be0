-- What heads say of names, by the forms of a module.
use Rattle.std.proofs.Common.{◌≡◌, ℕ, Bool, true, false, List, [], ◌∷◌, Option, Some, None, IsTrue, arith}
use Rattle.std.specs.Prelude.{slice_get}
use Rattle.pliron_core.specs.declared.attrs.Head.{Head}
use Rattle.pliron_laws.specs.Datum.{Datum, Empty, Number, Text, Join}
use Rattle.pliron_dialect.specs.Roles.{Interpretation}
use Rattle.pliron_dialect_mlir.specs.declared.kind.Class.{Class}
use Rattle.pliron_dialect_mlir.specs.declared.kind.Class.TheVariants.{Effect, Local, Call, Regions, Root, Function, Module, Fork}
use Rattle.pliron_dialect_mlir.specs.ClassNumbers.{class_of_number}
use Rattle.pliron_dialect_mlir.specs.Classes.{mlir, role_of_class, root_act, module_act}
use Rattle.pliron_dialect_mlir.specs.CallClasses.{mlir_calls}
use Rattle.pliron_dialect_mlir.specs.Heads.{form_in}
use Rattle.pliron_rewrite_symbols.specs.CallersByRole.{ShowsItself, OwnActShowsItself, CallersLaw, callers_by_role, effect_itself, fork_itself}

-- whether the form with this number says so
abbrev pub said_or_not : Option Bool → Bool
said_or_not (Some b) = b
said_or_not None = false

abbrev pub said_at : List Bool → Option ℕ → Bool
said_at forms (Some number) = said_or_not (slice_get forms number)
said_at forms None = false

-- whether the form of the head is that of a private function
abbrev pub private_in : List Bool → Head → Bool
private_in forms h = said_at forms (form_in (class_of_number h.kind) h.attrs)

-- what has regions about which nothing is known shows the world what these gave: that may be any call
abbrev pub is_traced_class : Class → Bool
is_traced_class Regions = false
is_traced_class _ = true

root_itself : ShowsItself root_act
root_itself s Empty input effect next e = absurd (grind (arith, e))
root_itself s (Number n) input effect next e = absurd (grind (arith, e))
root_itself s (Text x) input effect next e = absurd (grind (arith, e))
root_itself s (Join x y) input effect next e = absurd (grind (arith, e))

module_itself : ShowsItself module_act
module_itself s memo input effect next e = absurd (grind (arith, e))

class_itself : (c : Class) → IsTrue (is_traced_class c) → OwnActShowsItself (role_of_class c)
class_itself Effect p = effect_itself
class_itself Local p = effect_itself
class_itself Call p = effect_itself
class_itself Regions p = absurd (grind (arith, p))
class_itself Root p = root_itself
class_itself Function p = root_itself
class_itself Module p = module_itself
class_itself Fork p = fork_itself
class_itself _ p = tt

pub mlir_callers : {K : Type 0} (class_of : K → Class) (kind : Class → K) (value : Interpretation) → CallersLaw (mlir class_of kind value) (mlir_calls class_of)
mlir_callers class_of kind value = callers_by_role (mlir class_of kind value) (mlir_calls class_of)

pub traced_itself : {K : Type 0} (class_of : K → Class) (k : K) → IsTrue (is_traced_class (class_of k)) → OwnActShowsItself (role_of_class (class_of k))
traced_itself class_of k p = class_itself (class_of k) p

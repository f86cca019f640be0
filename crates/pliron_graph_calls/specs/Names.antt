-- Names of functions, as tables have them.
use Rattle.std.specs.Prelude.{List, map}
use Rattle.pliron_core.specs.declared.attrs.AttrObj.{AttrObj}
use Rattle.pliron_core.specs.declared.attrs.AttrObj.TheVariants.{Int, Text as Words}
use Rattle.pliron_laws.specs.Datum.{Datum, datum_of}
use Rattle.pliron_graph_calls.specs.declared.function_name.FunctionName.{FunctionName}
use Rattle.pliron_graph_calls.specs.declared.function_name.FunctionName.TheVariants.{Number, Letters}

-- the attribute that the name is
abbrev pub attribute_of_name : FunctionName → AttrObj
attribute_of_name (Number n) = Int n
attribute_of_name (Letters letters) = Words letters.items

abbrev pub datum_of_name : FunctionName → Datum
datum_of_name name = datum_of (attribute_of_name name)

abbrev pub names_of : List AttrObj → List Datum
names_of names = map datum_of names

-- Numbers of values and blocks that have no name.
use Rattle.std.specs.Prelude.{ℕ, nat_eq, Option}
use Rattle.indexmap.specs.IndexMap.{get}
use Rattle.pliron_text_llvm_printer.specs.declared.names.LocalNumbers.{LocalNumbers}

-- the number of the value with this handle, and of the block, where it has one
abbrev pub number_of_value : LocalNumbers → ℕ → Option ℕ
number_of_value numbers key = get nat_eq numbers.values key

abbrev pub number_of_block : LocalNumbers → ℕ → Option ℕ
number_of_block numbers key = get nat_eq numbers.blocks key

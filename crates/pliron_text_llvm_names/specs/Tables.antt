-- Numbers by names.
use Rattle.std.specs.Prelude.{◌≡◌, ◌↔◌, ℕ, nat_eq, List, Option, Some, slice_get}
use Rattle.std.specs.Cmp.Lexicographic.{pointwise}
use Rattle.indexmap.specs.IndexMap.{get, get_by}
use Rattle.pliron_text_llvm_names.specs.declared.table.LocalNameTable.{LocalNameTable}
use Rattle.pliron_text_llvm_names.specs.Names.{NameKey}
use Rattle.pliron_text_llvm_names.specs.Names.NameKey.{Number, Text}

-- the number of what has this name
abbrev pub number_named : LocalNameTable → NameKey → Option ℕ
number_named table (Number number) = get nat_eq table.numbers number
number_named table (Text bytes) = get_by (λ k. pointwise nat_eq bytes k.items) table.texts

-- each name has the number at which it is in the list, and no other one has a number
abbrev pub IsIndexOf : LocalNameTable → List NameKey → Type 0
IsIndexOf table keys = (key : NameKey) (i : ℕ) → (number_named table key ≡ Some i) ↔ (slice_get keys i ≡ Some key)

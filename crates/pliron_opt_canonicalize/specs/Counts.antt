-- What each fold lessens.
use Rattle.std.specs.Prelude.{◌+◌, ◌&&◌, if◌then◌else◌, nat_eq, zero, suc, ℕ, Bool, true, false, Option, Some, None, length}
use Rattle.std.specs.List.{list_any}
use Rattle.pliron_core.specs.declared.context.Def.{Def}
use Rattle.pliron_core.specs.declared.context.Def.TheVariants.{Result, Argument}
use Rattle.pliron_core.specs.Tree.{Tree, operands_of, definition_of}
use Rattle.pliron_theory.specs.Edges.{has_entries}

-- how many of the first n numbers pass the test
abbrev pub count_below : (ℕ → Bool) → ℕ → ℕ
count_below test zero = 0
count_below test (suc n) = (if test n then 1 else 0) + count_below test n

-- whether an operation uses the value
abbrev pub is_used : Tree → ℕ → Bool
is_used t v = list_any (λ operands. list_any (λ w. nat_eq w v) operands) t.operands

-- whether a value with this definition may fold: an argument, or a result of an operation with operands
abbrev pub is_foldable : Tree → Option Def → Bool
is_foldable t None = false
is_foldable t (Some (Argument block i)) = true
is_foldable t (Some (Result k i)) = has_entries (operands_of t k)

abbrev pub counts_as_foldable : Tree → ℕ → Bool
counts_as_foldable t v = is_used t v && is_foldable t (definition_of t v)

-- how many values that may fold are used
unfoldable pub foldable_count : Tree → ℕ
foldable_count t = count_below (λ v. counts_as_foldable t v) (length t.definitions)

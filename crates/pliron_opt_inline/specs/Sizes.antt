-- How large functions are.
use Rattle.std.specs.Prelude.{ℕ, ◌-◌, ◌^◌, min, Option}
use Rattle.std.specs.List.{sum_by}
use Rattle.std.specs.Option.{option_map_or}
use Rattle.pliron_core.specs.declared.attrs.Head.{Head}
use Rattle.pliron_core.specs.Tree.{Tree, head_of}
use Rattle.pliron_core.specs.Walks.{children}

-- the size of an operation
abbrev pub size_at : (Head → ℕ) → Tree → ℕ → ℕ
size_at size t k = option_map_or size (head_of t k) 0

-- the sizes of all that is directly inside, as far as 64 bits go
abbrev pub size_inside : (Head → ℕ) → Tree → ℕ → ℕ
size_inside size t k = min (sum_by (size_at size t) (children t k)) (2 ^ 64 - 1)

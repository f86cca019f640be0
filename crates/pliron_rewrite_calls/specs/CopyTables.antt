-- What is known of copies.
use Rattle.std.specs.Prelude.{ℕ, nat_eq, Option, Some, None}
use Rattle.indexmap.specs.IndexMap.{get}
use Rattle.pliron_laws.specs.Tree.{is_one_key}
use Rattle.pliron_rewrite_calls.specs.declared.copies.Copies.{Copies}

-- the copy of a block, of a value
abbrev pub block_copy : Copies → ℕ → Option ℕ
block_copy copies b = get is_one_key copies.blocks b

abbrev pub value_copy : Copies → ℕ → Option ℕ
value_copy copies v = get nat_eq copies.values v

abbrev pub or_itself : ℕ → Option ℕ → ℕ
or_itself x None = x
or_itself x (Some copy) = copy

-- the copy, or what was not copied itself
abbrev pub block_or_copy_in : Copies → ℕ → ℕ
block_or_copy_in copies b = or_itself b (block_copy copies b)

abbrev pub value_or_copy_in : Copies → ℕ → ℕ
value_or_copy_in copies v = or_itself v (value_copy copies v)

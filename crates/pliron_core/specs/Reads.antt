-- Words that the reads of a context answer in.
use Rattle.std.specs.Prelude.{ℕ, Bool, false, Option, Some, None}
use Rattle.pliron_core.specs.declared.attrs.Head.{Head}
use Rattle.pliron_core.specs.declared.context.Def.{Def}
use Rattle.pliron_core.specs.declared.context.Def.TheVariants.{Result, Argument}
use Rattle.pliron_core.specs.Lists.{next_in, prev_in}
use Rattle.pliron_core.specs.Tree.{Tree, IsLive, IsBlock, head_of, parent_of, body_of, block_parent_of, layout_of, region_parent_of, up_from}

-- what is directly after and directly before an operation in its block, a block in its region
abbrev pub next_of : Tree → ℕ → Option ℕ
next_of t op = up_from (parent_of t op) (λ b. next_in op (body_of t b))

abbrev pub prev_of : Tree → ℕ → Option ℕ
prev_of t op = up_from (parent_of t op) (λ b. prev_in None op (body_of t b))

abbrev pub next_block_of : Tree → ℕ → Option ℕ
next_block_of t block = up_from (block_parent_of t block) (λ r. next_in block (layout_of t r))

abbrev pub prev_block_of : Tree → ℕ → Option ℕ
prev_block_of t block = up_from (block_parent_of t block) (λ r. prev_in None block (layout_of t r))

-- what the head of the region's operation says of dominance
abbrev pub ssa_in : Option Head → Bool
ssa_in None = false
ssa_in (Some head) = head.ssa

abbrev pub has_ssa_at : Tree → Option ℕ → Bool
has_ssa_at t None = false
has_ssa_at t (Some op) = ssa_in (head_of t op)

abbrev pub has_ssa : Tree → ℕ → Bool
has_ssa t region = has_ssa_at t (region_parent_of t region)

-- the definition of a value is live
abbrev pub IsDefinitionLive : Tree → Def → Type 0
IsDefinitionLive t (Result op i) = IsLive t op
IsDefinitionLive t (Argument block i) = IsBlock t block

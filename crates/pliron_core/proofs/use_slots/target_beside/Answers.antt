use Rattle.std.proofs.Common.{◌≡◌, ◌+◌, length, arith}
use Rattle.pliron_core.specs.UseSlots.{targets_held}
use Rattle.pliron_core.proofs.GapLemmas.{held-length, target-before, target-behind}
use Rattle.pliron_core.proofs.use_slots.target_beside.Goals as goal

pub overflow_add-i : goal.overflow_add-i
overflow_add-i c = let h : length (targets_held c.args.row.now) + c.args.gap.len ≡ length c.args.row.now = held-length _ _ c.requires.gap in omega (arith, h, c.requires.index, c.len.ensures, c.len.type_inv)

pub get-requires-else-i-gap : goal.get-requires-else-i-gap
get-requires-else-i-gap c = let h : length (targets_held c.args.row.now) + c.args.gap.len ≡ length c.args.row.now = held-length _ _ c.requires.gap in omega (arith, h, c.requires.index)

pub returns-then-i-gap : goal.returns-then-i-gap
returns-then-i-gap c = target-before _ _ c.requires.gap _ _ c.if-i-gap.true c.get.ensures

pub returns-else-i-gap : goal.returns-else-i-gap
returns-else-i-gap c = target-behind _ _ c.requires.gap _ _ c.if-i-gap.false c.get-else-i-gap.ensures

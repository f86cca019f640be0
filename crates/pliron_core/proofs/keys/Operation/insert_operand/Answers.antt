use Rattle.std.proofs.Common.{rules, ◌≡◌, slice_set}
use Rattle.std.specs.List.{insert}
use Rattle.pliron_core.specs.UseTables.{view_of}
use Rattle.pliron_core.specs.Tree.{operands_of}
use Rattle.pliron_core.proofs.WellLemmas.{well_insert}
use Rattle.pliron_core.proofs.keys.Operation.insert_operand.Goals as goal

pub invariant_of-ctx-2 : goal.invariant_of-ctx-2
invariant_of-ctx-2 c =
    let r = rw (← c.ctx.view_is, ← c.index.ensures, ← c.index-2.ensures) at c.requires in
    let e : c.insert.new.self.targets ≡ slice_set (view_of c.ctx.inside).tree.operands c.index.result (insert (operands_of (view_of c.ctx.inside).tree c.index.result) c.args.i c.index-2.result) = search rules in
    well_insert (view_of c.ctx.inside) c.index.result c.args.i c.index-2.result c.insert.new.self.targets c.insert.new.self.uses c.ctx.invariant r.live r.value e c.insert.ensures.count

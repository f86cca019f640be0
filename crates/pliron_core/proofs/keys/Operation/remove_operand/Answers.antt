use Rattle.std.proofs.Common.{rules, ◌≡◌, slice_set, remove}
use Rattle.pliron_core.specs.UseTables.{view_of}
use Rattle.pliron_core.specs.Tree.{operands_of}
use Rattle.pliron_core.proofs.WellLemmas.{well_remove}
use Rattle.pliron_core.proofs.keys.Operation.remove_operand.Goals as goal

pub invariant_of-ctx : goal.invariant_of-ctx
invariant_of-ctx c =
    let r = rw (← c.ctx.view_is, ← c.index.ensures) at c.requires in
    let e : c.remove.new.self.targets ≡ slice_set (view_of c.ctx.inside).tree.operands c.index.result (remove (operands_of (view_of c.ctx.inside).tree c.index.result) c.args.i) = search rules in
    well_remove (view_of c.ctx.inside) c.index.result c.args.i c.remove.new.self.targets c.remove.new.self.uses c.ctx.invariant r.live e c.remove.ensures.count

use Rattle.pliron_core.specs.declared.attrs.AttrObj.{AttrObj}
use Rattle.std.proofs.Common.{List}
use Rattle.pliron_core.specs.Tree.{successors_of}
use Rattle.pliron_theory.specs.LatticeValues.{LatticeValues, IsEntryExecutable}
use Rattle.pliron_opt_sccp.specs.Constraints.{AddsUnder, AreEntriesExecutable, AreEntriesExecutableWhere, EachBefore}
use Rattle.pliron_opt_sccp.proofs.constraints.constrain_jumps.Given as goal

abbrev pub invariant-loop-i : goal.invariant-loop-i
invariant-loop-i l = (constants : List AttrObj) (f : LatticeValues) → AreEntriesExecutable l.ctx.tree f l.initial.entered →
    AddsUnder f constants l.initial.constraints.items l.constraints.items (λ now. EachBefore (successors_of l.ctx.tree l.op) l.i (λ j b. IsEntryExecutable l.ctx.tree now b)) × AreEntriesExecutableWhere constants l.ctx.tree f l.constraints.items l.entered

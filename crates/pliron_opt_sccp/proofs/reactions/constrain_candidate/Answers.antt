use Rattle.std.proofs.Common.{[]}
use Rattle.pliron_theory.specs.LatticeValues.{Says}
use Rattle.pliron_opt_sccp.proofs.ReactionLemmas.{named_ahead}
use Rattle.pliron_opt_sccp.proofs.reactions.constrain_candidate.Goals as goal

pub returns-clause-ok : goal.returns-clause-ok
returns-clause-ok g c = λ edges.
    let x : Says = record { meaning = g.D.HasMeaning.meaning; can_fold = g.D.ConstFoldInterface.can_fold; can_fold_branch = g.D.BranchOpFoldInterface.can_fold_branch; constants = g.D.ConstFoldInterface.constants; feasible = g.D.BranchOpFoldInterface.feasible; entry_operands = g.D.RegionBranchOpInterface.entry_operands } in
    named_ahead x c.args.ctx.now.tree edges c.args.tables.now c.args.from.now.value c.args.from.now.op c.args.from.now.place [] c.args.constraints.now.items c.push.new.self.items c.in-Some.argument c.cell-cell.result c.requires c.in-Some.ensures c.cell-cell.ensures c.in_ok-push.ensures.items

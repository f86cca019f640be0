use Rattle.std.proofs.Common.{[]}
use Rattle.pliron_theory.specs.LatticeValues.{Says}
use Rattle.pliron_opt_sccp.proofs.ReactionLemmas.{both_ahead, on_ok_then}
use Rattle.pliron_opt_sccp.proofs.reactions.propagate_eagerly.Goals as goal

pub returns-clause-ok : goal.returns-clause-ok
returns-clause-ok g c =
    let x : Says = record { meaning = g.D.HasMeaning.meaning; can_fold = g.D.ConstFoldInterface.can_fold; can_fold_branch = g.D.BranchOpFoldInterface.can_fold_branch; constants = g.D.ConstFoldInterface.constants; feasible = g.D.BranchOpFoldInterface.feasible; entry_operands = g.D.RegionBranchOpInterface.entry_operands } in
    on_ok_then c.propagate_forwarded_eagerly.result
    (λ ahead. both_ahead x c.args.ctx.now.tree c.args.edges.now c.args.tables.now c.args.from.now.value c.args.from.now.op c.args.from.now.place [] c.args.constraints.now.items c.propagate_named_eagerly.new.constraints.items c.propagate_forwarded_eagerly.new.constraints.items c.in_ok-propagate_named_eagerly.ensures.ok ahead)
    c.propagate_forwarded_eagerly.ensures.ok

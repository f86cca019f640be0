use Rattle.std.proofs.Common.{rules, ◌≡◌, Ok, Err, ap, sym, ◌∙◌}
use Rattle.pliron_theory.specs.LatticeValues.{Says}
use Rattle.pliron_opt_sccp.specs.Propagated.{status_of_rewrite}
use Rattle.pliron_opt_sccp.proofs.FoundChange.{status_propagates}
use Rattle.pliron_opt_sccp.proofs.propagation.sccp_through.Goals as goal

pub returns-in_err-status : goal.returns-in_err-status
returns-in_err-status g c =
    let x : Says = record { meaning = g.D.HasMeaning.meaning; can_fold = g.D.ConstFoldInterface.can_fold; can_fold_branch = g.D.BranchOpFoldInterface.can_fold_branch; constants = g.D.ConstFoldInterface.constants; feasible = g.D.BranchOpFoldInterface.feasible; entry_operands = g.D.RegionBranchOpInterface.entry_operands } in
    let d = g.D.ConstFoldInterface in
    let is : c.from_residual.result ≡ Err c.in_err-status.field-0.0 = search rules in
    record { propagates = status_propagates x d.accepts d.constant_head d.outcome c.args.ctx.now.tree c.args.op c.propagate.new.ctx.tree (Err c.in_err-status.field-0.0) c.from_residual.result (sym is) c.in_err-status.ensures.propagates }

pub returns : goal.returns
returns g c = record { propagates = (c.in_ok-status.field-0-1, c.in_ok-status.ensures.propagates) }

use Rattle.std.proofs.lemmas.Result.{on_ok_weaker}
use Rattle.pliron_theory.specs.LatticeValues.{Says}
use Rattle.pliron_opt_sccp.specs.LatticeTables.{lattice_values_of}
use Rattle.pliron_opt_sccp.proofs.KeptEdges.{keeps_found, kept_past}
use Rattle.pliron_opt_sccp.proofs.search.visit_wide.Goals as goal

pub returns-clause-visits : goal.returns-clause-visits
returns-clause-visits g c = on_ok_weaker c.keep_feasible.result (λ kept. c.in_ok-visit_operation.ensures.ok) c.keep_feasible.ensures.ok

pub returns-clause-keeps : goal.returns-clause-keeps
returns-clause-keeps g c =
    let x : Says = record { meaning = g.D.HasMeaning.meaning; can_fold = g.D.ConstFoldInterface.can_fold; can_fold_branch = g.D.BranchOpFoldInterface.can_fold_branch; constants = g.D.ConstFoldInterface.constants; feasible = g.D.BranchOpFoldInterface.feasible; entry_operands = g.D.RegionBranchOpInterface.entry_operands } in
    on_ok_weaker c.keep_feasible.result (λ kept. keeps_found x c.args.ctx.now.tree (lattice_values_of c.args.tables.now) c.args.op c.visit_operation.new.feasible c.args.edges.now c.keep_feasible.new.edges c.in_ok-visit_operation.ensures.feasible (kept_past c.args.op c.visit_operation.new.feasible c.args.edges.now c.keep_candidates.new.edges c.keep_feasible.new.edges c.in_ok-keep_candidates.ensures.ok kept)) c.keep_feasible.ensures.ok

pub returns-clause-entered : goal.returns-clause-entered
returns-clause-entered g c = on_ok_weaker c.keep_feasible.result (λ kept. c.in_ok-visit_operation.ensures.entered) c.keep_feasible.ensures.ok

use Rattle.std.proofs.Common.{◌∙◌, ap}
use Rattle.std.proofs.lemmas.Result.{on_ok_weaker}
use Rattle.pliron_core.specs.Tree.{operands_of}
use Rattle.pliron_laws.proofs.Records.{op_shows}
use Rattle.pliron_theory.specs.LatticeValues.{Says, operand_constants}
use Rattle.pliron_opt_sccp.specs.LatticeTables.{known_constants, lattice_values_of}
use Rattle.pliron_opt_sccp.proofs.Constrained.{known_alone}
use Rattle.pliron_opt_sccp.proofs.EdgesAsked.{all_asked, results_where}
use Rattle.pliron_opt_sccp.proofs.constraints.constraints_of.Goals as goal

pub returns-clause-ok : goal.returns-clause-ok
returns-clause-ok g c =
    let x : Says = (record { meaning = g.D.HasMeaning.meaning; can_fold = g.D.ConstFoldInterface.can_fold; can_fold_branch = g.D.BranchOpFoldInterface.can_fold_branch; constants = g.D.ConstFoldInterface.constants; feasible = g.D.BranchOpFoldInterface.feasible; entry_operands = g.D.RegionBranchOpInterface.entry_operands }) in
    let t = c.args.ctx.now.tree in
    let f = lattice_values_of c.args.tables.now in
    let read = known_alone f (operands_of t c.args.op) c.clear.new.self.items c.add_known.new.attrs.items c.clear.ensures.items c.in_ok-add_known.ensures.ok in
    on_ok_weaker c.constrain_results.result (λ constraints. λ o e now below.
    let known = c.deref.ensures.value ∙ ap (λ l. l.items) c.in_ok-constrain_edges.ensures.known ∙ read ∙ ap (operand_constants f) (op_shows t c.args.op o e).operands in
    all_asked x t f c.args.op o e (known_constants c.args.tables.now) c.deref.result.now known c.clear-2.new.self.items c.constrain_invocations.new.constraints.items c.constrain_edges.new.scratch.constraints.items c.constrain_results.new.constraints.items c.clear-2.ensures.items (c.in_ok-constrain_invocations.ensures.ok o e) (c.in_ok-constrain_edges.ensures.ok o e) (constraints o e (known_constants c.args.tables.now)) now below)
    c.constrain_results.ensures.ok

pub returns-clause-entered : goal.returns-clause-entered
returns-clause-entered g c =
    let x : Says = (record { meaning = g.D.HasMeaning.meaning; can_fold = g.D.ConstFoldInterface.can_fold; can_fold_branch = g.D.BranchOpFoldInterface.can_fold_branch; constants = g.D.ConstFoldInterface.constants; feasible = g.D.BranchOpFoldInterface.feasible; entry_operands = g.D.RegionBranchOpInterface.entry_operands }) in
    on_ok_weaker c.constrain_results.result
    (λ constraints. results_where x c.args.ctx.now.tree (lattice_values_of c.args.tables.now) c.args.op (known_constants c.args.tables.now) c.deref.result.now c.constrain_edges.new.scratch.constraints.items c.constrain_results.new.constraints.items c.constrain_edges.new.scratch.entered c.requires.live constraints c.in_ok-constrain_edges.ensures.entered)
    c.constrain_results.ensures.ok

use Rattle.std.proofs.Common.{◌∙◌, sym, subst}
use Rattle.std.proofs.lemmas.Result.{on_ok_weaker}
use Rattle.pliron_laws.proofs.Records.{op_shows}
use Rattle.pliron_theory.specs.LatticeValues.{Says}
use Rattle.pliron_opt_sccp.specs.LatticeTables.{known_constants, lattice_values_of}
use Rattle.pliron_opt_sccp.specs.Feasible.{AreFound}
use Rattle.pliron_opt_sccp.proofs.Entered.{entered_where}
use Rattle.pliron_opt_sccp.proofs.EdgesAsked.{branching_edges, jumping_edges}
use Rattle.pliron_opt_sccp.proofs.constraints.constrain_edges.Goals as goal

pub returns-in_ok-feasible-clause-ok : goal.returns-in_ok-feasible-clause-ok
returns-in_ok-feasible-clause-ok g c =
    let x : Says = (record { meaning = g.D.HasMeaning.meaning; can_fold = g.D.ConstFoldInterface.can_fold; can_fold_branch = g.D.BranchOpFoldInterface.can_fold_branch; constants = g.D.ConstFoldInterface.constants; feasible = g.D.BranchOpFoldInterface.feasible; entry_operands = g.D.RegionBranchOpInterface.entry_operands }) in
    let t = c.args.ctx.now.tree in
    λ o e. branching_edges x t (lattice_values_of c.args.tables.now) c.args.op o e (known_constants c.args.tables.now) c.args.scratch.now.constraints.items c.constrain_branches.new.constraints.items (sym (c.is_branch.ensures o.head (op_shows t c.args.op o e).head) ∙ c.if-is_branch.true) (c.in_ok-feasible.ensures.ok o e)

pub returns-else-is_branch-clause-ok : goal.returns-else-is_branch-clause-ok
returns-else-is_branch-clause-ok g c =
    let x : Says = (record { meaning = g.D.HasMeaning.meaning; can_fold = g.D.ConstFoldInterface.can_fold; can_fold_branch = g.D.BranchOpFoldInterface.can_fold_branch; constants = g.D.ConstFoldInterface.constants; feasible = g.D.BranchOpFoldInterface.feasible; entry_operands = g.D.RegionBranchOpInterface.entry_operands }) in
    let t = c.args.ctx.now.tree in
    on_ok_weaker c.constrain_jumps.result
    (λ p o e. jumping_edges x t (lattice_values_of c.args.tables.now) c.args.op o e (known_constants c.args.tables.now) c.args.scratch.now.constraints.items c.constrain_jumps.new.constraints.items (sym (c.is_branch.ensures o.head (op_shows t c.args.op o e).head) ∙ c.if-is_branch.false) (p (known_constants c.args.tables.now) (lattice_values_of c.args.tables.now) c.requires.entered))
    c.constrain_jumps.ensures.ok

pub returns-in_ok-feasible-clause-entered : goal.returns-in_ok-feasible-clause-entered
returns-in_ok-feasible-clause-entered g c =
    entered_where (known_constants c.args.tables.now) c.args.ctx.now.tree (lattice_values_of c.args.tables.now) c.constrain_branches.new.constraints.items c.args.scratch.now.entered c.requires.entered

pub returns-else-is_branch-clause-entered : goal.returns-else-is_branch-clause-entered
returns-else-is_branch-clause-entered g c = on_ok_weaker c.constrain_jumps.result
    (λ p. p (known_constants c.args.tables.now) (lattice_values_of c.args.tables.now) c.requires.entered)
    c.constrain_jumps.ensures.entered

pub returns-else-is_branch-clause-feasible : goal.returns-else-is_branch-clause-feasible
returns-else-is_branch-clause-feasible g c =
    let x : Says = (record { meaning = g.D.HasMeaning.meaning; can_fold = g.D.ConstFoldInterface.can_fold; can_fold_branch = g.D.BranchOpFoldInterface.can_fold_branch; constants = g.D.ConstFoldInterface.constants; feasible = g.D.BranchOpFoldInterface.feasible; entry_operands = g.D.RegionBranchOpInterface.entry_operands }) in
    on_ok_weaker c.constrain_jumps.result (λ p. subst (AreFound x c.args.ctx.now.tree (lattice_values_of c.args.tables.now) c.args.op) (sym c.requires.none) tt) c.constrain_jumps.ensures.ok

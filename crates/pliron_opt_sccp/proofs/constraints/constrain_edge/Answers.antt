use Rattle.std.proofs.Common.{◌∙◌, false, Some, map, slice_get, sym, ap, subst}
use Rattle.std.proofs.lemmas.Result.{on_ok_weaker}
use Rattle.pliron_core.proofs.HoldingLemmas.{some_is}
use Rattle.pliron_core.specs.Tree.{operands_of}
use Rattle.pliron_laws.proofs.Records.{op_shows}
use Rattle.pliron_theory.specs.LatticeValues.{Says, operand_constants}
use Rattle.pliron_opt_sccp.specs.LatticeTables.{known_constants, lattice_values_of}
use Rattle.pliron_opt_sccp.specs.Constraints.{Adds, MayLead, FollowsEdge}
use Rattle.pliron_opt_sccp.proofs.Constrained.{nothing_asked}
use Rattle.pliron_opt_sccp.proofs.EdgesAsked.{may, may_not, edge_asked}
use Rattle.pliron_opt_sccp.proofs.constraints.constrain_edge.Goals as goal

pub returns-in_ok-values-clause-ok : goal.returns-in_ok-values-clause-ok
returns-in_ok-values-clause-ok g c =
    let x : Says = (record { meaning = g.D.HasMeaning.meaning; can_fold = g.D.ConstFoldInterface.can_fold; can_fold_branch = g.D.BranchOpFoldInterface.can_fold_branch; constants = g.D.ConstFoldInterface.constants; feasible = g.D.BranchOpFoldInterface.feasible; entry_operands = g.D.RegionBranchOpInterface.entry_operands }) in
    let t = c.args.ctx.now.tree in
    let f = lattice_values_of c.args.tables.now in
    let a = c.args.constraints.now.items in
    let z = c.constrain_forwarded.new.constraints.items in
    let block = c.get_successor-block.result in
    on_ok_weaker c.constrain_forwarded.result
    (λ p o e b at.
    let s = op_shows t c.args.branch.now.op o e in
    let here = some_is (sym c.get_successor-block.ensures.successor ∙ at) in
    let known = ap (operand_constants f) s.operands in
    let led = subst (λ q. MayLead c.args.branch.now.feasible block q) c.if-may_go.true c.may_go.ensures in
    let go = may x t f c.args.branch.now.op o e (operand_constants f (operands_of t c.args.branch.now.op)) known c.args.branch.now.feasible c.requires.feasible c.args.i block (ap (λ l. slice_get l c.args.i) (sym s.successors) ∙ c.get_successor-block.ensures.successor) led in
    subst (λ q. Adds (known_constants c.args.tables.now) a z (λ now. FollowsEdge x t f o now c.args.i q)) here
    (edge_asked x t f c.args.branch.now.op o e (known_constants c.args.tables.now) c.args.i block c.deref.result.now a z go (ap (map Some) c.deref.ensures.value ∙ c.in_ok-values.ensures.ok o e) p))
    c.constrain_forwarded.ensures.ok

pub returns-else-may_go-clause-ok : goal.returns-else-may_go-clause-ok
returns-else-may_go-clause-ok g c = λ o e b at.
    let x : Says = (record { meaning = g.D.HasMeaning.meaning; can_fold = g.D.ConstFoldInterface.can_fold; can_fold_branch = g.D.BranchOpFoldInterface.can_fold_branch; constants = g.D.ConstFoldInterface.constants; feasible = g.D.BranchOpFoldInterface.feasible; entry_operands = g.D.RegionBranchOpInterface.entry_operands }) in
    let t = c.args.ctx.now.tree in
    let f = lattice_values_of c.args.tables.now in
    let block = c.get_successor-block.result in
    let s = op_shows t c.args.branch.now.op o e in
    let here = some_is (sym c.get_successor-block.ensures.successor ∙ at) in
    let known = ap (operand_constants f) s.operands in
    let led = subst (λ q. MayLead c.args.branch.now.feasible block q) c.if-may_go.false c.may_go.ensures in
    nothing_asked (known_constants c.args.tables.now) (λ now. FollowsEdge x t f o now c.args.i b) c.args.constraints.now.items
    (λ now go. absurd (may_not x t f c.args.branch.now.op o e (operand_constants f (operands_of t c.args.branch.now.op)) known c.args.branch.now.feasible c.requires.feasible c.args.i b (subst (λ q. MayLead c.args.branch.now.feasible q false) here led) go))

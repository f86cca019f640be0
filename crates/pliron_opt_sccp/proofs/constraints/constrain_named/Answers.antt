use Rattle.std.proofs.Common.{◌∙◌, sym, subst}
use Rattle.std.proofs.lemmas.Result.{on_ok_weaker}
use Rattle.pliron_core.specs.Tree.{operands_of}
use Rattle.pliron_core.proofs.HoldingLemmas.{some_is}
use Rattle.pliron_laws.proofs.Records.{op_shows}
use Rattle.pliron_theory.specs.LatticeValues.{Says}
use Rattle.pliron_opt_sccp.specs.LatticeTables.{known_constants, lattice_values_of}
use Rattle.pliron_opt_sccp.specs.Constraints.{Adds, GetsNamed}
use Rattle.pliron_opt_sccp.proofs.Constrained.{named_asked, unnamed_asked}
use Rattle.pliron_opt_sccp.proofs.constraints.constrain_named.Goals as goal

pub returns-in-Some-clause-ok : goal.returns-in-Some-clause-ok
returns-in-Some-clause-ok g c =
    let x : Says = record { meaning = g.D.HasMeaning.meaning; can_fold = g.D.ConstFoldInterface.can_fold; can_fold_branch = g.D.BranchOpFoldInterface.can_fold_branch; constants = g.D.ConstFoldInterface.constants; feasible = g.D.BranchOpFoldInterface.feasible; entry_operands = g.D.RegionBranchOpInterface.entry_operands } in
    let t = c.args.ctx.now.tree in
    let s = c.args.tables.now in
    let v = c.get_argument-argument.result in
    let a = c.args.constraints.now.items in
    let b = c.constrain_operand.new.constraints.items in
    on_ok_weaker c.constrain_operand.result
    (λ adds o e u at.
    subst (λ z. Adds (known_constants s) a b (λ now. GetsNamed x t (lattice_values_of s) o c.args.entry.now.region now c.args.index z)) (some_is (sym c.get_argument-argument.ensures.argument ∙ at))
    (named_asked (known_constants s) x t (lattice_values_of s) o c.args.entry.now.region c.args.index v (operands_of t c.args.entry.now.op) c.in-Some.place a b (op_shows t c.args.entry.now.op o e).operands (c.in-Some.ensures o e) adds))
    c.constrain_operand.ensures.ok

pub returns-in-None-clause-ok : goal.returns-in-None-clause-ok
returns-in-None-clause-ok g c =
    let x : Says = record { meaning = g.D.HasMeaning.meaning; can_fold = g.D.ConstFoldInterface.can_fold; can_fold_branch = g.D.BranchOpFoldInterface.can_fold_branch; constants = g.D.ConstFoldInterface.constants; feasible = g.D.BranchOpFoldInterface.feasible; entry_operands = g.D.RegionBranchOpInterface.entry_operands } in
    let t = c.args.ctx.now.tree in
    let s = c.args.tables.now in
    let v = c.get_argument-argument.result in
    let a = c.args.constraints.now.items in
    let b = c.constrain_varying.new.constraints.items in
    on_ok_weaker c.constrain_varying.result
    (λ adds o e u at.
    subst (λ z. Adds (known_constants s) a b (λ now. GetsNamed x t (lattice_values_of s) o c.args.entry.now.region now c.args.index z)) (some_is (sym c.get_argument-argument.ensures.argument ∙ at))
    (unnamed_asked (known_constants s) x t (lattice_values_of s) o c.args.entry.now.region c.args.index v a b (c.in-None.ensures o e) (adds (known_constants s))))
    c.constrain_varying.ensures.ok

use Rattle.std.proofs.Common.{◌∙◌, None, ap, sym, subst}
use Rattle.std.proofs.lemmas.Result.{on_ok_weaker}
use Rattle.pliron_core.specs.Tree.{first_of, layout_of}
use Rattle.pliron_core.proofs.HoldingLemmas.{some_is, not_none}
use Rattle.pliron_theory.specs.LatticeValues.{Says}
use Rattle.pliron_opt_sccp.specs.LatticeTables.{known_constants, lattice_values_of}
use Rattle.pliron_opt_sccp.specs.Constraints.{Adds, InvocationIsExecutable}
use Rattle.pliron_opt_sccp.proofs.Constrained.{visit_asked, nothing_asked}
use Rattle.pliron_opt_sccp.proofs.constraints.constrain_invocation.Goals as goal

pub returns-in-Some-clause-ok : goal.returns-in-Some-clause-ok
returns-in-Some-clause-ok g c =
    let x : Says = record { meaning = g.D.HasMeaning.meaning; can_fold = g.D.ConstFoldInterface.can_fold; can_fold_branch = g.D.BranchOpFoldInterface.can_fold_branch; constants = g.D.ConstFoldInterface.constants; feasible = g.D.BranchOpFoldInterface.feasible; entry_operands = g.D.RegionBranchOpInterface.entry_operands } in
    let t = c.args.ctx.now.tree in
    let s = c.args.tables.now in
    let a = c.args.constraints.now.items in
    let b = c.constrain_named_entry.new.constraints.items in
    on_ok_weaker c.constrain_named_entry.result
    (λ adds o e r at.
    subst (λ z. Adds (known_constants s) a b (λ now. InvocationIsExecutable x t (lattice_values_of s) o now c.args.region z)) (some_is (sym c.get_region.ensures.region ∙ at))
    (visit_asked (known_constants s) x t (lattice_values_of s) o c.args.region c.get_region.result c.in-Some.block a b (sym c.in-Some.ensures.first) (adds o e)))
    c.constrain_named_entry.ensures.ok

pub returns-in-None-clause-ok : goal.returns-in-None-clause-ok
returns-in-None-clause-ok g c = λ o e r at.
    let x : Says = record { meaning = g.D.HasMeaning.meaning; can_fold = g.D.ConstFoldInterface.can_fold; can_fold_branch = g.D.BranchOpFoldInterface.can_fold_branch; constants = g.D.ConstFoldInterface.constants; feasible = g.D.BranchOpFoldInterface.feasible; entry_operands = g.D.RegionBranchOpInterface.entry_operands } in
    let t = c.args.ctx.now.tree in
    let s = c.args.tables.now in
    let here = some_is (sym c.get_region.ensures.region ∙ at) in
    nothing_asked (known_constants s) (λ now. InvocationIsExecutable x t (lattice_values_of s) o now c.args.region r) c.args.constraints.now.items
    (λ now b is. absurd (not_none (c.in-None.ensures.first ∙ ap (λ z. first_of (layout_of t z) None) here ∙ is)))

use Rattle.std.proofs.Common.{◌≡◌, length, refl, sym, ◌∙◌, arith}
use Rattle.std.proofs.lemmas.Grind.{common_steps}
use Rattle.pliron_theory.specs.LatticeValues.{Says}
use Rattle.pliron_opt_sccp.specs.LatticeTables.{lattice_values_of}
use Rattle.pliron_opt_sccp.proofs.ListedFolds.{adds_fold}
use Rattle.pliron_opt_sccp.proofs.rewrite.add_fold.Goals as goal

pub returns-in_ok-push-clause-ok : goal.returns-in_ok-push-clause-ok
returns-in_ok-push-clause-ok g c =
    let x : Says = record { meaning = g.D.HasMeaning.meaning; can_fold = g.D.ConstFoldInterface.can_fold; can_fold_branch = g.D.BranchOpFoldInterface.can_fold_branch; constants = g.D.ConstFoldInterface.constants; feasible = g.D.BranchOpFoldInterface.feasible; entry_operands = g.D.RegionBranchOpInterface.entry_operands } in
    let start : c.len-start.result ≡ length c.args.folds.now.known.items = grind (arith, common_steps) in
    let end : c.len-end.result ≡ length c.add_known.new.attrs.items = grind (arith, common_steps) in
    adds_fold x c.args.ctx.now.tree (lattice_values_of c.args.tables.now) c.args.op c.args.folds.now (record { rows = c.push.new.self; known = c.add_known.new.attrs }) (record { op = c.args.op; start = c.len-start.result; end = c.len-end.result }) _ c.in_ok-add_known.ensures.ok c.in_ok-push.ensures.items (sym c.is_folded.ensures ∙ c.if-is_folded.true) refl start end refl

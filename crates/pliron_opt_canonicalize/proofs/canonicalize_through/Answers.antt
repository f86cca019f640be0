use Rattle.std.proofs.Common.{rules, OnOk, [], refl}
use Rattle.pliron_theory.proofs.WholeChanges.{whole_refl}
use Rattle.pliron_rewrite_operands.specs.Answers.{Folding}
use Rattle.pliron_opt_canonicalize.specs.Folds.{FoldInTurn}
use Rattle.pliron_opt_canonicalize.proofs.Parts.{folding}
use Rattle.pliron_opt_canonicalize.proofs.Doing.{same_itself}
use Rattle.pliron_opt_canonicalize.proofs.canonicalize_through.Goals as goal

pub returns-in_err-sites-clause-change : goal.returns-in_err-sites-clause-change
returns-in_err-sites-clause-change g c = whole_refl g.D.HasMeaning.meaning c.args.ctx.now.tree c.args.op c.requires.live c.requires.linked

pub returns-in_err-sites-clause-folded : goal.returns-in_err-sites-clause-folded
returns-in_err-sites-clause-folded g c =
    let x : Folding = folding g.D.HasMeaning.meaning g.D.SideEffects.side_effects g.D.ConstFoldInterface.can_fold g.D.ConstFoldInterface.constants g.D.ConstFoldInterface.accepts g.D.ConstFoldInterface.constant_head g.D.OperandFoldInterface.operand_folds in
    let none : OnOk c.from_residual.result (FoldInTurn x c.args.op [] c.args.ctx.now.tree c.args.ctx.now.tree) = search rules in
    ([], (c.args.ctx.now.tree, refl, same_itself c.args.ctx.now.tree), none)

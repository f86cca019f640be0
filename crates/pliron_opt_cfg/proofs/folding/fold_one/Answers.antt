use Rattle.std.proofs.Common.{inl, inr, refl}
use Rattle.std.proofs.lemmas.Result.{on_err_weaker}
use Rattle.pliron_laws.proofs.FoldLemmas.{on_err}
use Rattle.pliron_core.proofs.WalkLemmas.{inside_live}
use Rattle.pliron_opt_cfg.proofs.FoldLemmas.{no_step}
use Rattle.pliron_opt_cfg.proofs.folding.fold_one.Goals as goal

pub known_operands-requires : goal.known_operands-requires
known_operands-requires g c = inside_live c.args.ctx.now.tree c.well_formed-2.ensures.tree c.requires.branch.0 c.args.op c.requires.branch.2.0

pub returns-in_err-known-clause-step : goal.returns-in_err-known-clause-step
returns-in_err-known-clause-step g c = λ root linked branch. no_step g.D.HasMeaning.meaning g.D.ConstFoldInterface.can_fold g.D.BranchOpFoldInterface.can_fold_branch g.D.ConstFoldInterface.constants g.D.BranchOpFoldInterface.outcome c.args.ctx.now.tree root c.args.op c.well_formed-2.ensures.tree linked branch

pub returns-in_err-known-clause-refused : goal.returns-in_err-known-clause-refused
returns-in_err-known-clause-refused g c = on_err _ c.from_residual.result (inl refl)

pub returns-clause-refused : goal.returns-clause-refused
returns-clause-refused g c = on_err_weaker c.fold_known.result (λ is. inr is) c.fold_known.ensures.refused

use Rattle.std.proofs.Common.{rules, inl, inr, ap, ◌∙◌}
use Rattle.pliron_core.specs.Status.{changed_by_either}
use Rattle.pliron_theory.proofs.WholeChanges.{whole_trans}
use Rattle.pliron_opt_cfg.proofs.SimplifiedLemmas.{simplified, fails}
use Rattle.pliron_opt_cfg.proofs.simplify_cfg.Goals as goal

pub returns-in_err-remove_blocks_inside_op-clause-err : goal.returns-in_err-remove_blocks_inside_op-clause-err
returns-in_err-remove_blocks_inside_op-clause-err g c =
    fails c.from_residual-in_err-remove_blocks_inside_op.result _ c.in_err-remove_blocks_inside_op.field-0.0 (search rules) (inr (record { folded = c.fold_branches.new.ctx.tree; fold_status = c.in_ok-status.status; folds = c.in_ok-status.ensures.folds; stops = inl c.in_err-remove_blocks_inside_op.ensures.err }))

pub returns-in_err-remove_blocks_inside_op-clause-change : goal.returns-in_err-remove_blocks_inside_op-clause-change
returns-in_err-remove_blocks_inside_op-clause-change g c =
    whole_trans g.D.HasMeaning.meaning c.args.ctx.now.tree c.fold_branches.new.ctx.tree c.remove_blocks_inside_op.new.ctx.tree c.args.op c.in_ok-status.ensures.change c.in_err-remove_blocks_inside_op.ensures.change

pub returns-in_err-merge_inside_op-clause-err : goal.returns-in_err-merge_inside_op-clause-err
returns-in_err-merge_inside_op-clause-err g c =
    fails c.from_residual-in_err-merge_inside_op.result _ c.in_err-merge_inside_op.field-0.0 (search rules) (inr (record {
      folded = c.fold_branches.new.ctx.tree;
      fold_status = c.in_ok-status.status;
      folds = c.in_ok-status.ensures.folds;
      stops = inr (c.in_err-merge_inside_op.ensures.memory, record { removed = c.remove_blocks_inside_op.new.ctx.tree; removal_status = c.in_ok-remove_blocks_inside_op.field-0; removes = c.in_ok-remove_blocks_inside_op.ensures.ok; merges = c.in_err-merge_inside_op.ensures.refused });
    }))

pub returns-in_err-merge_inside_op-clause-change : goal.returns-in_err-merge_inside_op-clause-change
returns-in_err-merge_inside_op-clause-change g c =
    whole_trans g.D.HasMeaning.meaning c.args.ctx.now.tree c.remove_blocks_inside_op.new.ctx.tree c.merge_inside_op.new.ctx.tree c.args.op (whole_trans g.D.HasMeaning.meaning c.args.ctx.now.tree c.fold_branches.new.ctx.tree c.remove_blocks_inside_op.new.ctx.tree c.args.op c.in_ok-status.ensures.change c.in_ok-remove_blocks_inside_op.ensures.change) c.in_err-merge_inside_op.ensures.change

pub returns-clause-ok : goal.returns-clause-ok
returns-clause-ok g c =
    simplified g.D.HasMeaning.meaning c.args.op c.args.ctx.now.tree c.fold_branches.new.ctx.tree c.remove_blocks_inside_op.new.ctx.tree c.merge_inside_op.new.ctx.tree c.in_ok-status.ensures.change c.in_ok-remove_blocks_inside_op.ensures.change c.in_ok-merge_inside_op.ensures.change c.in_ok-status.ensures.blocks c.in_ok-merge_inside_op.ensures.blocks c.in_ok-merge_inside_op.ensures.unreachable
    g.D.ConstFoldInterface.can_fold g.D.BranchOpFoldInterface.can_fold_branch g.D.ConstFoldInterface.constants g.D.BranchOpFoldInterface.outcome c.in_ok-status.status c.in_ok-remove_blocks_inside_op.field-0 c.in_ok-merge_inside_op.field-0 c.bitor_assign-2.new.self c.in_ok-status.ensures.folds c.in_ok-status.ensures.reported c.in_ok-remove_blocks_inside_op.ensures.ok c.in_ok-merge_inside_op.ensures.ok c.in_ok-merge_inside_op.ensures.loses_operation
    (c.bitor_assign-2.ensures.after ∙ ap (λ z. changed_by_either z c.in_ok-merge_inside_op.field-0) c.bitor_assign.ensures.after)

pub returns-clause-change : goal.returns-clause-change
returns-clause-change g c =
    whole_trans g.D.HasMeaning.meaning c.args.ctx.now.tree c.remove_blocks_inside_op.new.ctx.tree c.merge_inside_op.new.ctx.tree c.args.op (whole_trans g.D.HasMeaning.meaning c.args.ctx.now.tree c.fold_branches.new.ctx.tree c.remove_blocks_inside_op.new.ctx.tree c.args.op c.in_ok-status.ensures.change c.in_ok-remove_blocks_inside_op.ensures.change) c.in_ok-merge_inside_op.ensures.change

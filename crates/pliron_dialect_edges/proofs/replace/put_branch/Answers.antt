use Rattle.std.proofs.Common.{ap, sym, ◌∙◌, subst}
use Rattle.pliron_core.specs.Insertion.{IsPointFor}
use Rattle.pliron_laws.proofs.FoldLemmas.{on_err}
use Rattle.pliron_dialect.proofs.JumpLemmas.{point_kept}
use Rattle.pliron_dialect_edges.proofs.replace.put_branch.Goals as goal

pub insert_operation-requires-clause-point : goal.insert_operation-requires-clause-point
insert_operation-requires-clause-point g c =
    subst (λ z. IsPointFor z (g.R.Rewriter.point c.args.rewriter.now) c.args.branch) (sym c.in_ok-add_edges.ensures.ok) (point_kept c.args.ctx.now.tree c.args.branch c.args.values.now c.args.targets.now (g.R.Rewriter.point c.args.rewriter.now) c.requires.point)

pub returns-in_err-insert_operation-clause-err : goal.returns-in_err-insert_operation-clause-err
returns-in_err-insert_operation-clause-err g c = on_err _ c.from_residual-in_err-insert_operation.result (c.args.values.now, c.args.targets.now, ap (λ z. z.tree) c.in_err-insert_operation.ensures.err ∙ c.in_ok-add_edges.ensures.ok)

use Rattle.std.proofs.Common.{[], ◌<◌, ◌≤◌, length, take, ap, sym, ◌∙◌, subst, arith}
use Rattle.std.proofs.lemmas.List.{take_all}
use Rattle.pliron_core.specs.Tree.{IsDefined}
use Rattle.pliron_laws.specs.Replacing.{with_edges}
use Rattle.pliron_laws.proofs.FoldLemmas.{on_err}
use Rattle.pliron_dialect.proofs.JumpLemmas.{no_edges, in_at, value_more}
use Rattle.pliron_dialect_edges.proofs.replace.add_operands.Goals as goal

pub loop-j-init : goal.loop-j-init
loop-j-init c = no_edges c.args.ctx.now.tree c.args.branch c.requires.no_operands c.requires.no_successors

pub push_operand-requires-clause-value : goal.push_operand-requires-clause-value
push_operand-requires-clause-value c =
    let lt : c.loop-j.j < length c.args.values.now = omega arith in
    subst (λ z. IsDefined z c.index-values-j.result) (sym c.loop-j.invariant) (c.requires.values c.index-values-j.result (in_at c.args.values.now c.loop-j.j c.index-values-j.result lt c.index-values-j.is))

pub loop-j-preserved : goal.loop-j-preserved
loop-j-preserved c =
    let lt : c.loop-j.j < length c.args.values.now = omega arith in
    value_more c.args.ctx.now.tree c.loop-j.ctx.tree c.push_operand.new.ctx.tree c.args.branch c.loop-j.j c.index-values-j.result c.args.values.now c.well_formed-2.ensures.tree c.requires.live lt c.index-values-j.is c.loop-j.invariant c.in_ok-push_operand.ensures.ok

pub returns-in_err-push_operand-clause-err : goal.returns-in_err-push_operand-clause-err
returns-in_err-push_operand-clause-err c = on_err _ c.from_residual.result (take c.loop-j.j c.args.values.now, ap (λ z. z.tree) c.in_err-push_operand.ensures.err ∙ c.loop-j.invariant)

pub returns-clause-ok : goal.returns-clause-ok
returns-clause-ok c =
    let le : length c.args.values.now ≤ c.loop-j.j = omega arith in
    c.loop-j.invariant ∙ ap (λ z. with_edges c.args.ctx.now.tree c.args.branch z []) (take_all c.loop-j.j c.args.values.now le)

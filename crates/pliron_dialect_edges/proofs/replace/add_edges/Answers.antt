use Rattle.std.proofs.Common.{[], ◌<◌, ◌≤◌, length, take, ap, sym, ◌∙◌, subst, arith}
use Rattle.std.proofs.lemmas.List.{take_all}
use Rattle.pliron_core.specs.Tree.{IsBlock}
use Rattle.pliron_laws.specs.Replacing.{with_edges}
use Rattle.pliron_laws.proofs.FoldLemmas.{on_err}
use Rattle.pliron_dialect.proofs.JumpLemmas.{in_at}
use Rattle.pliron_dialect_edges.proofs.BranchLemmas.{target_more}
use Rattle.pliron_dialect_edges.proofs.replace.add_edges.Goals as goal

pub returns-in_err-add_operands-clause-err : goal.returns-in_err-add_operands-clause-err
returns-in_err-add_operands-clause-err c =
    let given = c.in_err-add_operands.ensures.err in on_err _ c.from_residual.result (given.0, [], given.1)

pub loop-j-init : goal.loop-j-init
loop-j-init c = c.in_ok-add_operands.ensures.ok

pub push_successor-requires-clause-block : goal.push_successor-requires-clause-block
push_successor-requires-clause-block c =
    let lt : c.loop-j.j < length c.args.targets.now = omega arith in
    subst (λ z. IsBlock z c.index-targets-j.result) (sym c.loop-j.invariant) (c.requires.targets c.index-targets-j.result (in_at c.args.targets.now c.loop-j.j c.index-targets-j.result lt c.index-targets-j.is))

pub loop-j-preserved : goal.loop-j-preserved
loop-j-preserved c =
    let lt : c.loop-j.j < length c.args.targets.now = omega arith in
    target_more c.args.ctx.now.tree c.loop-j.ctx.tree c.push_successor.new.ctx.tree c.args.branch c.loop-j.j c.index-targets-j.result c.args.values.now c.args.targets.now c.well_formed-2.ensures.tree c.requires.live lt c.index-targets-j.is c.loop-j.invariant c.in_ok-push_successor.ensures.ok

pub returns-in_err-push_successor-clause-err : goal.returns-in_err-push_successor-clause-err
returns-in_err-push_successor-clause-err c = on_err _ c.from_residual-in_err-push_successor.result (c.args.values.now, take c.loop-j.j c.args.targets.now, ap (λ z. z.tree) c.in_err-push_successor.ensures.err ∙ c.loop-j.invariant)

pub returns-clause-ok : goal.returns-clause-ok
returns-clause-ok c =
    let le : length c.args.targets.now ≤ c.loop-j.j = omega arith in
    c.loop-j.invariant ∙ ap (λ z. with_edges c.args.ctx.now.tree c.args.branch c.args.values.now z) (take_all c.loop-j.j c.args.targets.now le)

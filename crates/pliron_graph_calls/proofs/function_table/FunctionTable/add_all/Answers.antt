use Rattle.std.proofs.Common.{◌++◌, ◌∷◌, [], ◌∙◌, take, ap, sym}
use Rattle.std.proofs.lemmas.List.{take_more}
use Rattle.pliron_graph_calls.proofs.AmongLemmas.{one_added, one_twice}
use Rattle.pliron_graph_calls.proofs.function_table.FunctionTable.add_all.Goals as goal

pub returns-then-not-branch-clause-added : goal.returns-then-not-branch-clause-added
returns-then-not-branch-clause-added g c =
    let x = c.op-item.result in
    let more = take_more c.args.ops.now c.loop-op.op-index x c.loop-op-test.true ∙ ap (λ z. take c.loop-op.op-index c.args.ops.now ++ z ∷ []) (sym c.op-item.is) in
    one_twice g.D.InliningDialect.convention c.args.ctx.now.tree c.args.ops.now c.loop-op.op-index x c.loop-op.self more c.loop-op.invariant (c.in_ok-add.ensures.namesake c.if-not-branch.true)

pub loop-op-preserved : goal.loop-op-preserved
loop-op-preserved g c =
    let x = c.op-item.result in
    let more = take_more c.args.ops.now c.loop-op.op-index x c.loop-op-test.true ∙ ap (λ z. take c.loop-op.op-index c.args.ops.now ++ z ∷ []) (sym c.op-item.is) in
    one_added g.D.InliningDialect.convention c.args.ctx.now.tree c.args.ops.now c.loop-op.op-index x c.loop-op.self _ more c.loop-op.invariant (c.in_ok-add.ensures.functions c.if-not-branch.false) (c.in_ok-add.ensures.names c.if-not-branch.false) (c.in_ok-add.ensures.no_namesakes c.if-not-branch.false)

use Rattle.std.proofs.lemmas.Result.{IfOk-weaker}
use Rattle.pliron_theory.proofs.RewriteLemmas.{result_put, result_becomes}
use Rattle.pliron_theory.proofs.rewrites.replace_result_by_constant.Goals as goal

pub replace_by_constant-requires-clause-keeps : goal.replace_by_constant-requires-clause-keeps
replace_by_constant-requires-clause-keeps g c = λ accepted.
    let d = g.D.ConstFoldInterface in
    let met = g.met.D.Dialect in
    result_put g.D.HasMeaning.meaning d.can_fold _ _ d.accepts d.constant_head met.forwards_operands met.makes_constants c.args.attr.now c.args.ctx.now.tree c.get_result-old.result _ accepted c.args.op c.args.index c.set_insertion_point_before_operation.ensures c.requires.placed c.get_result-old.ensures.value (c.requires.constant c.get_result-old.result c.get_result-old.ensures.value)

pub returns-clause-ok : goal.returns-clause-ok
returns-clause-ok g c =
    let d = g.D.ConstFoldInterface in
    IfOk-weaker c.replace_by_constant.result _ _ (λ status is. result_becomes d.accepts d.constant_head c.args.attr.now c.args.op c.args.index c.get_result-old.result c.args.ctx.now.tree c.replace_by_constant.new.ctx.tree _ status c.set_insertion_point_before_operation.ensures c.get_result-old.ensures.value is) c.replace_by_constant.ensures.ok

use Rattle.std.proofs.lemmas.Result.{IfOk-weaker}
use Rattle.pliron_theory.proofs.RewriteLemmas.{argument_put, argument_becomes}
use Rattle.pliron_theory.proofs.rewrites.replace_argument_by_constant.Goals as goal

pub replace_by_constant-requires-clause-keeps : goal.replace_by_constant-requires-clause-keeps
replace_by_constant-requires-clause-keeps g c = λ accepted.
    let d = g.D.ConstFoldInterface in
    let met = g.met.D.Dialect in
    argument_put g.D.HasMeaning.meaning d.can_fold _ _ d.accepts d.constant_head met.forwards_operands met.makes_constants c.args.attr.now c.args.ctx.now.tree c.get_argument-old.result _ accepted c.args.block c.args.index c.set_insertion_point_to_block_start.ensures c.requires.block c.get_argument-old.ensures.argument (c.requires.constant c.get_argument-old.result c.get_argument-old.ensures.argument)

pub returns-clause-ok : goal.returns-clause-ok
returns-clause-ok g c =
    let d = g.D.ConstFoldInterface in
    IfOk-weaker c.replace_by_constant.result _ _ (λ status is. argument_becomes d.accepts d.constant_head c.args.attr.now c.args.block c.args.index c.get_argument-old.result c.args.ctx.now.tree c.replace_by_constant.new.ctx.tree _ status c.set_insertion_point_to_block_start.ensures c.get_argument-old.ensures.argument is) c.replace_by_constant.ensures.ok

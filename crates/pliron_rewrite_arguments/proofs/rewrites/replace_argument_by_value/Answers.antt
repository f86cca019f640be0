use Rattle.pliron_rewrite_arguments.proofs.ArgumentEdges.{source, source_uses}
use Rattle.pliron_rewrite_arguments.proofs.ArgumentKeeps.{rewrite_keeps}
use Rattle.pliron_rewrite_arguments.proofs.rewrites.replace_argument_by_value.Goals as goal

pub replace_value_uses_with-requires-clause-new : goal.replace_value_uses_with-requires-clause-new
replace_value_uses_with-requires-clause-new g c =
    let m = g.D.HasMeaning.meaning in
    let t = c.args.ctx.now.tree in
    let w = c.well_formed-2.ensures.tree in
    w.joined.operands (source m t w c.args.block c.args.index c.args.value c.requires.one) c.args.value (source_uses m t w c.args.block c.args.index c.args.value c.requires.one)

pub returns-clause-runs : goal.returns-clause-runs
returns-clause-runs g c = rewrite_keeps g.D.HasMeaning.meaning _ _ _ g.met.D.Dialect.forwards_operands c.args.ctx.now.tree c.replace_value_uses_with.new.ctx.tree c.args.block c.args.index c.args.value c.get_argument-argument.result c.well_formed-2.ensures.tree c.requires.one c.get_argument-argument.ensures.argument c.in_ok-replace_value_uses_with.ensures.ok

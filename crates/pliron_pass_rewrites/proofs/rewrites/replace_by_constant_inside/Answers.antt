use Rattle.std.proofs.lemmas.Result.{IfOk-weaker}
use Rattle.pliron_core.specs.Tree.{definition_of}
use Rattle.pliron_pass_rewrites.proofs.InsideRewrites.{defined_point, put_passes, put_same}
use Rattle.pliron_pass_rewrites.proofs.rewrites.replace_by_constant_inside.Goals as goal

pub replace_value-replaced-requires-clause-point : goal.replace_value-replaced-requires-clause-point
replace_value-replaced-requires-clause-point g c = defined_point c.args.ctx.now.tree c.args.holder c.well_formed-2.ensures.tree.joined (definition_of c.args.ctx.now.tree c.args.value) c.requires.inside

pub returns-clause-change : goal.returns-clause-change
returns-clause-change g c =
    let d = g.D.ConstFoldInterface in
    let r = c.replace_value-replaced in
    put_passes g.D.HasMeaning.meaning d.accepts d.constant_head g.met.D.Dialect.makes_constants c.args.attr.now c.args.ctx.now.tree r.new.ctx.tree c.args.holder c.args.value c.well_formed-2.ensures.tree c.requires.linked r.ensures.runs c.well_formed-3.ensures.tree c.requires.live c.requires.inside r.result r.ensures.ok r.ensures.refused

pub returns-clause-same : goal.returns-clause-same
returns-clause-same g c =
    let d = g.D.ConstFoldInterface in
    let r = c.replace_value-replaced in
    IfOk-weaker r.result _ _ (λ status is. put_same d.accepts d.constant_head c.args.attr.now c.args.ctx.now.tree r.new.ctx.tree c.args.value status is) r.ensures.ok

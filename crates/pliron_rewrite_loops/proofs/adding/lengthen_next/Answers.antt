use Rattle.std.proofs.Common.{◌-◌, subst}
use Rattle.std.proofs.lemmas.Option.{slice_get_within}
use Rattle.pliron_core.specs.declared.uses.Use.{Use}
use Rattle.pliron_core.specs.Tree.{uses_of, successors_of}
use Rattle.pliron_rewrite_loops.specs.Added.{LengthensEdge}
use Rattle.pliron_rewrite_loops.proofs.EdgeSteps.{one_more_edge}
use Rattle.pliron_rewrite_loops.proofs.adding.lengthen_next.Goals as goal

pub lengthen_edge-requires-clause-edge : goal.lengthen_edge-requires-clause-edge
lengthen_edge-requires-clause-edge g c =
    slice_get_within (successors_of c.args.ctx.now.tree c.get_use-op.result.0) c.get_use-op.result.1 c.args.block
    (c.well_formed-2.ensures.uses.block_uses.listed c.args.block (c.args.i - 1) (record { user = c.get_use-op.result.0; place = c.get_use-op.result.1 }) c.get_use-op.ensures.listed)

pub returns-in-Ok-true-clause-ok : goal.returns-in-Ok-true-clause-ok
returns-in-Ok-true-clause-ok g c = λ t l.
    let uses = uses_of c.args.ctx.now.block_uses c.args.block in
    let e : Use = record { user = c.get_use-op.result.0; place = c.get_use-op.result.1 } in
    one_more_edge g.D.HasMeaning.meaning g.D.Dialect.shortened c.args.count c.args.value uses c.args.i e t c.args.ctx.now.tree c.lengthen_edge.new.ctx.tree c.requires.some c.get_use-op.ensures.listed l
    (subst (λ b. LengthensEdge g.D.HasMeaning.meaning g.D.Dialect.shortened c.args.count c.args.value e c.args.ctx.now.tree c.lengthen_edge.new.ctx.tree b) c.in-Ok-true.field-0-test c.in-Ok-true.ensures.ok)

use Rattle.std.proofs.Common.{◌≡◌, IfSome, Some, ap, subst}
use Rattle.pliron_laws.specs.Tree.{Operation, op_at, shape_of}
use Rattle.pliron_dialect_edges.specs.Lengthened.{IsLengthened}
use Rattle.pliron_rewrite_loops.proofs.EdgeSteps.{place_within, edge_lengthened}
use Rattle.pliron_rewrite_loops.proofs.adding.lengthen_edge.Goals as goal

pub insert_operand-requires-clause-index : goal.insert_operand-requires-clause-index
insert_operand-requires-clause-index g c =
    let m = g.D.HasMeaning.meaning in
    let t = c.args.ctx.now.tree in
    let longer = subst (λ found. IfSome found (λ it. (o : Operation) → op_at t c.args.op ≡ Some o → IsLengthened m g.D.Dialect.shortened (shape_of m t o) c.args.edge it.place it.head)) c.in-Some.is c.in_ok-longer.ensures.longer in
    place_within m _ _ g.D.Dialect.shortened g.met.D.Dialect.forwards_operands t c.args.op c.args.edge c.in-Some.longer.place c.in-Some.longer.head c.requires.live longer

pub returns-clause-ok : goal.returns-clause-ok
returns-clause-ok g c =
    let m = g.D.HasMeaning.meaning in
    let t = c.args.ctx.now.tree in
    let longer = subst (λ found. IfSome found (λ it. (o : Operation) → op_at t c.args.op ≡ Some o → IsLengthened m g.D.Dialect.shortened (shape_of m t o) c.args.edge it.place it.head)) c.in-Some.is c.in_ok-longer.ensures.longer in
    edge_lengthened m _ _ g.D.Dialect.shortened g.met.D.Dialect.forwards_operands t c.args.op c.args.edge c.in-Some.longer.place c.in-Some.longer.head c.requires.live longer c.args.count c.args.value c.insert_operand.new.ctx.tree c.replace_head.new.ctx.tree c.well_formed-2.ensures.tree (c.in_ok-forwards_so_many.ensures.ok.0 c.if-not-branch.false) c.in_ok-insert_operand.ensures.ok (ap (λ z. z.tree) c.replace_head.ensures.replaced)

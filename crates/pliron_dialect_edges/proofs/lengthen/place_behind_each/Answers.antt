use Rattle.std.proofs.Common.{refl, ap, ◌∙◌, arith, suc, ◌≡◌, ◌+◌}
use Rattle.pliron_dialect.specs.Counted.{start_of, edge_counts_in}
use Rattle.pliron_dialect_edges.proofs.lengthen.place_behind_each.Goals as goal
use Rattle.pliron_dialect_edges.proofs.lengthen.place_behind_each.Goals.{then-j-len, else-j-len}
use Rattle.pliron_dialect_edges.proofs.PlaceLemmas.{counted_place, empty_place}

pub loop-j-init : goal.loop-j-init
loop-j-init c = refl

pub loop-j-preserved : goal.loop-j-preserved
loop-j-preserved c = elim c.if-j-len.branch [ then-j-len w ↦ counted_place c.args.edges c.loop-j.j c.if-j-len.count c.loop-j.place c.args.operands c.args.attrs.now w.get.result.now (omega (arith, c.loop-j-test.true, c.requires)) w.get.ensures (w.count-is ∙ w.count_up_to-count.ensures) c.loop-j.invariant c.if-place-operands.false c.if-count-operands.false | else-j-len w ↦ ap (λ k. c.loop-j.place + k) w.count-is ∙ empty_place c.args.edges c.loop-j.j c.loop-j.place c.args.attrs.now (omega (arith, w.if-j-len.false, c.len.ensures)) c.loop-j.invariant ]

pub returns : goal.returns
returns c = c.loop-j.invariant ∙ ap (λ k. suc (start_of (edge_counts_in c.args.edges c.args.attrs.now) k)) (let e : c.loop-j.j ≡ suc c.args.edge = omega (arith, c.loop-j-test.false, c.loop-j.auto.j-end) in e)

use Rattle.std.proofs.Common.{◌≡◌, suc, ◌<◌, ◌≤◌, length, ◌∷◌, sym, ◌∙◌, arith}
use Rattle.pliron_core.specs.Tree.{uses_of}
use Rattle.pliron_core.proofs.EdgeLemmas.{found-kept, found-over, found-more, found-all}
use Rattle.pliron_core.proofs.context.edge_reads.count_below.Goals as goal
use Rattle.pliron_core.proofs.context.edge_reads.count_below.Goals.{in-Some+then-index-bound, in-Some+else-index-bound, in_default}

pub loop-i-preserved : goal.loop-i-preserved
loop-i-preserved c =
    let f = c.loop-i.invariant.found in
    let size : length f.0 ≡ c.loop-i.count = f.1 in
    elim c.match-first_edge_source.branch [
      | in-Some+then-index-bound w ↦
          let below : w.in-Some.source < c.args.bound = omega arith in
          let one_more : suc (length f.0) ≡ c.match-first_edge_source.count = omega arith in
          record { few = omega arith; found = (w.in-Some.source ∷ f.0, one_more, found-more c.args.ctx.now c.well_formed-2.ensures.uses c.args.block c.args.bound c.loop-i.i w.in-Some.source f.0 f.2 w.in-Some.ensures below) }
      | in-Some+else-index-bound w ↦
          let over : c.args.bound ≤ w.in-Some.source = omega arith in
          record { few = omega arith; found = (f.0, size ∙ sym w.count-is, found-over c.args.ctx.now c.args.block c.args.bound c.loop-i.i w.in-Some.source f.0 f.2 w.in-Some.ensures over) }
      | in_default w ↦ record { few = omega arith; found = (f.0, size ∙ sym w.count-is, found-kept c.args.ctx.now c.args.block c.args.bound c.loop-i.i f.0 f.2 (λ a e lt. w.in_default.ensures a e)) }
    ]

pub returns : goal.returns
returns c =
    let f = c.loop-i.invariant.found in
    let whole : length (uses_of c.args.ctx.now.block_uses c.args.block) ≤ c.loop-i.i = omega arith in
    sym f.1 ∙ found-all c.args.ctx.now c.well_formed-2.ensures.tree c.well_formed-2.ensures.uses c.args.block c.args.bound c.loop-i.i f.0 c.requires f.2 whole

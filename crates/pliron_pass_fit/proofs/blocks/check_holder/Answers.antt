use Rattle.std.proofs.Common.{◌≤◌, length, arith}
use Rattle.pliron_core.specs.Tree.{regions_of}
use Rattle.pliron_core.proofs.FlatLemmas.{In-slice_get}
use Rattle.pliron_laws.proofs.AnswerLemmas.{refuted}
use Rattle.pliron_pass_fit.specs.Checks.{IsFitRegion}
use Rattle.pliron_pass_fit.proofs.CheckLemmas.{at_each, one_more_at}
use Rattle.pliron_pass_fit.proofs.blocks.check_holder.Goals as goal

pub returns-then-not-is_admitted-clause-err : goal.returns-then-not-is_admitted-clause-err
returns-then-not-is_admitted-clause-err g c = (c.requires.within, λ yes. refuted c.is_admitted.result c.if-not-is_admitted.true (c.is_admitted.ensures.1 yes))

pub check_region-requires-clause-held : goal.check_region-requires-clause-held
check_region-requires-clause-held g c = In-slice_get (regions_of c.args.ctx.now.tree c.args.op) c.loop-i.i c.get_region.result c.get_region.ensures.region

pub loop-i-preserved : goal.loop-i-preserved
loop-i-preserved g c = one_more_at (λ r. IsFitRegion c.args.ctx.now.tree c.args.root r) (regions_of c.args.ctx.now.tree c.args.op) c.loop-i.i c.get_region.result c.get_region.ensures.region c.in_ok-check_region.ensures.ok c.loop-i.invariant

pub returns-clause-ok : goal.returns-clause-ok
returns-clause-ok g c =
    let t = c.args.ctx.now.tree in
    let whole : length (regions_of t c.args.op) ≤ c.loop-i.i = omega arith in
    record { admitted = c.is_admitted.ensures.0 c.if-not-is_admitted.false; regions = at_each (λ r. IsFitRegion t c.args.root r) (regions_of t c.args.op) c.loop-i.i whole c.loop-i.invariant }

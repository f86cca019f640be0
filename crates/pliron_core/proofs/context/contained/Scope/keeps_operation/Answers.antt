use Rattle.std.proofs.Common.{◌≡◌, ◌≤◌, length, true, false, rules, arith}
use Rattle.pliron_core.specs.Tree.{results_of, regions_of}
use Rattle.pliron_core.specs.Contained.{IsValueKept, IsRegionKept}
use Rattle.pliron_core.proofs.MemberLemmas.{in_slice}
use Rattle.pliron_core.proofs.ContainedLemmas.{not_kept, is_kept, passed-more, passed-all}
use Rattle.pliron_core.proofs.context.contained.Scope.keeps_operation.Goals as goal

pub returns-then-not-keeps_value : goal.returns-then-not-keeps_value
returns-then-not-keeps_value c =
    let outside : c.keeps_value.result ≡ false = search rules in
    not_kept c.keeps_value.result outside c.keeps_value.ensures (λ kept. kept.results c.get_result.result (in_slice (results_of c.args.ctx.now.tree c.args.op) c.loop-i.i c.get_result.result c.get_result.ensures.value))

pub returns-then-not-keeps_region : goal.returns-then-not-keeps_region
returns-then-not-keeps_region c =
    let outside : c.keeps_region.result ≡ false = search rules in
    not_kept c.keeps_region.result outside c.keeps_region.ensures (λ kept. kept.regions c.get_region.result (in_slice (regions_of c.args.ctx.now.tree c.args.op) c.loop-i-2.i c.get_region.result c.get_region.ensures.region))

pub loop-i-2-preserved : goal.loop-i-2-preserved
loop-i-2-preserved c =
    let inside : c.keeps_region.result ≡ true = search rules in
    passed-more (λ r. IsRegionKept c.args.ctx.now.tree c.args.self.now r) (regions_of c.args.ctx.now.tree c.args.op) c.loop-i-2.i c.get_region.result c.loop-i-2.invariant c.get_region.ensures.region (c.keeps_region.ensures.0 inside)

pub returns : goal.returns
returns c =
    let results : length (results_of c.args.ctx.now.tree c.args.op) ≤ c.loop-i.i = omega arith in
    let regions : length (regions_of c.args.ctx.now.tree c.args.op) ≤ c.loop-i-2.i = omega arith in
    is_kept (record {
      results = passed-all (λ v. IsValueKept c.args.ctx.now.tree c.args.self.now v) (results_of c.args.ctx.now.tree c.args.op) c.loop-i.i c.loop-i.invariant results;
      regions = passed-all (λ r. IsRegionKept c.args.ctx.now.tree c.args.self.now r) (regions_of c.args.ctx.now.tree c.args.op) c.loop-i-2.i c.loop-i-2.invariant regions;
    })

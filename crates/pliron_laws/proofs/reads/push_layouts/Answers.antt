use Rattle.std.proofs.Common.{◌≤◌, length, sym, arith}
use Rattle.std.proofs.lemmas.Option.{slice_get_within, get_or_from_slice_get}
use Rattle.pliron_core.specs.Tree.{regions_of, layout_of}
use Rattle.pliron_laws.proofs.MappedLists.{mapped_more, mapped_all}
use Rattle.pliron_laws.proofs.reads.push_layouts.Goals as goal

pub loop-i-preserved : goal.loop-i-preserved
loop-i-preserved c =
    let rs = regions_of c.args.ctx.now.tree c.args.op in
    let r = c.get_region.result in
    mapped_more (λ r. layout_of c.args.ctx.now.tree r) rs c.loop-i.i r c.args.blocks.now.items c.loop-i.blocks.items c.push_layout.new.blocks.items (slice_get_within rs c.loop-i.i r c.get_region.ensures.region) (sym (get_or_from_slice_get rs c.loop-i.i r r c.get_region.ensures.region)) c.loop-i.invariant c.in_ok-push_layout.ensures

pub returns : goal.returns
returns c =
    let all : length (regions_of c.args.ctx.now.tree c.args.op) ≤ c.loop-i.i = omega arith in
    mapped_all (λ r. layout_of c.args.ctx.now.tree r) (regions_of c.args.ctx.now.tree c.args.op) c.loop-i.i c.args.blocks.now.items c.loop-i.blocks.items all c.loop-i.invariant

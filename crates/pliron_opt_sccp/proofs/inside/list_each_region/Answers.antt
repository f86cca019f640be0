use Rattle.std.proofs.Common.{◌≤◌, ◌++◌, length, sym, ap, ◌∙◌, append-nil, arith}
use Rattle.std.proofs.lemmas.List.{take_all}
use Rattle.std.specs.List.{flat_map}
use Rattle.pliron_core.specs.Tree.{layout_of, regions_of}
use Rattle.pliron_opt_sccp.proofs.Listing.{flat_taken}
use Rattle.pliron_opt_sccp.proofs.inside.list_each_region.Goals as goal

pub loop-i-init : goal.loop-i-init
loop-i-init c = sym (append-nil c.args.blocks.now.items)

pub loop-i-preserved : goal.loop-i-preserved
loop-i-preserved c =
    flat_taken (λ r. layout_of c.args.ctx.now.tree r) (regions_of c.args.ctx.now.tree c.args.op) c.loop-i.i c.get_region.result c.args.blocks.now.items c.loop-i.blocks.items c.list_region.new.blocks.items c.get_region.ensures.region c.loop-i.invariant c.in_ok-list_region.ensures.ok

pub returns-clause-ok : goal.returns-clause-ok
returns-clause-ok c =
    let rs = regions_of c.args.ctx.now.tree c.args.op in
    let whole : length rs ≤ c.loop-i.i = omega arith in
    c.loop-i.invariant ∙ ap (λ xs. c.args.blocks.now.items ++ flat_map (λ r. layout_of c.args.ctx.now.tree r) xs) (take_all c.loop-i.i rs whole)

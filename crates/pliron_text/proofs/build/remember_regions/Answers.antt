use Rattle.std.proofs.Common.{◌∷◌, [], sym, subst, arith}
use Rattle.pliron_core.specs.Tree.{In, regions_of}
use Rattle.pliron_core.proofs.HoldingLemmas.{in_slice}
use Rattle.pliron_text.specs.Building.{KeepsEntries}
use Rattle.pliron_text.proofs.GrowthLemmas.{keeps-more}
use Rattle.pliron_text.proofs.BuildLemmas.{adds-more, length-last}
use Rattle.pliron_text.proofs.build.remember_regions.Goals as goal

pub returns-in_err-remember-clause-added : goal.returns-in_err-remember-clause-added
returns-in_err-remember-clause-added c = λ x i. c.loop-i.invariant.0 x (subst (In x) c.in_err-remember.ensures.err i)

pub loop-i-preserved : goal.loop-i-preserved
loop-i-preserved c =
    let made = regions_of c.args.ctx.now.tree c.args.op in
    let more = length-last c.loop-i.regions.items c.remember.new.table.items c.get_region.result c.in_ok-remember.ensures.ok in
    let count = c.loop-i.invariant.1 in
    (adds-more c.args.regions.now.items c.loop-i.regions.items c.remember.new.table.items made c.get_region.result c.in_ok-remember.ensures.ok c.loop-i.invariant.0 (in_slice made c.loop-i.i c.get_region.result c.get_region.ensures.region), omega (arith, more, count), subst (KeepsEntries c.args.regions.now.items) (sym c.in_ok-remember.ensures.ok) (keeps-more c.args.regions.now.items c.loop-i.regions.items (c.get_region.result ∷ []) c.loop-i.invariant.2))

pub returns-in_err-remember-clause-kept : goal.returns-in_err-remember-clause-kept
returns-in_err-remember-clause-kept c = subst (KeepsEntries c.args.regions.now.items) (sym c.in_err-remember.ensures.err) c.loop-i.invariant.2

pub returns-clause-kept : goal.returns-clause-kept
returns-clause-kept c = c.loop-i.invariant.2

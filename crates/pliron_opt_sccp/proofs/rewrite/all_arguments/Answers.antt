use Rattle.std.proofs.Common.{◌≡◌, ◌<◌, ◌≤◌, length, Some, slice_get, refl, subst, arith}
use Rattle.std.proofs.lemmas.Option.{slice_get_read}
use Rattle.pliron_core.specs.Tree.{In}
use Rattle.pliron_core.proofs.FlatLemmas.{In-slice_get}
use Rattle.pliron_opt_sccp.specs.LatticeTables.{lattice_values_of}
use Rattle.pliron_opt_sccp.proofs.DistinctLists.{inside_block}
use Rattle.pliron_opt_sccp.proofs.ListedArguments.{no_arguments, collected_next, collected_all}
use Rattle.pliron_opt_sccp.proofs.rewrite.all_arguments.Goals as goal

pub loop-i-init : goal.loop-i-init
loop-i-init c = no_arguments c.args.ctx.now.tree (lattice_values_of c.args.tables.now) c.new-arguments.result.items c.new-arguments.ensures.items

pub add_arguments-requires : goal.add_arguments-requires
add_arguments-requires c =
    let t = c.args.ctx.now.tree in
    let bs = c.in_ok-blocks.blocks.items in
    let lt : c.loop-i.i < length bs = omega (arith, c.len-i-end.ensures, c.loop-i-test.true) in
    let at : slice_get bs c.loop-i.i ≡ Some c.index.result.now = slice_get_read bs (length bs) c.loop-i.i c.index.result.now refl lt c.index.ensures in
    inside_block t c.well_formed-2.ensures.tree c.args.root c.index.result.now (subst (In c.index.result.now) c.in_ok-blocks.ensures.ok (In-slice_get bs c.loop-i.i c.index.result.now at))

pub loop-i-preserved : goal.loop-i-preserved
loop-i-preserved c =
    let bs = c.in_ok-blocks.blocks.items in
    let lt : c.loop-i.i < length bs = omega (arith, c.len-i-end.ensures, c.loop-i-test.true) in
    let at : slice_get bs c.loop-i.i ≡ Some c.index.result.now = slice_get_read bs (length bs) c.loop-i.i c.index.result.now refl lt c.index.ensures in
    collected_next c.args.ctx.now.tree (lattice_values_of c.args.tables.now) bs c.loop-i.i c.index.result.now c.loop-i.arguments.items c.add_arguments.new.arguments.items c.loop-i.invariant at c.in_ok-add_arguments.ensures.ok

pub returns-clause-ok : goal.returns-clause-ok
returns-clause-ok c =
    let bs = c.in_ok-blocks.blocks.items in
    let whole : length bs ≤ c.loop-i.i = omega arith in
    collected_all c.args.ctx.now.tree c.args.root (lattice_values_of c.args.tables.now) bs c.loop-i.i c.loop-i.arguments.items c.in_ok-blocks.ensures.ok c.loop-i.invariant whole

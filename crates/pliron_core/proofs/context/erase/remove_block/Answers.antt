use Rattle.std.proofs.Common.{rules, ◌≡◌, subst, Some}
use Rattle.pliron_core.specs.UseTables.{view_of}
use Rattle.pliron_core.specs.Tree.{block_parent_of}
use Rattle.pliron_core.specs.Invariant.{IsWellFormed}
use Rattle.pliron_core.specs.Erased.{block_taken_from}
use Rattle.pliron_core.proofs.DismantleLemmas.{well_block_out}
use Rattle.pliron_core.proofs.context.erase.remove_block.Goals as goal

pub invariant_of-ctx : goal.invariant_of-ctx
invariant_of-ctx c =
    let r = rw (← c.ctx.view_is, ← c.index-in-Some.ensures) at c.requires in
    let at : block_parent_of (view_of c.ctx.inside).tree c.index-in-Some.result ≡ Some c.in-Some.region = search rules in
    let e : record (view_of c.ctx.inside) { tree = block_taken_from (view_of c.ctx.inside).tree c.index-in-Some.result (Some c.in-Some.region) } ≡ view_of (record c.ctx.inside { arguments = c.clear.new.self; layout = c.remove.new.self }) = search rules in
    subst IsWellFormed e (well_block_out (view_of c.ctx.inside) c.index-in-Some.result c.in-Some.region c.ctx.invariant c.agree-2.ensures c.agree.ensures at r.empty r.not_named r.unnamed)

use Rattle.std.proofs.Common.{◌≡◌, ◌≤◌, ◌↔◌, nat_eq, Some, length, slice_get, refl, ◌∙◌, subst, arith, IsTrue}
use Rattle.std.proofs.lemmas.Option.{slice_get_read}
use Rattle.std.specs.HashSet.{contains}
use Rattle.pliron_core.specs.Tree.{In}
use Rattle.pliron_opt_sccp.proofs.Constrained.{more_blocks, take_all}
use Rattle.pliron_opt_sccp.proofs.constraints.branch_blocks.Goals as goal

pub loop-block-preserved : goal.loop-block-preserved
loop-block-preserved g c =
    let items = c.deref-block-items.result.now in
    let at : slice_get items c.loop-block.block-index ≡ Some c.block-item.result = slice_get_read items (length items) c.loop-block.block-index c.block-item.result refl c.loop-block-test.true c.block-item.is in
    more_blocks items c.loop-block.block-index c.block-item.result (λ b. contains nat_eq c.loop-block.blocks b) (λ b. contains nat_eq c.add_block.new.blocks b) at c.in_ok-add_block.ensures.ok c.loop-block.invariant

pub returns-clause-ok : goal.returns-clause-ok
returns-clause-ok g c = λ o e b.
    let items = c.deref-block-items.result.now in
    let past : length items ≤ c.loop-block.block-index = omega arith in
    let same = take_all items c.loop-block.block-index past ∙ c.deref-block-items.ensures.value ∙ c.in_ok-targets.ensures.ok o e in
    subst (λ z. IsTrue (contains nat_eq c.loop-block.blocks b) ↔ In b z) same (c.loop-block.invariant b)

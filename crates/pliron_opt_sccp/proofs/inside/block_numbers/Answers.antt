use Rattle.std.proofs.Common.{◌≡◌, length, Some, slice_get, refl, subst, arith}
use Rattle.std.proofs.lemmas.Option.{slice_get_read}
use Rattle.pliron_opt_sccp.specs.Starting.{AddsKeys}
use Rattle.pliron_opt_sccp.proofs.Going.{counted_next, counted_end}
use Rattle.pliron_opt_sccp.proofs.Numbered.{keys_none, one_step}
use Rattle.pliron_opt_sccp.proofs.UserLists.{no_keys}
use Rattle.pliron_opt_sccp.proofs.inside.block_numbers.Goals as goal

pub loop-i-init : goal.loop-i-init
loop-i-init c = λ u d. d

pub loop-i-preserved : goal.loop-i-preserved
loop-i-preserved c =
    let all = c.args.blocks.now in
    let at : slice_get all c.loop-i.i ≡ Some c.index-blocks-i.result = slice_get_read all (length all) c.loop-i.i c.index-blocks-i.result refl c.loop-i-test.true c.index-blocks-i.is in
    counted_next AddsKeys all c.loop-i.i c.index-blocks-i.result c.in_ok-numbered.numbered.keys c.loop-i.numbered.keys c.add_block.new.blocks.keys at (one_step c.index-blocks-i.result c.loop-i.numbered.keys c.add_block.new.blocks.keys c.in_ok-add_block.ensures.ok) c.loop-i.invariant

pub returns-clause-ok : goal.returns-clause-ok
returns-clause-ok c = subst (λ z. AddsKeys c.args.blocks.now z c.loop-i.numbered.keys) (no_keys c.in_ok-numbered.numbered.keys c.in_ok-numbered.ensures.len) (counted_end AddsKeys c.args.blocks.now c.loop-i.i c.in_ok-numbered.numbered.keys c.loop-i.numbered.keys (omega arith) (keys_none c.loop-i.numbered.keys) c.loop-i.invariant)

use Rattle.std.proofs.Common.{◌≡◌, ◌∙◌, ◌++◌, ap, length, map, Some, slice_get, refl, arith}
use Rattle.std.proofs.lemmas.Option.{slice_get_read}
use Rattle.pliron_opt_sccp.specs.declared.inside.Part.TheVariants.{Block}
use Rattle.pliron_opt_sccp.specs.Inside.{blocks_directly_in}
use Rattle.pliron_opt_sccp.proofs.Going.{counted_next, counted_end}
use Rattle.pliron_opt_sccp.proofs.Preorder.{AddsParts, parts_none, parts_step}
use Rattle.pliron_opt_sccp.proofs.inside.list_blocks.Goals as goal

pub loop-i-init : goal.loop-i-init
loop-i-init c = λ u d. d

pub loop-i-preserved : goal.loop-i-preserved
loop-i-preserved c =
    let all = c.list_regions.new.blocks.items in
    let at : slice_get all c.loop-i.i ≡ Some c.index.result.now = slice_get_read all (length all) c.loop-i.i c.index.result.now refl (omega arith) c.index.ensures in
    counted_next (AddsParts (λ b. Block b)) all c.loop-i.i c.index.result.now c.args.parts.now.items c.loop-i.parts.items c.push.new.self.items at (parts_step (λ b. Block b) c.index.result.now c.loop-i.parts.items c.push.new.self.items c.in_ok-push.ensures.items) c.loop-i.invariant

pub returns-clause-ok : goal.returns-clause-ok
returns-clause-ok c =
    counted_end (AddsParts (λ b. Block b)) c.list_regions.new.blocks.items c.loop-i.i c.args.parts.now.items c.loop-i.parts.items (omega arith) (parts_none (λ b. Block b) c.loop-i.parts.items) c.loop-i.invariant
    ∙ ap (λ bs. c.args.parts.now.items ++ map (λ b. Block b) bs) (c.in_ok-list_regions.ensures.ok ∙ ap (λ bs. bs ++ blocks_directly_in c.args.ctx.now.tree c.args.op) c.new-blocks.ensures.items)

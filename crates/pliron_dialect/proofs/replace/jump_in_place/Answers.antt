use Rattle.std.proofs.Common.{◌∙◌, ap, ◌∷◌, []}
use Rattle.std.proofs.lemmas.Result.{on_ok_weaker}
use Rattle.std.specs.List.{range_with_len}
use Rattle.pliron_core.specs.Tree.{operands_of}
use Rattle.pliron_laws.specs.Replacing.{branch_replaced}
use Rattle.pliron_dialect.proofs.JumpLemmas.{picked_in}
use Rattle.pliron_dialect.proofs.BranchReads.{becomes_jump}
use Rattle.pliron_dialect.proofs.replace.jump_in_place.Goals as goal

pub replace_by_jump-requires-clause-values : goal.replace_by_jump-requires-clause-values
replace_by_jump-requires-clause-values g c = λ v i.
    let places = c.places_at-places.result in
    picked_in (range_with_len places.first places.count) (operands_of c.args.ctx.now.tree c.args.op) c.in_ok-values.values.items v c.in_ok-values.ensures i

pub returns-clause-ok : goal.returns-clause-ok
returns-clause-ok g c =
    let t = c.args.ctx.now.tree in
    let places = c.places_at-places in
    let values = c.in_ok-values.values.items in
    let target = c.get_successor-target.result in
    on_ok_weaker _ (λ e. becomes_jump _ _ _ _ _ t c.replace_by_jump.new.ctx.tree c.args.op target c.args.edge (range_with_len places.result.first places.result.count) values c.get_successor-target.ensures.successor places.ensures.places c.in_ok-values.ensures (e ∙ ap (λ h. branch_replaced t c.args.op h values (target ∷ [])) c.jump_head.ensures)) c.replace_by_jump.ensures.ok

use Rattle.std.proofs.Common.{◌≡◌, [], length, ap, ◌∙◌}
use Rattle.pliron_core.specs.Tree.{Tree, regions_of}
use Rattle.pliron_rewrite_calls.proofs.Growing.{created_childless, outside_childless}
use Rattle.pliron_rewrite_calls.proofs.copying.make_like.Goals as goal

pub move_operation_to_end-requires-clause-outside : goal.move_operation_to_end-requires-clause-outside
move_operation_to_end-requires-clause-outside g c =
    let t = c.args.ctx.now.tree in
    let u = c.create.new.ctx.tree in
    let none : regions_of u c.in_ok-copy.copy ≡ [] = ap (regions_of u) c.in_ok-copy.ensures.key ∙ ap (λ (z : Tree). regions_of z (length t.operations)) c.in_ok-copy.ensures.ok ∙ created_childless t c.in_ok-head.head c.num_result-count.result in
    outside_childless u c.well_formed-2.ensures.tree c.in_ok-copy.copy c.args.to none

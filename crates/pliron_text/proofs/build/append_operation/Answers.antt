use Rattle.std.proofs.Common.{subst}
use Rattle.pliron_core.specs.Tree.{HoldsBlock}
use Rattle.pliron_core.specs.Writes.{after_creating}
use Rattle.pliron_text.proofs.BuildLemmas.{created-outside}
use Rattle.pliron_text.proofs.build.append_operation.Goals as goal

pub move_operation_to_end-requires-clause-outside : goal.move_operation_to_end-requires-clause-outside
move_operation_to_end-requires-clause-outside c = λ h.
    let t = c.args.ctx.now.tree in
    let made = c.in_ok-op.ensures.ok in
    created-outside t c.args.head c.args.results c.args.regions c.well_formed-2.ensures.tree c.args.block c.requires
    (subst (λ k. HoldsBlock (after_creating t c.args.head c.args.results c.args.regions) k c.args.block) c.in_ok-op.ensures.key (subst (λ z. HoldsBlock z c.in_ok-op.op c.args.block) made h))

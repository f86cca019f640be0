use Rattle.std.proofs.Common.{◌<◌, ◌-◌, sym, subst, length, suc}
use Rattle.std.specs.Option.{option_map_or}
use Rattle.pliron_core.specs.Tree.{IsLive}
use Rattle.pliron_core.specs.Walks.{contents}
use Rattle.pliron_core.proofs.WalkStepLemmas.{up_smaller}
use Rattle.pliron_opt_dce.proofs.WorkLemmas.{some_told}
use Rattle.pliron_opt_dce.proofs.around.find_top.Goals as goal

pub get_parent_op-above-requires-in-Some : goal.get_parent_op-above-requires-in-Some
get_parent_op-above-requires-in-Some c = c.loop-above.invariant c.in-Some.holder c.in-Some.is

pub loop-above-smaller : goal.loop-above-smaller
loop-above-smaller c =
    let t = c.args.ctx.now.tree in
    subst (λ o. option_map_or (λ z. suc (length t.operations - length (contents t z))) c.get_parent_op-above-in-Some.result 0 < option_map_or (λ z. suc (length t.operations - length (contents t z))) o 0) (sym c.in-Some.is) (up_smaller t c.well_formed-2.ensures.tree c.in-Some.holder c.get_parent_op-above-in-Some.result c.get_parent_op-above-in-Some.ensures.holder)

pub loop-above-init : goal.loop-above-init
loop-above-init c = λ k e. some_told (λ z. IsLive c.args.ctx.now.tree z) c.get_parent_op-above.ensures.live e

pub loop-above-preserved : goal.loop-above-preserved
loop-above-preserved c = λ k e. some_told (λ z. IsLive c.args.ctx.now.tree z) c.get_parent_op-above-in-Some.ensures.live e

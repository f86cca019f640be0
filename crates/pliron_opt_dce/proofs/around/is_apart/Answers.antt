use Rattle.std.proofs.Common.{◌<◌, ◌-◌, ◌∙◌, Some, sym, ap, subst, length, suc}
use Rattle.std.specs.Option.{option_map_or}
use Rattle.pliron_core.specs.Tree.{IsLive}
use Rattle.pliron_core.specs.Walks.{contents}
use Rattle.pliron_core.proofs.WalkStepLemmas.{up_smaller}
use Rattle.pliron_core.proofs.HoldingLemmas.{some_is}
use Rattle.pliron_core.proofs.EdgeLemmas.{same_key}
use Rattle.pliron_opt_dce.proofs.WorkLemmas.{some_told}
use Rattle.pliron_opt_dce.proofs.Reaches.{IsClimbing, key_differs, climb_starts, climb_more, climb_stops, climb_ends}
use Rattle.pliron_opt_dce.proofs.around.is_apart.Goals as goal

pub get_parent_op-above-requires : goal.get_parent_op-above-requires
get_parent_op-above-requires c = c.loop-above.invariant.live c.in-Some-above.holder c.in-Some-above.is

pub loop-above-smaller : goal.loop-above-smaller
loop-above-smaller c =
    let t = c.args.ctx.now.tree in
    subst (λ o. option_map_or (λ z. suc (length t.operations - length (contents t z))) c.get_parent_op-above.result 0 < option_map_or (λ z. suc (length t.operations - length (contents t z))) o 0) (sym c.in-Some-above.is) (up_smaller t c.well_formed-2.ensures.tree c.in-Some-above.holder c.get_parent_op-above.result c.get_parent_op-above.ensures.holder)

pub loop-above-init : goal.loop-above-init
loop-above-init c = record {
  live = λ k e. subst (IsLive c.args.ctx.now.tree) (some_is e) c.requires.user;
  climbs = climb_starts c.args.ctx.now.tree c.args.op c.args.user;
}

pub loop-above-preserved : goal.loop-above-preserved
loop-above-preserved c =
    let t = c.args.ctx.now.tree in
    record {
      live = λ k e. some_told (λ z. IsLive t z) c.get_parent_op-above.ensures.live e;
      climbs = climb_more t c.args.op c.args.user c.in-Some-above.holder (subst (IsClimbing t c.args.op c.args.user) c.in-Some-above.is c.loop-above.invariant.climbs) c.get_parent_op-above.result (key_differs c.in-Some-above.holder c.args.op c.eq.result c.eq.ensures c.if-eq.false) c.get_parent_op-above.ensures.holder;
    }

pub returns-then-eq-2 : goal.returns-then-eq-2
returns-then-eq-2 c =
    let t = c.args.ctx.now.tree in
    let same = same_key c.in-Some-above.holder c.in-Some.end (sym c.if-eq-2.true ∙ c.eq-in-Some-above.ensures) in
    λ e. climb_stops t c.args.op c.args.user c.in-Some-above.holder (subst (IsClimbing t c.args.op c.args.user) c.in-Some-above.is c.loop-above.invariant.climbs) c.well_formed-2.ensures.tree (sym c.get_parent_op.ensures.holder ∙ c.in-Some.is ∙ ap (λ z. Some z) (sym same))

pub returns : goal.returns
returns c = λ e. climb_ends c.args.ctx.now.tree c.args.op c.args.user c.loop-above.above c.in_default-above.is c.loop-above.invariant.climbs

use Rattle.std.proofs.Common.{◌≡◌, ◌<◌, ◌-◌, ◌∙◌, sym, subst, length, suc}
use Rattle.std.specs.Option.{option_map_or}
use Rattle.std.proofs.lemmas.Option.{same_Some}
use Rattle.pliron_core.specs.Tree.{IsWithin}
use Rattle.pliron_core.specs.Tree.IsInside.{Directly}
use Rattle.pliron_core.specs.Walks.{contents}
use Rattle.pliron_core.proofs.WalkLemmas.{holder_live, inside_step, inside_up, inside_trans}
use Rattle.pliron_core.proofs.NextLemmas.{keys_differ}
use Rattle.pliron_core.proofs.WalkStepLemmas.{up_smaller}
use Rattle.pliron_core.proofs.context.walk.Ptr+Operation.is_inside.Goals as goal

pub loop-above-init : goal.loop-above-init
loop-above-init c =
    let up = c.get_parent_op-above.ensures.holder in
    record {
      live = λ k e. holder_live _ c.well_formed-2.ensures.tree c.args.self k (sym up ∙ e);
      inside = λ k e. Directly (sym up ∙ e);
      reached = λ u. let s = inside_step c.args.ctx.now.tree c.args.op c.args.self u in (s.0, up ∙ s.1, s.2);
    }

pub loop-above-smaller : goal.loop-above-smaller
loop-above-smaller c =
    let t = c.args.ctx.now.tree in
    subst (λ o. option_map_or (λ z. suc (length t.operations - length (contents t z))) c.get_parent_op-above-in-Some.result 0 < option_map_or (λ z. suc (length t.operations - length (contents t z))) o 0) (sym c.in-Some.is) (up_smaller t c.well_formed-2.ensures.tree c.in-Some.holder c.get_parent_op-above-in-Some.result c.get_parent_op-above-in-Some.ensures.holder)

pub loop-above-preserved : goal.loop-above-preserved
loop-above-preserved c =
    let up = c.get_parent_op-above-in-Some.ensures.holder in
    record {
      live = λ k e. holder_live _ c.well_formed-2.ensures.tree c.in-Some.holder k (sym up ∙ e);
      inside = λ k e. inside_trans c.args.ctx.now.tree k c.in-Some.holder c.args.self (Directly (sym up ∙ e)) (c.loop-above.invariant.inside c.in-Some.holder c.in-Some.is);
      reached = λ u.
          let r = c.loop-above.invariant.reached u in
          let here : r.0 ≡ c.in-Some.holder = same_Some r.0 c.in-Some.holder (sym r.1 ∙ c.in-Some.is) in
          let further = inside_up c.args.ctx.now.tree c.args.op c.in-Some.holder (subst (IsWithin c.args.ctx.now.tree c.args.op) here r.2) (keys_differ c.in-Some.holder c.args.op c.if-eq.ensures) in
          (further.0, up ∙ further.1, further.2);
    }

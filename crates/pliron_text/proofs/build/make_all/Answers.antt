use Rattle.std.proofs.Common.{rules, ◌≡◌, ◌+◌, ◌<◌, length, get_or, drop, sym, ap, ◌∙◌, subst}
use Rattle.pliron_text.specs.Building.{AreLive, BuildingContinues, HasMade}
use Rattle.std.proofs.lemmas.Option.{slice_get_within, get_or_from_slice_get}
use Rattle.pliron_text.specs.declared.syntax.SyntaxStep.TheVariants.{Operation}
use Rattle.pliron_text.specs.declared.syntax.MadeCounts.{MadeCounts}
use Rattle.pliron_text.specs.Notation.{IsOrdered}
use Rattle.pliron_text.proofs.CheckLemmas.{ordered-next, operation-at, block-at, made-operation, made-block}
use Rattle.pliron_text.specs.Laid.{LaysOn}
use Rattle.pliron_text.proofs.LaidLemmas.{lays-operation, lays-block}
use Rattle.pliron_text.proofs.BuildLemmas.{goes-trans}
use Rattle.pliron_text.proofs.build.make_all.Goals.{in-Operation+in_ok-add_operation-in-Operation, in-Block+in_ok-add_block-in-Block}
use Rattle.pliron_text.proofs.build.make_all.Goals as goal

pub index-requires : goal.index-requires
index-requires c =
    let s = c.args.syntax.now in
    let i = c.loop-step.step-index in
    let inv = c.loop-step.invariant.2 in
    let lt : i < length s.steps.items = subst (λ z. i < length z) c.deref-step-items.ensures.value c.loop-step-test.true in
    let next = ordered-next s inv.0 s.steps.items i (Operation 0) lt inv.2 in
    let at = operation-at s inv.0 next.0 (get_or s.steps.items i (Operation 0)) c.in-Operation.number next.1 (sym (ap (λ z. get_or z i (Operation 0)) c.deref-step-items.ensures.value) ∙ c.in-Operation.is) in
    let less : c.in-Operation.number < length s.operations.items = slice_get_within s.operations.items c.in-Operation.number at.0 at.1 in
    search (rules, less)

pub add_operation-requires-clause-block : goal.add_operation-requires-clause-block
add_operation-requires-clause-block c =
    let s = c.args.syntax.now in
    let i = c.loop-step.step-index in
    let inv = c.loop-step.invariant.2 in
    let lt : i < length s.steps.items = subst (λ z. i < length z) c.deref-step-items.ensures.value c.loop-step-test.true in
    let next = ordered-next s inv.0 s.steps.items i (Operation 0) lt inv.2 in
    let at = operation-at s inv.0 next.0 (get_or s.steps.items i (Operation 0)) c.in-Operation.number next.1 (sym (ap (λ z. get_or z i (Operation 0)) c.deref-step-items.ensures.value) ∙ c.in-Operation.is) in
    let same : c.index.result.now ≡ at.0 = c.index.ensures ∙ get_or_from_slice_get s.operations.items c.in-Operation.number at.0 c.index.result.now at.1 in
    subst (λ t. t.block < length c.loop-step.built.blocks.items) (sym same) (subst (λ n. at.0.block < n) (sym inv.1.blocks) at.3)

pub returns-in_err-add_operation-in-Operation-clause-continues : goal.returns-in_err-add_operation-in-Operation-clause-continues
returns-in_err-add_operation-in-Operation-clause-continues c =
    goes-trans c.args.ctx.now.tree c.loop-step.ctx.tree c.add_operation.new.ctx.tree c.args.built.now c.loop-step.built c.add_operation.new.built c.loop-step.invariant.0 c.in_err-add_operation-in-Operation.ensures.continues

pub index-requires-in-Block : goal.index-requires-in-Block
index-requires-in-Block c =
    let s = c.args.syntax.now in
    let i = c.loop-step.step-index in
    let inv = c.loop-step.invariant.2 in
    let lt : i < length s.steps.items = subst (λ z. i < length z) c.deref-step-items.ensures.value c.loop-step-test.true in
    let next = ordered-next s inv.0 s.steps.items i (Operation 0) lt inv.2 in
    let at = block-at s inv.0 next.0 (get_or s.steps.items i (Operation 0)) c.in-Block.number next.1 (sym (ap (λ z. get_or z i (Operation 0)) c.deref-step-items.ensures.value) ∙ c.in-Block.is) in
    let less : c.in-Block.number < length s.blocks.items = slice_get_within s.blocks.items c.in-Block.number at.0 at.1 in
    search (rules, less)

pub add_block-requires-clause-region : goal.add_block-requires-clause-region
add_block-requires-clause-region c =
    let s = c.args.syntax.now in
    let i = c.loop-step.step-index in
    let inv = c.loop-step.invariant.2 in
    let lt : i < length s.steps.items = subst (λ z. i < length z) c.deref-step-items.ensures.value c.loop-step-test.true in
    let next = ordered-next s inv.0 s.steps.items i (Operation 0) lt inv.2 in
    let at = block-at s inv.0 next.0 (get_or s.steps.items i (Operation 0)) c.in-Block.number next.1 (sym (ap (λ z. get_or z i (Operation 0)) c.deref-step-items.ensures.value) ∙ c.in-Block.is) in
    let same : c.index-in-Block.result.now ≡ at.0 = c.index-in-Block.ensures ∙ get_or_from_slice_get s.blocks.items c.in-Block.number at.0 c.index-in-Block.result.now at.1 in
    subst (λ t. t.region < length c.loop-step.built.regions.items) (sym same) (subst (λ n. at.0.region < n) (sym inv.1.regions) at.3)

pub returns-in_err-add_block-in-Block-clause-continues : goal.returns-in_err-add_block-in-Block-clause-continues
returns-in_err-add_block-in-Block-clause-continues c =
    goes-trans c.args.ctx.now.tree c.loop-step.ctx.tree c.add_block.new.ctx.tree c.args.built.now c.loop-step.built c.add_block.new.built c.loop-step.invariant.0 c.in_err-add_block-in-Block.ensures.continues

pub loop-step-preserved : goal.loop-step-preserved
loop-step-preserved c =
    let s = c.args.syntax.now in
    let i = c.loop-step.step-index in
    let inv = c.loop-step.invariant.2 in
    let steps = s.steps.items in
    let lt : i < length steps = subst (λ z. i < length z) c.deref-step-items.ensures.value c.loop-step-test.true in
    let next = ordered-next s inv.0 steps i (Operation 0) lt inv.2 in
    let rest = drop (i + 1) steps in
    let old = c.loop-step.built in
    elim c.match-step.branch [
      | in-Operation+in_ok-add_operation-in-Operation w ↦
          let more = w.add_operation.new.built in
          let e = w.in_ok-add_operation-in-Operation.ensures in
          let at = operation-at s inv.0 next.0 (get_or steps i (Operation 0)) w.in-Operation.number next.1 (sym (ap (λ z. get_or z i (Operation 0)) c.deref-step-items.ensures.value) ∙ w.in-Operation.is) in
          let same : w.index.result.now ≡ at.0 = w.index.ensures ∙ get_or_from_slice_get s.operations.items w.in-Operation.number at.0 w.index.result.now at.1 in
          let made = made-operation old more inv.0 at.0 inv.1 e.operations e.blocks (e.regions ∙ ap (λ t. length old.regions.items + t.regions) same) (e.values ∙ ap (λ t. length old.values.items + t.results) same) in
          subst (λ z. BuildingContinues c.args.ctx.now.tree c.args.built.now z.tree c.match-step.built × AreLive z.tree c.match-step.built × ((m : MadeCounts) × HasMade c.match-step.built m × IsOrdered s m rest) × LaysOn s c.args.ctx.now.tree c.args.built.now z.tree c.match-step.built) (sym w.ctx-is)
          (subst (λ z. BuildingContinues c.args.ctx.now.tree c.args.built.now w.add_operation.new.ctx.tree z × AreLive w.add_operation.new.ctx.tree z × ((m : MadeCounts) × HasMade z m × IsOrdered s m rest) × LaysOn s c.args.ctx.now.tree c.args.built.now w.add_operation.new.ctx.tree z) (sym w.built-is) (
            goes-trans c.args.ctx.now.tree c.loop-step.ctx.tree w.add_operation.new.ctx.tree c.args.built.now old more c.loop-step.invariant.0 e.continues,
            e.all_in_place,
            (next.0, subst (HasMade more) (sym at.4) made, next.2),
            lays-operation s c.args.ctx.now.tree c.loop-step.ctx.tree w.add_operation.new.ctx.tree c.args.built.now old more inv.0 w.in-Operation.number at.0 w.index.result.now c.loop-step.invariant.3 inv.1 at.2 at.1 same e.laid,
          ))
      | in-Block+in_ok-add_block-in-Block w ↦
          let more = w.add_block.new.built in
          let e = w.in_ok-add_block-in-Block.ensures in
          let at = block-at s inv.0 next.0 (get_or steps i (Operation 0)) w.in-Block.number next.1 (sym (ap (λ z. get_or z i (Operation 0)) c.deref-step-items.ensures.value) ∙ w.in-Block.is) in
          let same : w.index-in-Block.result.now ≡ at.0 = w.index-in-Block.ensures ∙ get_or_from_slice_get s.blocks.items w.in-Block.number at.0 w.index-in-Block.result.now at.1 in
          let made = made-block old more inv.0 at.0 inv.1 e.operations e.blocks e.regions (e.values ∙ ap (λ t. length old.values.items + t.arguments) same) in
          subst (λ z. BuildingContinues c.args.ctx.now.tree c.args.built.now z.tree c.match-step.built × AreLive z.tree c.match-step.built × ((m : MadeCounts) × HasMade c.match-step.built m × IsOrdered s m rest) × LaysOn s c.args.ctx.now.tree c.args.built.now z.tree c.match-step.built) (sym w.ctx-is)
          (subst (λ z. BuildingContinues c.args.ctx.now.tree c.args.built.now w.add_block.new.ctx.tree z × AreLive w.add_block.new.ctx.tree z × ((m : MadeCounts) × HasMade z m × IsOrdered s m rest) × LaysOn s c.args.ctx.now.tree c.args.built.now w.add_block.new.ctx.tree z) (sym w.built-is) (
            goes-trans c.args.ctx.now.tree c.loop-step.ctx.tree w.add_block.new.ctx.tree c.args.built.now old more c.loop-step.invariant.0 e.continues,
            e.all_in_place,
            (next.0, subst (HasMade more) (sym at.4) made, next.2),
            lays-block s c.args.ctx.now.tree c.loop-step.ctx.tree w.add_block.new.ctx.tree c.args.built.now old more inv.0 w.in-Block.number at.0 w.index-in-Block.result.now c.loop-step.invariant.3 inv.1 at.2 at.1 same e.laid,
          ))
    ]

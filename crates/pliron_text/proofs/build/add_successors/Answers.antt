use Rattle.std.proofs.Common.{rules, length, get_or, refl, sym, subst, arith}
use Rattle.pliron_text.specs.Building.{BuildingContinues}
use Rattle.std.proofs.lemmas.Option.{slice_get_read}
use Rattle.pliron_text.specs.Laid.{HasMoreSuccessors}
use Rattle.pliron_text.proofs.WiredLemmas.{no-more-successors, one-more-successor}
use Rattle.pliron_text.proofs.BuildLemmas.{goes-refl, in-at, in-read, goes-trans, goes-successor, all_in_place-successor}
use Rattle.pliron_text.proofs.build.add_successors.Goals as goal

pub index-requires : goal.index-requires
index-requires c = let lt = c.requires.successors (get_or c.args.successors.now c.loop-number.number-index 0) (in-at c.args.successors.now c.loop-number.number-index c.loop-number-test.true) in search (rules, lt)

pub push_successor-requires-clause-block : goal.push_successor-requires-clause-block
push_successor-requires-clause-block c =
    let number = get_or c.args.successors.now c.loop-number.number-index 0 in
    let lt = c.requires.successors number (in-at c.args.successors.now c.loop-number.number-index c.loop-number-test.true) in
    c.loop-number.invariant.1.blocks c.index.result.now (in-read c.args.built.now.blocks.items number c.index.result.now lt c.index.ensures)

pub returns-in_err-push_successor-clause-continues : goal.returns-in_err-push_successor-clause-continues
returns-in_err-push_successor-clause-continues c = subst (λ z. BuildingContinues c.args.ctx.now.tree c.args.built.now z.tree c.args.built.now) (sym c.in_err-push_successor.ensures.err) c.loop-number.invariant.0

pub loop-number-preserved : goal.loop-number-preserved
loop-number-preserved c =
    let t = c.loop-number.ctx.tree in
    let u = c.push_successor.new.ctx.tree in
    let built = c.args.built.now in
    let number = get_or c.args.successors.now c.loop-number.number-index 0 in
    let here = in-at c.args.successors.now c.loop-number.number-index c.loop-number-test.true in (
      goes-trans c.args.ctx.now.tree t u built built built c.loop-number.invariant.0 (goes-successor t u built c.args.op c.index.result.now c.in_ok-push_successor.ensures.ok c.requires.op),
      all_in_place-successor t u built c.args.op c.index.result.now c.in_ok-push_successor.ensures.ok c.loop-number.invariant.1,
      one-more-successor built c.args.ctx.now.tree t c.args.op c.index.result.now number c.loop-number.number-index c.args.successors.now c.well_formed-in-loop-number.ensures.tree (c.loop-number.invariant.1.operations c.args.op c.requires.op) c.loop-number.invariant.2 here
          (slice_get_read built.blocks.items (length built.blocks.items) number c.index.result.now refl (c.requires.successors number here) c.index.ensures) u c.in_ok-push_successor.ensures.ok,
    )

pub loop-number-init : goal.loop-number-init
loop-number-init c = (goes-refl c.args.ctx.now.tree c.args.built.now, c.requires.all_in_place, no-more-successors c.args.built.now c.args.ctx.now.tree c.args.op c.args.successors.now)

pub returns-clause-added : goal.returns-clause-added
returns-clause-added c = subst (λ n. HasMoreSuccessors c.args.built.now c.args.ctx.now.tree c.loop-number.ctx.tree c.args.op n c.args.successors.now) (omega arith) c.loop-number.invariant.2

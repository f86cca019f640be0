use Rattle.std.proofs.Common.{rules, get_or, sym, subst, arith}
use Rattle.pliron_text.specs.Building.{BuildingContinuesAt, IsExtended}
use Rattle.pliron_text.specs.Laid.{HasMoreOperands}
use Rattle.pliron_text.proofs.WiredLemmas.{no-more-operands, one-more-operand}
use Rattle.pliron_text.proofs.GrowthLemmas.{more-live, more-operand}
use Rattle.pliron_text.proofs.BuildLemmas.{goes-refl-at, in-at, in-read, goes-trans-at, goes-operand, all_in_place-operand}
use Rattle.pliron_text.proofs.build.add_operands.Goals as goal

pub index-requires : goal.index-requires
index-requires c = let lt = c.requires.operands (get_or c.args.operands.now c.loop-number.number-index 0) (in-at c.args.operands.now c.loop-number.number-index c.loop-number-test.true) in search (rules, lt)

pub push_operand-requires-clause-value : goal.push_operand-requires-clause-value
push_operand-requires-clause-value c =
    let number = get_or c.args.operands.now c.loop-number.number-index 0 in
    let lt = c.requires.operands number (in-at c.args.operands.now c.loop-number.number-index c.loop-number-test.true) in
    c.loop-number.invariant.1.values c.index.result.now (in-read c.args.built.now.values.items number c.index.result.now lt c.index.ensures)

pub returns-in_err-push_operand-clause-continues : goal.returns-in_err-push_operand-clause-continues
returns-in_err-push_operand-clause-continues c = subst (λ z. BuildingContinuesAt c.args.op c.args.ctx.now.tree c.args.built.now z.tree c.args.built.now) (sym c.in_err-push_operand.ensures.err) c.loop-number.invariant.0

pub loop-number-preserved : goal.loop-number-preserved
loop-number-preserved c =
    let t = c.loop-number.ctx.tree in
    let u = c.push_operand.new.ctx.tree in
    let built = c.args.built.now in (
      goes-trans-at c.args.op c.args.ctx.now.tree t u built built built c.loop-number.invariant.0 (goes-operand t u built c.args.op c.index.result.now c.in_ok-push_operand.ensures.ok),
      all_in_place-operand t u built c.args.op c.index.result.now c.in_ok-push_operand.ensures.ok c.loop-number.invariant.1,
      more-live t u (subst (IsExtended t) (sym c.in_ok-push_operand.ensures.ok) (more-operand t c.args.op c.index.result.now)) c.args.op c.loop-number.invariant.2,
      one-more-operand c.args.ctx.now.tree t c.args.op c.index.result.now c.loop-number.number-index c.well_formed-in-loop-number.ensures.tree c.loop-number.invariant.2 c.loop-number.invariant.3 u c.in_ok-push_operand.ensures.ok,
    )

pub loop-number-init : goal.loop-number-init
loop-number-init c = (goes-refl-at c.args.op c.args.ctx.now.tree c.args.built.now, c.requires.all_in_place, c.requires.live, no-more-operands c.args.ctx.now.tree c.args.op)

pub returns-clause-added : goal.returns-clause-added
returns-clause-added c = subst (HasMoreOperands c.args.ctx.now.tree c.loop-number.ctx.tree c.args.op) (omega arith) c.loop-number.invariant.3

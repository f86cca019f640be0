use Rattle.std.proofs.Common.{arith}
use Rattle.pliron_laws.proofs.AnswerLemmas.{no, refuted}
use Rattle.pliron_opt_dce.specs.Readiness.{IsReadyArgument}
use Rattle.pliron_opt_dce.proofs.ReadyTests.{no_use, some_use, argument_told, ready_loses, ready_led}
use Rattle.pliron_opt_dce.proofs.ready.is_ready_argument.Goals as goal

pub returns-then-num_use-ne0 : goal.returns-then-num_use-ne0
returns-then-num_use-ne0 g c = no (IsReadyArgument g.D.HasMeaning.meaning g.D.BlockArgRemoval.removable c.args.ctx.now.tree c.args.root c.args.value) (λ r.
    let u = some_use c.args.ctx.now.tree c.args.ctx.now.value_uses c.args.value c.well_formed-2.ensures.uses.value_uses (λ e. grind (arith, c.num_use.ensures, c.if-num_use-ne0.true, e)) in
    r.none u.0 u.1)

pub returns-then-not-may_lose : goal.returns-then-not-may_lose
returns-then-not-may_lose g c =
    let m = g.D.HasMeaning.meaning in
    let t = c.args.ctx.now.tree in
    no (IsReadyArgument m g.D.BlockArgRemoval.removable t c.args.root c.args.value) (λ r.
    refuted c.may_lose.result c.if-not-may_lose.true (c.may_lose.ensures.1 (ready_loses m g.D.BlockArgRemoval.removable t c.args.root c.args.value c.well_formed-2.ensures.tree c.in-Argument.block c.in-Argument.field-1 c.in-Argument.ensures.definition c.parent_operation_of-holder.result c.parent_operation_of-holder.ensures.holder r)))

pub are_branches_of-requires-clause-inside : goal.are_branches_of-requires-clause-inside
are_branches_of-requires-clause-inside g c = (c.parent_operation_of-holder.result, c.parent_operation_of-holder.ensures.holder, c.is_within.ensures.0 c.if-not-is_within.false)

pub returns : goal.returns
returns g c =
    let m = g.D.HasMeaning.meaning in
    let t = c.args.ctx.now.tree in
    let w = c.well_formed-2.ensures.tree in
    let d = c.in-Argument.ensures.definition in (
      (λ e. argument_told m g.D.BlockArgRemoval.removable t c.args.root c.args.value w c.in-Argument.block c.in-Argument.field-1 d c.parent_operation_of-holder.result c.parent_operation_of-holder.ensures.holder (c.is_live.ensures.0 c.if-not-is_live.false) (no_use t c.args.ctx.now.value_uses c.args.value c.well_formed-2.ensures.uses.value_uses (grind (arith, c.num_use.ensures, c.if-num_use-ne0.false))) (c.is_within.ensures.0 c.if-not-is_within.false) (c.may_lose.ensures.0 c.if-not-may_lose.false) (c.are_branches_of.ensures.0 e)),
      (λ r. c.are_branches_of.ensures.1 (ready_led m g.D.BlockArgRemoval.removable t c.args.root c.args.value w c.in-Argument.block c.in-Argument.field-1 d c.parent_operation_of-holder.result c.parent_operation_of-holder.ensures.holder r)),
    )

use Rattle.std.proofs.Common.{◌<◌, ◌-◌, Some, sym, subst, length, suc}
use Rattle.std.specs.Option.{option_map_or}
use Rattle.pliron_core.specs.Tree.{In, IsLive}
use Rattle.pliron_core.specs.Walks.{contents}
use Rattle.pliron_core.proofs.WalkStepLemmas.{up_smaller}
use Rattle.pliron_opt_dce.specs.Worklist.{AreClosedUnderNesting, AddsParents}
use Rattle.pliron_opt_dce.proofs.AroundSets.{IsRising, rising_starts, rising_more, rising_stops, rising_ends}
use Rattle.pliron_opt_dce.proofs.WorkLemmas.{some_told}
use Rattle.pliron_opt_dce.proofs.worklist.push_around.Goals as goal

pub loop-holder-init : goal.loop-holder-init
loop-holder-init c = record {
  live = λ k e. some_told (λ z. IsLive c.args.ctx.now.tree z) c.requires.live e;
  rising = rising_starts c.args.ctx.now.tree c.args.value c.args.around.now.ops.items c.args.first c.requires.closed c.requires.around;
}

stops : (c : goal.Then-not-branch) → AddsParents c.args.ctx.now.tree c.args.value c.args.around.now.ops.items c.add.new.self.ops.items × AreClosedUnderNesting c.args.ctx.now.tree c.add.new.self.ops.items
stops c =
    let there = c.in_ok-add.ensures.there c.if-not-branch.true in
    let t = c.args.ctx.now.tree in
    let r : IsRising t c.args.value c.args.around.now.ops.items c.add.new.self.ops.items (Some c.in-Some.op) = subst (λ z. IsRising t c.args.value c.args.around.now.ops.items z (Some c.in-Some.op)) (sym there.1) (subst (λ z. IsRising t c.args.value c.args.around.now.ops.items c.loop-holder.around.ops.items z) c.in-Some.is c.loop-holder.invariant.rising) in
    rising_stops t c.well_formed-2.ensures.tree c.args.value c.args.around.now.ops.items c.requires.closed c.add.new.self.ops.items c.in-Some.op (c.loop-holder.invariant.live c.in-Some.op c.in-Some.is) (subst (In c.in-Some.op) (sym there.1) there.0) r

pub returns-then-not-branch-clause-adds_parents : goal.returns-then-not-branch-clause-adds_parents
returns-then-not-branch-clause-adds_parents c = (stops c).0

pub returns-then-not-branch-clause-closed : goal.returns-then-not-branch-clause-closed
returns-then-not-branch-clause-closed c = (stops c).1

pub get_parent_op-holder-requires : goal.get_parent_op-holder-requires
get_parent_op-holder-requires c = c.loop-holder.invariant.live c.in-Some.op c.in-Some.is

pub loop-holder-smaller : goal.loop-holder-smaller
loop-holder-smaller c =
    let t = c.args.ctx.now.tree in
    subst (λ o. option_map_or (λ z. suc (length t.operations - length (contents t z))) c.get_parent_op-holder.result 0 < option_map_or (λ z. suc (length t.operations - length (contents t z))) o 0) (sym c.in-Some.is) (up_smaller t c.well_formed-2.ensures.tree c.in-Some.op c.get_parent_op-holder.result c.get_parent_op-holder.ensures.holder)

pub loop-holder-preserved : goal.loop-holder-preserved
loop-holder-preserved c =
    let t = c.args.ctx.now.tree in
    let more = c.in_ok-add.ensures.came c.if-not-branch.false in
    record {
      live = λ k e. some_told (λ z. IsLive t z) c.get_parent_op-holder.ensures.live e;
      rising = rising_more t c.well_formed-2.ensures.tree c.args.value c.args.around.now.ops.items c.loop-holder.around.ops.items c.add.new.self.ops.items c.in-Some.op c.get_parent_op-holder.result more c.get_parent_op-holder.ensures.holder (subst (λ z. IsRising t c.args.value c.args.around.now.ops.items c.loop-holder.around.ops.items z) c.in-Some.is c.loop-holder.invariant.rising);
    }

pub returns-clause-adds_parents : goal.returns-clause-adds_parents
returns-clause-adds_parents c = (rising_ends c.args.ctx.now.tree c.well_formed-2.ensures.tree c.args.value c.args.around.now.ops.items c.loop-holder.around.ops.items c.loop-holder.holder c.in_default.is c.loop-holder.invariant.rising).0

pub returns-clause-closed : goal.returns-clause-closed
returns-clause-closed c = (rising_ends c.args.ctx.now.tree c.well_formed-2.ensures.tree c.args.value c.args.around.now.ops.items c.loop-holder.around.ops.items c.loop-holder.holder c.in_default.is c.loop-holder.invariant.rising).1

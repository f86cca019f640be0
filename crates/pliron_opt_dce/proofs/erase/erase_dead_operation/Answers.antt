use Rattle.std.proofs.Common.{sym, subst}
use Rattle.pliron_core.specs.Invariant.{IsTree}
use Rattle.pliron_core.specs.Tree.{IsDefined}
use Rattle.pliron_opt_dce.specs.Readiness.{AreRecorded}
use Rattle.pliron_opt_dce.proofs.LiveOperands.{operand_lives}
use Rattle.pliron_opt_dce.proofs.ReadyTests.{ready_unused}
use Rattle.pliron_opt_dce.proofs.TakeLemmas.{op_live, op_contained, op_noted}
use Rattle.pliron_opt_dce.proofs.erase.erase_dead_operation.Goals as goal

pub list_operands_within-requires : goal.list_operands_within-requires
list_operands_within-requires g c = op_live g.D.HasMeaning.meaning g.D.SideEffects.side_effects c.args.ctx.now.tree c.args.root c.args.op c.well_formed-2.ensures.tree c.requires.linked g.met.D.Dialect.keeps_counts g.D.BlockArgRemoval.removable g.met.D.Dialect.gives_at_once c.requires.ready

pub erase_operation-requires-clause-live : goal.erase_operation-requires-clause-live
erase_operation-requires-clause-live g c = op_live g.D.HasMeaning.meaning g.D.SideEffects.side_effects c.args.ctx.now.tree c.args.root c.args.op c.well_formed-2.ensures.tree c.requires.linked g.met.D.Dialect.keeps_counts g.D.BlockArgRemoval.removable g.met.D.Dialect.gives_at_once c.requires.ready

pub erase_operation-requires-clause-contained : goal.erase_operation-requires-clause-contained
erase_operation-requires-clause-contained g c = op_contained g.D.HasMeaning.meaning g.D.SideEffects.side_effects c.args.ctx.now.tree c.args.root c.args.op c.well_formed-2.ensures.tree c.requires.linked g.met.D.Dialect.keeps_counts g.D.BlockArgRemoval.removable g.met.D.Dialect.gives_at_once c.requires.ready

pub returns-clause-noted : goal.returns-clause-noted
returns-clause-noted g c =
    subst (λ z. AreRecorded c.args.ctx.now.tree z c.list_operands_within.new.values.items) (sym c.erase_operation.ensures.erased)
    (op_noted g.D.HasMeaning.meaning g.D.SideEffects.side_effects c.args.ctx.now.tree c.args.root c.args.op c.well_formed-2.ensures.tree c.requires.linked g.met.D.Dialect.keeps_counts g.D.BlockArgRemoval.removable g.met.D.Dialect.gives_at_once c.requires.ready c.list_operands_within.new.values.items c.in_ok-list_operands_within.ensures.all)

pub returns-clause-live : goal.returns-clause-live
returns-clause-live g c = λ few v i.
    let t = c.args.ctx.now.tree in
    let w = c.well_formed-2.ensures.tree in
    let live = op_live g.D.HasMeaning.meaning g.D.SideEffects.side_effects t c.args.root c.args.op w c.requires.linked g.met.D.Dialect.keeps_counts g.D.BlockArgRemoval.removable g.met.D.Dialect.gives_at_once c.requires.ready in
    let contained = op_contained g.D.HasMeaning.meaning g.D.SideEffects.side_effects t c.args.root c.args.op w c.requires.linked g.met.D.Dialect.keeps_counts g.D.BlockArgRemoval.removable g.met.D.Dialect.gives_at_once c.requires.ready in
    let deleted = c.erase_operation.ensures.erased in
    subst (λ z. IsDefined z v) (sym deleted)
    (operand_lives t w c.args.op (subst IsTree deleted c.well_formed-3.ensures.tree) live contained (ready_unused g.D.HasMeaning.meaning g.D.SideEffects.side_effects t c.args.root c.args.op c.requires.ready) few v (c.in_ok-list_operands_within.ensures.leaf few v i))

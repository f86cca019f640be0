use Rattle.std.proofs.Common.{◌≡◌, ◌<◌, [], length, slice_get, sym, ap, ◌∙◌, subst, arith}
use Rattle.std.proofs.lemmas.List.{length-map}
use Rattle.pliron_core.specs.Tree.{uses_of}
use Rattle.pliron_opt_dce.specs.Readiness.{AreRecorded}
use Rattle.pliron_opt_dce.specs.Incoming.{edge_of_incoming, edges_of, HavePlaces}
use Rattle.pliron_opt_dce.proofs.TakeLemmas.{edge_live, are_of_branches, lost_block, lost_arguments, lost_no_uses, noted, have_places, argument_at, told_if_some}
use Rattle.pliron_opt_dce.proofs.erase.erase_dead_argument.Goals as goal

pub lose_operands-requires-clause-branches : goal.lose_operands-requires-clause-branches
lose_operands-requires-clause-branches g c =
    let v = argument_at c.args.ctx.now.tree c.args.block c.args.index c.requires.index in
    are_of_branches _ _ _ _ g.met.D.Dialect.forwards_operands (λ h h' s. s.branch) g.D.BlockArgRemoval.removable c.args.ctx.now.tree (edges_of c.args.edges.now) c.args.root c.args.block c.args.index v.0 c.well_formed-2.ensures.tree c.requires.edges.complete c.requires.linked v.1 (c.requires.ready v.0 v.1)

pub lose_operands-requires-clause-count : goal.lose_operands-requires-clause-count
lose_operands-requires-clause-count g c =
    let l = c.in_ok-used.ensures.used.within in
    let long = length-map c.args.edges.now (λ e. edge_of_incoming e) in
    let n = c.len.ensures in
    omega (arith, l, long, n)

pub lose_operands-requires-clause-places : goal.lose_operands-requires-clause-places
lose_operands-requires-clause-places g c =
    let v = argument_at c.args.ctx.now.tree c.args.block c.args.index c.requires.index in
    let many : length c.in_ok-used.used.items ≡ c.len.result = (let n = c.len.ensures in omega (arith, n)) in
    subst (HavePlaces g.D.HasMeaning.meaning c.args.ctx.now.tree c.args.index (edges_of c.args.edges.now)) many
    (have_places g.D.HasMeaning.meaning c.args.ctx.now.tree c.args.index (edges_of c.args.edges.now) c.in_ok-used.used.items (λ i e q. edge_live _ _ _ _ g.met.D.Dialect.forwards_operands (λ h h' s. s.branch) g.D.BlockArgRemoval.removable c.args.ctx.now.tree (edges_of c.args.edges.now) c.args.root c.args.block c.args.index v.0 c.well_formed-2.ensures.tree c.requires.edges.complete c.requires.linked v.1 (c.requires.ready v.0 v.1) i e q) c.in_ok-used.ensures.used)

pub remove_argument-requires-clause-block : goal.remove_argument-requires-clause-block
remove_argument-requires-clause-block g c =
    let v = argument_at c.args.ctx.now.tree c.args.block c.args.index c.requires.index in
    lost_block _ _ _ _ g.met.D.Dialect.forwards_operands (λ h h' s. s.branch) g.D.BlockArgRemoval.removable c.args.ctx.now.tree (edges_of c.args.edges.now) c.args.root c.args.block c.args.index v.0 c.well_formed-2.ensures.tree c.requires.edges.complete c.requires.linked v.1 (c.requires.ready v.0 v.1) c.lose_operands.new.ctx.tree c.lose_operands.ensures.lost c.requires.block

pub remove_argument-requires-clause-index : goal.remove_argument-requires-clause-index
remove_argument-requires-clause-index g c =
    let v = argument_at c.args.ctx.now.tree c.args.block c.args.index c.requires.index in
    subst (λ z. c.args.index < length z) (sym (lost_arguments _ _ _ _ g.met.D.Dialect.forwards_operands (λ h h' s. s.branch) g.D.BlockArgRemoval.removable c.args.ctx.now.tree (edges_of c.args.edges.now) c.args.root c.args.block c.args.index v.0 c.well_formed-2.ensures.tree c.requires.edges.complete c.requires.linked v.1 (c.requires.ready v.0 v.1) c.lose_operands.new.ctx.tree c.lose_operands.ensures.lost)) c.requires.index

pub remove_argument-requires-clause-unused : goal.remove_argument-requires-clause-unused
remove_argument-requires-clause-unused g c =
    let v = argument_at c.args.ctx.now.tree c.args.block c.args.index c.requires.index in
    let same = lost_arguments _ _ _ _ g.met.D.Dialect.forwards_operands (λ h h' s. s.branch) g.D.BlockArgRemoval.removable c.args.ctx.now.tree (edges_of c.args.edges.now) c.args.root c.args.block c.args.index v.0 c.well_formed-2.ensures.tree c.requires.edges.complete c.requires.linked v.1 (c.requires.ready v.0 v.1) c.lose_operands.new.ctx.tree c.lose_operands.ensures.lost in
    told_if_some (λ z. uses_of c.lose_operands.new.ctx.value_uses z ≡ []) (ap (λ z. slice_get z c.args.index) same ∙ v.1)
    (lost_no_uses _ _ _ _ g.met.D.Dialect.forwards_operands (λ h h' s. s.branch) g.D.BlockArgRemoval.removable c.args.ctx.now.tree (edges_of c.args.edges.now) c.args.root c.args.block c.args.index v.0 c.well_formed-2.ensures.tree c.requires.edges.complete c.requires.linked v.1 (c.requires.ready v.0 v.1) c.lose_operands.new.ctx.tree c.lose_operands.ensures.lost c.lose_operands.new.ctx.value_uses c.well_formed-3.ensures.uses.value_uses)

pub returns-clause-noted : goal.returns-clause-noted
returns-clause-noted g c =
    let v = argument_at c.args.ctx.now.tree c.args.block c.args.index c.requires.index in
    subst (λ z. AreRecorded c.args.ctx.now.tree z c.in_ok-used.used.items) (sym (ap (λ z. z.tree) c.remove_argument.ensures))
    (noted _ _ _ _ g.met.D.Dialect.forwards_operands (λ h h' s. s.branch) g.D.BlockArgRemoval.removable c.args.ctx.now.tree (edges_of c.args.edges.now) c.args.root c.args.block c.args.index v.0 c.well_formed-2.ensures.tree c.requires.edges.complete c.requires.linked v.1 (c.requires.ready v.0 v.1) c.lose_operands.new.ctx.tree c.lose_operands.ensures.lost c.in_ok-used.used.items c.in_ok-used.ensures.used)

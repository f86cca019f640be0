use Rattle.std.proofs.Common.{rules, ◌+◌, OnOk, inl, refl, sym, subst, arith}
use Rattle.pliron_opt_cse.specs.Merges.{MergeInTurn}
use Rattle.pliron_opt_cse.specs.Leaders.{leader_with}
use Rattle.pliron_opt_cse.specs.MergingSteps.{IsMergedUpTo}
use Rattle.pliron_opt_cse.proofs.MergeLoop.{merging_start, merging_next, merging_end, refused_way, refused_merged}
use Rattle.pliron_opt_cse.proofs.merge.merge_all.Goals as goal

pub loop-place-init : goal.loop-place-init
loop-place-init g c = merging_start g.D.HasMeaning.meaning g.D.SideEffects.side_effects g.met.D.Dialect.keeps_counts g.met.D.Dialect.gives_at_once c.args.ctx.now.tree c.args.root c.requires.live c.requires.linked c.args.order.now.operations.items c.args.order.now.ends.items (λ key. leader_with c.new-leaders.result key) c.requires.ordered

pub loop-place-preserved : goal.loop-place-preserved
loop-place-preserved g c =
    let m = g.D.HasMeaning.meaning in
    let se = g.D.SideEffects.side_effects in
    let ops = c.args.order.now.operations.items in
    let ends = c.args.order.now.ends.items in
    let next = merging_next m se g.met.D.Dialect.keeps_counts g.met.D.Dialect.gives_at_once c.args.ctx.now.tree c.args.root c.requires.live c.requires.linked ops ends c.loop-place.ctx.tree c.loop-place.place (λ key. leader_with c.loop-place.leaders key) (λ key. leader_with c.merge_at-outcome.new.leaders key) c.loop-place.status c.well_formed-in-loop-place.ensures.tree (omega (arith, c.loop-place-test.true, c.len-place-end.ensures)) c.loop-place.invariant c.merge_at-outcome.new.ctx.tree c.in_ok-merged.merged c.well_formed-in-loop-place-2.ensures.tree c.in_ok-merged.ensures.merged c.in_ok-merged.ensures.leaders in
    subst (λ z. IsMergedUpTo m se c.args.ctx.now.tree c.merge_at-outcome.new.ctx.tree c.args.root ops ends (c.loop-place.place + 1) (λ key. leader_with c.merge_at-outcome.new.leaders key) z) (sym c.status_with-status.ensures) next

pub merge_at-outcome-requires-clause-ordered : goal.merge_at-outcome-requires-clause-ordered
merge_at-outcome-requires-clause-ordered g c = (c.args.root, c.loop-place.invariant.ordered)

pub returns-clause-way : goal.returns-clause-way
returns-clause-way g c = c.loop-place.invariant.way

pub returns-clause-accurate : goal.returns-clause-accurate
returns-clause-accurate g c = c.loop-place.invariant.accurate

pub returns-clause-merged : goal.returns-clause-merged
returns-clause-merged g c =
    let h = c.loop-place.invariant.merged in
    (h.0, (c.loop-place.ctx.tree, h.1, inl refl), h.1)

pub returns-clause-none : goal.returns-clause-none
returns-clause-none g c = (merging_end g.D.HasMeaning.meaning g.D.SideEffects.side_effects g.met.D.Dialect.keeps_counts g.met.D.Dialect.gives_at_once c.args.ctx.now.tree c.args.root c.requires.live c.requires.linked c.args.order.now.operations.items c.args.order.now.ends.items c.loop-place.ctx.tree c.loop-place.place (λ key. leader_with c.loop-place.leaders key) c.loop-place.status c.well_formed-2.ensures.tree (omega (arith, c.loop-place-test.false, c.len-place-end.ensures)) c.loop-place.invariant).0

pub returns-clause-status : goal.returns-clause-status
returns-clause-status g c = (merging_end g.D.HasMeaning.meaning g.D.SideEffects.side_effects g.met.D.Dialect.keeps_counts g.met.D.Dialect.gives_at_once c.args.ctx.now.tree c.args.root c.requires.live c.requires.linked c.args.order.now.operations.items c.args.order.now.ends.items c.loop-place.ctx.tree c.loop-place.place (λ key. leader_with c.loop-place.leaders key) c.loop-place.status c.well_formed-2.ensures.tree (omega (arith, c.loop-place-test.false, c.len-place-end.ensures)) c.loop-place.invariant).1

pub returns-in_err-merged-clause-way : goal.returns-in_err-merged-clause-way
returns-in_err-merged-clause-way g c =
    refused_way g.D.HasMeaning.meaning g.D.SideEffects.side_effects g.met.D.Dialect.keeps_counts g.met.D.Dialect.gives_at_once c.args.ctx.now.tree c.args.root c.requires.live c.requires.linked c.args.order.now.operations.items c.args.order.now.ends.items c.loop-place.ctx.tree c.loop-place.place (λ key. leader_with c.loop-place.leaders key) (λ key. leader_with c.merge_at-outcome.new.leaders key) c.loop-place.status c.well_formed-in-loop-place.ensures.tree (omega (arith, c.loop-place-test.true, c.len-place-end.ensures)) c.loop-place.invariant c.merge_at-outcome.new.ctx.tree c.well_formed-in-loop-place-2.ensures.tree c.in_err-merged.ensures.refused

pub returns-in_err-merged-clause-merged : goal.returns-in_err-merged-clause-merged
returns-in_err-merged-clause-merged g c =
    let r = refused_merged g.D.HasMeaning.meaning g.D.SideEffects.side_effects g.met.D.Dialect.keeps_counts g.met.D.Dialect.gives_at_once c.args.ctx.now.tree c.args.root c.requires.live c.requires.linked c.args.order.now.operations.items c.args.order.now.ends.items c.loop-place.ctx.tree c.loop-place.place (λ key. leader_with c.loop-place.leaders key) (λ key. leader_with c.merge_at-outcome.new.leaders key) c.loop-place.status c.well_formed-in-loop-place.ensures.tree (omega (arith, c.loop-place-test.true, c.len-place-end.ensures)) c.loop-place.invariant c.merge_at-outcome.new.ctx.tree c.in_err-merged.ensures.refused in
    let none : OnOk c.from_residual.result (MergeInTurn g.D.SideEffects.side_effects c.args.root r.0 c.args.ctx.now.tree c.merge_at-outcome.new.ctx.tree) = search rules in
    (r.0, r.1, none)

use Rattle.std.proofs.Common.{◌≡◌, true≢false, sym, ap, ◌∙◌, subst, refl, inl, inr, ⊎_elim, get_or, Some, IfNone, ℕ, arith}
use Rattle.pliron_core.specs.Tree.{IsLive}
use Rattle.pliron_laws.proofs.FoldLemmas.{on_err}
use Rattle.pliron_opt_cse.specs.Leaders.{leader_with}
use Rattle.pliron_opt_cse.specs.MergingSteps.{LeadsAt}
use Rattle.pliron_rewrite_equals.specs.Redundancy.{IsLeader}
use Rattle.pliron_rewrite_equals.specs.Merging.{IsPartlyMerged, after_merging}
use Rattle.pliron_opt_cse.proofs.Alone.{alone_other, alone_leads}
use Rattle.pliron_opt_cse.proofs.OnWay.{pair_of}
use Rattle.pliron_opt_cse.proofs.Merged.{near_leader}
use Rattle.pliron_opt_cse.proofs.merge.merge_at.Goals as goal

pub is_mergeable-requires : goal.is_mergeable-requires
is_mergeable-requires g c = subst (IsLive c.args.ctx.now.tree) (sym c.operation_at-op.ensures) (c.requires.ordered.1.left c.args.place (omega arith) c.requires.place)

pub key_of-requires : goal.key_of-requires
key_of-requires g c = subst (IsLive c.args.ctx.now.tree) (sym c.operation_at-op.ensures) (c.requires.ordered.1.left c.args.place (omega arith) c.requires.place)

pub leader_of-requires-clause-live : goal.leader_of-requires-clause-live
leader_of-requires-clause-live g c = c.requires.ordered.1.left c.args.place (omega arith) c.requires.place

pub returns-then-not-is_mergeable-clause-leaders : goal.returns-then-not-is_mergeable-clause-leaders
returns-then-not-is_mergeable-clause-leaders g c =
    alone_other g.D.SideEffects.side_effects c.args.ctx.now.tree c.args.order.now.operations.items c.args.order.now.ends.items c.args.place c.operation_at-op.result c.operation_at-op.ensures (λ key. leader_with c.args.leaders.now key)
    (λ r. true≢false (sym (c.is_mergeable.ensures.1 r) ∙ c.if-not-is_mergeable.true))

pub merge_into_leader-requires : goal.merge_into_leader-requires
merge_into_leader-requires g c =
    let t = c.args.ctx.now.tree in
    let ops = c.args.order.now.operations.items in
    let ends = c.args.order.now.ends.items in
    let se = g.D.SideEffects.side_effects in
    let w = c.well_formed-2.ensures.tree in
    let leads = c.in-Some.ensures.some in
    let leader = near_leader se t (get_or ops leads.0 0) (get_or ops c.args.place 0) w
    (pair_of se t w c.requires.ordered.0 ops ends leads.0 c.args.place (get_or ops leads.0 0) (get_or ops c.args.place 0) c.requires.ordered.1 leads.2.first c.requires.place leads.2.within refl refl leads.2.live leads.2.alike).leads in
    record { leads = subst (λ z. IsLeader se t z c.operation_at-op.result) (sym leads.1) (subst (IsLeader se t (get_or ops leads.0 0)) (sym c.operation_at-op.ensures) leader) }

pub returns-in-Some-clause-merged : goal.returns-in-Some-clause-merged
returns-in-Some-clause-merged g c =
    let leads = c.in-Some.ensures.some in
    (leads.0, leads.2, c.in_ok-merge_into_leader.ensures.ok ∙ ap (λ z. after_merging c.args.ctx.now.tree z c.operation_at-op.result) leads.1 ∙ ap (after_merging c.args.ctx.now.tree (get_or c.args.order.now.operations.items leads.0 0)) c.operation_at-op.ensures)

pub returns-in_err-merge_into_leader-clause-refused : goal.returns-in_err-merge_into_leader-clause-refused
returns-in_err-merge_into_leader-clause-refused g c =
    let t = c.args.ctx.now.tree in
    let leads = c.in-Some.ensures.some in
    let part = subst (λ z. IsPartlyMerged t c.merge_into_leader.new.ctx.tree z c.operation_at-op.result) leads.1 c.in_err-merge_into_leader.ensures.err in
    on_err _ c.from_residual-in_err-merge_into_leader.result (⊎_elim (λ e. inl e) (λ h. inr (leads.0, leads.2, h)) (subst (IsPartlyMerged t c.merge_into_leader.new.ctx.tree (get_or c.args.order.now.operations.items leads.0 0)) c.operation_at-op.ensures part))

pub returns-clause-leaders : goal.returns-clause-leaders
returns-clause-leaders g c =
    let t = c.args.ctx.now.tree in
    let live = subst (IsLive t) (sym c.operation_at-op.ensures) (c.requires.ordered.1.left c.args.place (omega arith) c.requires.place) in
    let none = subst (λ o. IfNone o ((i : ℕ) → leader_with c.args.leaders.now c.in_ok-key.key.items ≡ Some i → LeadsAt g.D.SideEffects.side_effects t c.args.order.now.operations.items c.args.order.now.ends.items i c.args.place → ⊥)) c.in_default.is c.leader_of.ensures.none in
    alone_leads g.D.SideEffects.side_effects t c.args.order.now.operations.items c.args.order.now.ends.items c.args.place c.operation_at-op.result c.operation_at-op.ensures (λ key. leader_with c.args.leaders.now key) (λ key. leader_with c.put.new.self key) c.in_ok-key.key.items c.in_ok-key.ensures.words c.requires.place live (c.is_mergeable.ensures.0 c.if-not-is_mergeable.false) none c.in_ok-put.ensures.put c.in_ok-put.ensures.others

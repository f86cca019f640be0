use Rattle.std.proofs.Common.{refl, rules, inl, inr, ◌↔◌, IsTrue, ◌++◌, ◌∷◌, List, [], IfOk, IfSome, IfNone, ⊎_elim, sym, subst}
use Rattle.pliron_opt_dce.specs.Dead.{Item}
use Rattle.pliron_opt_dce.specs.Erasing.{IsSweptSoFar, LeavesNoDead, ReportsErased, SomeHasRegions}
use Rattle.pliron_opt_dce.specs.Readiness.{IsReady}
use Rattle.pliron_opt_dce.specs.Worklist.{item_of}
use Rattle.pliron_opt_dce.specs.Predecessors.{mark_of_block}
use Rattle.pliron_opt_dce.proofs.IncomingLemmas.{marked_after}
use Rattle.pliron_opt_dce.proofs.SweepLemmas.{step_less}
use Rattle.pliron_opt_dce.proofs.Progress.{on_the_way, one_more, at_the_end, tells_more, edges_more, regions_more}
use Rattle.pliron_opt_dce.proofs.sweep.erase_all_dead.Goals as goal

pub loop-next-init : goal.loop-next-init
loop-next-init g c = record {
  way = ([], on_the_way _ _ _ _ g.met.D.Dialect.forwards_operands (λ h h' s. s.branch) g.met.D.Dialect.keeps_counts g.D.SideEffects.side_effects g.met.D.Dialect.gives_at_once g.D.BlockArgRemoval.removable g.met.D.Dialect.acts_without_argument c.args.ctx.now.tree c.args.root c.requires.live, refl, search rules);
  edges = λ n op before after. refl;
  all = c.requires.all;
  closed = c.requires.closed;
  known = c.requires.known;
  marked = c.requires.marked;
}

pub loop-next-smaller : goal.loop-next-smaller
loop-next-smaller g c =
    let ready = subst (λ o. IfSome o (λ next. IsReady g.D.HasMeaning.meaning g.D.SideEffects.side_effects g.D.BlockArgRemoval.removable c.loop-next.ctx.tree c.args.root (item_of next))) c.in-Some.is c.in_ok-next.ensures.some in
    step_less _ _ _ _ g.met.D.Dialect.forwards_operands (λ h h' s. s.branch) g.met.D.Dialect.keeps_counts g.D.SideEffects.side_effects g.met.D.Dialect.gives_at_once g.D.BlockArgRemoval.removable g.met.D.Dialect.acts_without_argument c.loop-next.ctx.tree c.erase_one-taken.new.ctx.tree c.args.root (item_of c.in-Some.next) c.well_formed-in-Some.ensures.tree c.well_formed-in-Some-2.ensures.tree (c.loop-next.invariant.way.1.linked c.args.root c.requires.linked c.loop-next.invariant.way.1.liveness) ready c.in_ok-had.ensures.goes

pub loop-next-preserved : goal.loop-next-preserved
loop-next-preserved g c =
    let ready = subst (λ o. IfSome o (λ next. IsReady g.D.HasMeaning.meaning g.D.SideEffects.side_effects g.D.BlockArgRemoval.removable c.loop-next.ctx.tree c.args.root (item_of next))) c.in-Some.is c.in_ok-next.ensures.some in
    let way = c.loop-next.invariant.way in
    record {
      way = (way.0 ++ item_of c.in-Some.next ∷ [], one_more _ _ _ _ g.met.D.Dialect.forwards_operands (λ h h' s. s.branch) g.met.D.Dialect.keeps_counts g.D.SideEffects.side_effects g.met.D.Dialect.gives_at_once g.D.BlockArgRemoval.removable g.met.D.Dialect.acts_without_argument c.args.ctx.now.tree c.loop-next.ctx.tree c.erase_one-taken.new.ctx.tree c.args.root way.0 (item_of c.in-Some.next) c.requires.linked c.well_formed-in-Some.ensures.tree c.well_formed-in-Some-2.ensures.tree way.1 ready c.in_ok-had.ensures.goes, tells_more way.0 (item_of c.in-Some.next), regions_more _ _ _ _ g.met.D.Dialect.forwards_operands (λ h h' s. s.branch) g.met.D.Dialect.keeps_counts g.D.SideEffects.side_effects g.met.D.Dialect.gives_at_once g.D.BlockArgRemoval.removable g.met.D.Dialect.acts_without_argument c.args.ctx.now.tree c.loop-next.ctx.tree c.erase_one-taken.new.ctx.tree c.args.root way.0 (item_of c.in-Some.next) c.loop-next.regions c.in_ok-had.had c.either-regions.result way.1 c.in_ok-had.ensures.goes way.3 c.in_ok-had.ensures.regions c.either-regions.ensures);
      edges = λ n. edges_more _ _ _ _ g.met.D.Dialect.forwards_operands (λ h h' s. s.branch) g.met.D.Dialect.keeps_counts g.D.SideEffects.side_effects g.met.D.Dialect.gives_at_once g.D.BlockArgRemoval.removable g.met.D.Dialect.acts_without_argument c.args.ctx.now.tree c.loop-next.ctx.tree c.erase_one-taken.new.ctx.tree c.args.root (item_of c.in-Some.next) c.well_formed-in-Some.ensures.tree c.well_formed-in-Some-2.ensures.tree (way.1.linked c.args.root c.requires.linked way.1.liveness) ready c.in_ok-had.ensures.goes (c.loop-next.invariant.edges (λ y. n (c.either-regions.ensures.1 (inl y)))) (λ y. n (c.either-regions.ensures.1 (inr (c.in_ok-had.ensures.regions.1 y))));
      all = c.in_ok-had.ensures.all;
      closed = c.in_ok-had.ensures.closed;
      known = c.in_ok-had.ensures.known;
      marked = marked_after _ _ _ _ g.met.D.Dialect.forwards_operands (λ h h' s. s.branch) g.met.D.Dialect.keeps_counts g.D.SideEffects.side_effects g.met.D.Dialect.gives_at_once g.D.BlockArgRemoval.removable c.loop-next.ctx.tree c.erase_one-taken.new.ctx.tree c.args.root (item_of c.in-Some.next) (λ b. mark_of_block c.args.predecessors.now b) c.well_formed-in-Some.ensures.tree c.well_formed-in-Some-2.ensures.tree (way.1.linked c.args.root c.requires.linked way.1.liveness) ready c.in_ok-had.ensures.goes c.loop-next.invariant.marked;
    }

pub returns-clause-deleted : goal.returns-clause-deleted
returns-clause-deleted g c =
    let w = c.loop-next.invariant.way in
    (w.0, w.1, (at_the_end _ _ _ _ g.met.D.Dialect.forwards_operands (λ h h' s. s.branch) g.met.D.Dialect.keeps_counts g.D.SideEffects.side_effects g.met.D.Dialect.gives_at_once g.D.BlockArgRemoval.removable g.met.D.Dialect.acts_without_argument c.args.ctx.now.tree c.loop-next.ctx.tree c.args.root w.0 w.1 (subst (λ o. IfNone o ((x : Item) → IsReady g.D.HasMeaning.meaning g.D.SideEffects.side_effects g.D.BlockArgRemoval.removable c.loop-next.ctx.tree c.args.root x → ⊥)) c.in_default.is c.in_ok-next.ensures.none), w.2, w.3))

pub returns-in_err-had-clause-deleted : goal.returns-in_err-had-clause-deleted
returns-in_err-had-clause-deleted g c =
    let ready = subst (λ o. IfSome o (λ next. IsReady g.D.HasMeaning.meaning g.D.SideEffects.side_effects g.D.BlockArgRemoval.removable c.loop-next.ctx.tree c.args.root (item_of next))) c.in-Some.is c.in_ok-next.ensures.some in
    let way = c.loop-next.invariant.way in
    let none : (x : List Item) → IfOk c.from_residual-in_err-had.result (λ a. LeavesNoDead g.D.HasMeaning.meaning g.D.SideEffects.side_effects g.D.BlockArgRemoval.removable c.args.ctx.now.tree c.erase_one-taken.new.ctx.tree c.args.root × ReportsErased x a.0 × (IsTrue a.1 ↔ SomeHasRegions c.args.ctx.now.tree x)) = λ x. search rules in
    ⊎_elim
    (λ same. (way.0, subst (λ z. IsSweptSoFar g.D.HasMeaning.meaning g.D.Dialect.shortened g.D.SideEffects.side_effects g.D.BlockArgRemoval.removable c.args.ctx.now.tree z c.args.root way.0) (sym same) way.1, none way.0))
    (λ goes. (way.0 ++ item_of c.in-Some.next ∷ [], one_more _ _ _ _ g.met.D.Dialect.forwards_operands (λ h h' s. s.branch) g.met.D.Dialect.keeps_counts g.D.SideEffects.side_effects g.met.D.Dialect.gives_at_once g.D.BlockArgRemoval.removable g.met.D.Dialect.acts_without_argument c.args.ctx.now.tree c.loop-next.ctx.tree c.erase_one-taken.new.ctx.tree c.args.root way.0 (item_of c.in-Some.next) c.requires.linked c.well_formed-in-Some.ensures.tree c.well_formed-in-Some-2.ensures.tree way.1 ready goes, none (way.0 ++ item_of c.in-Some.next ∷ [])))
    c.in_err-had.ensures.refused

pub returns-in_err-next-clause-deleted : goal.returns-in_err-next-clause-deleted
returns-in_err-next-clause-deleted g c =
    let way = c.loop-next.invariant.way in
    let none : IfOk c.from_residual.result (λ a. LeavesNoDead g.D.HasMeaning.meaning g.D.SideEffects.side_effects g.D.BlockArgRemoval.removable c.args.ctx.now.tree c.loop-next.ctx.tree c.args.root × ReportsErased way.0 a.0 × (IsTrue a.1 ↔ SomeHasRegions c.args.ctx.now.tree way.0)) = search rules in
    (way.0, way.1, none)

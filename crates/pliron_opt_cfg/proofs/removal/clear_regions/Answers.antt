use Rattle.std.proofs.Common.{rules, ◌≡◌, ◌++◌, ◌∷◌, [], sym, subst}
use Rattle.std.proofs.lemmas.Result.{err_from_is_err_and}
use Rattle.pliron_laws.specs.Linked.{IsWellLinked}
use Rattle.pliron_theory.specs.Change.{IsWholeChange}
use Rattle.pliron_opt_cfg.specs.Internal.Cleared.{AreCleared}
use Rattle.pliron_opt_cfg.proofs.ScopeLemmas.{holder_is, one_holder}
use Rattle.pliron_opt_cfg.proofs.ClearedSteps.{none_cleared, all_cleared, region_lawful, tells_reached, fails, next}
use Rattle.pliron_opt_cfg.proofs.removal.clear_regions.Goals as goal

pub loop-region-init : goal.loop-region-init
loop-region-init g c =
    let t = c.args.ctx.now.tree in
    let s = c.args.scope.now in
    let x = holder_is t c.well_formed-2.ensures.tree s c.requires.liveness in
    (x.0, x.1, none_cleared g.D.HasMeaning.meaning t s x.0 c.args.regions.items c.args.reached.now.keys c.whole_passes_compose.ensures c.well_formed-2.ensures.tree c.requires.liveness x.1 x.2 (c.requires.linked x.0 x.1) c.requires.visits)

pub clear_region-cleared-requires-clause-lawful : goal.clear_region-cleared-requires-clause-lawful
clear_region-cleared-requires-clause-lawful g c =
    let t = c.args.ctx.now.tree in
    let s = c.args.scope.now in
    let root = c.loop-region.invariant.0 in
    let u = c.loop-region.ctx.tree in
    let r = c.in-Some.region in
    let rest = c.pop.new.self.items in
    let rs = c.args.regions.items in
    let ks = c.args.reached.now.keys in
    let e : c.loop-region.regions.items ≡ rest ++ r ∷ [] = search (rules, c.in-Some.ensures) in
    let h : AreCleared g.D.HasMeaning.meaning t u s root rs ks (rest ++ r ∷ []) c.loop-region.status = subst (λ z. AreCleared g.D.HasMeaning.meaning t u s root rs ks z c.loop-region.status) e c.loop-region.invariant.2 in
    let w = c.well_formed-in-Some.ensures.tree in
    region_lawful g.D.HasMeaning.meaning t u u s root r rs ks rest c.whole_passes_compose.ensures c.removing_keeps_links.ensures c.removing_changes_inside.ensures c.change_laws.ensures.inside w w c.loop-region.status h

pub clear_region-cleared-requires-clause-reached : goal.clear_region-cleared-requires-clause-reached
clear_region-cleared-requires-clause-reached g c =
    let t = c.args.ctx.now.tree in
    let s = c.args.scope.now in
    let root = c.loop-region.invariant.0 in
    let u = c.loop-region.ctx.tree in
    let r = c.in-Some.region in
    let rest = c.pop.new.self.items in
    let rs = c.args.regions.items in
    let ks = c.args.reached.now.keys in
    let e : c.loop-region.regions.items ≡ rest ++ r ∷ [] = search (rules, c.in-Some.ensures) in
    let h : AreCleared g.D.HasMeaning.meaning t u s root rs ks (rest ++ r ∷ []) c.loop-region.status = subst (λ z. AreCleared g.D.HasMeaning.meaning t u s root rs ks z c.loop-region.status) e c.loop-region.invariant.2 in
    let w = c.well_formed-in-Some.ensures.tree in
    tells_reached g.D.HasMeaning.meaning t u u s root r rs ks rest c.whole_passes_compose.ensures c.removing_keeps_links.ensures c.removing_changes_inside.ensures c.change_laws.ensures.inside w w c.loop-region.status h

pub returns-in_err-cleared-clause-err : goal.returns-in_err-cleared-clause-err
returns-in_err-cleared-clause-err g c =
    let t = c.args.ctx.now.tree in
    let s = c.args.scope.now in
    let root = c.loop-region.invariant.0 in
    let u = c.loop-region.ctx.tree in
    let r = c.in-Some.region in
    let rest = c.pop.new.self.items in
    let rs = c.args.regions.items in
    let ks = c.args.reached.now.keys in
    let e : c.loop-region.regions.items ≡ rest ++ r ∷ [] = search (rules, c.in-Some.ensures) in
    let h : AreCleared g.D.HasMeaning.meaning t u s root rs ks (rest ++ r ∷ []) c.loop-region.status = subst (λ z. AreCleared g.D.HasMeaning.meaning t u s root rs ks z c.loop-region.status) e c.loop-region.invariant.2 in
    let w = c.well_formed-in-Some.ensures.tree in
    let x = c.in_err-cleared.ensures.err in
    let p = err_from_is_err_and c.from_residual.result c.from_residual.ensures.1 in
    rw (p.1, p.2) (fails g.D.HasMeaning.meaning t u c.clear_region-cleared.new.ctx.tree s root r rs ks rest c.whole_passes_compose.ensures c.removing_keeps_links.ensures c.removing_changes_inside.ensures c.change_laws.ensures.inside w c.well_formed-in-Some-2.ensures.tree c.loop-region.status h _ x.0 x.1)

pub returns-in_err-cleared-clause-links : goal.returns-in_err-cleared-clause-links
returns-in_err-cleared-clause-links g c root y =
    let x = c.in_err-cleared.ensures.err in
    subst (λ z. IsWellLinked g.D.HasMeaning.meaning z root) (sym x.0) (c.loop-region.invariant.2.links root y)

pub returns-in_err-cleared-clause-change : goal.returns-in_err-cleared-clause-change
returns-in_err-cleared-clause-change g c holder y =
    let t = c.args.ctx.now.tree in
    let x = c.in_err-cleared.ensures.err in
    subst (λ z. IsWholeChange g.D.HasMeaning.meaning t z holder) (sym x.0)
    (subst (IsWholeChange g.D.HasMeaning.meaning t c.loop-region.ctx.tree) (one_holder t c.args.scope.now c.loop-region.invariant.0 holder c.loop-region.invariant.1 y) c.loop-region.invariant.2.change)

pub loop-region-preserved : goal.loop-region-preserved
loop-region-preserved g c =
    let t = c.args.ctx.now.tree in
    let s = c.args.scope.now in
    let root = c.loop-region.invariant.0 in
    let u = c.loop-region.ctx.tree in
    let r = c.in-Some.region in
    let rest = c.pop.new.self.items in
    let rs = c.args.regions.items in
    let ks = c.args.reached.now.keys in
    let e : c.loop-region.regions.items ≡ rest ++ r ∷ [] = search (rules, c.in-Some.ensures) in
    let h : AreCleared g.D.HasMeaning.meaning t u s root rs ks (rest ++ r ∷ []) c.loop-region.status = subst (λ z. AreCleared g.D.HasMeaning.meaning t u s root rs ks z c.loop-region.status) e c.loop-region.invariant.2 in
    let w = c.well_formed-in-Some.ensures.tree in
    let v = c.clear_region-cleared.new.ctx.tree in (
      root,
      c.loop-region.invariant.1,
      subst (AreCleared g.D.HasMeaning.meaning t v s root rs ks rest) (sym c.with_more-status.ensures)
          (next g.D.HasMeaning.meaning t u v s root r rs ks rest c.whole_passes_compose.ensures c.removing_keeps_links.ensures c.removing_changes_inside.ensures c.change_laws.ensures.inside w c.well_formed-in-Some-2.ensures.tree c.loop-region.status h c.in_ok-cleared.field-0 c.in_ok-cleared.ensures.ok),
    )

pub returns-clause-ok : goal.returns-clause-ok
returns-clause-ok g c =
    let t = c.args.ctx.now.tree in
    let s = c.args.scope.now in
    let root = c.loop-region.invariant.0 in
    let u = c.loop-region.ctx.tree in
    let e : c.loop-region.regions.items ≡ [] = search (rules, c.in_default.ensures) in
    all_cleared g.D.HasMeaning.meaning t u s root c.args.regions.items c.args.reached.now.keys c.loop-region.status
    (subst (λ z. AreCleared g.D.HasMeaning.meaning t u s root c.args.regions.items c.args.reached.now.keys z c.loop-region.status) e c.loop-region.invariant.2)

pub returns-clause-change : goal.returns-clause-change
returns-clause-change g c holder y = subst (IsWholeChange g.D.HasMeaning.meaning c.args.ctx.now.tree c.loop-region.ctx.tree) (one_holder c.args.ctx.now.tree c.args.scope.now c.loop-region.invariant.0 holder c.loop-region.invariant.1 y) c.loop-region.invariant.2.change

pub returns-clause-links : goal.returns-clause-links
returns-clause-links g c = c.loop-region.invariant.2.links

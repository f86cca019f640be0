use Rattle.std.proofs.Common.{◌≡◌, subst, sym, ap, ◌++◌, ◌∙◌}
use Rattle.std.specs.List.{flat_map}
use Rattle.std.proofs.lemmas.Result.{IfOk-weaker}
use Rattle.pliron_core.specs.Tree.{In, regions_of, body_of}
use Rattle.pliron_core.proofs.FlatLemmas.{In-flat_map, flat_map-In}
use Rattle.pliron_opt_cfg.specs.Visited.{OfBlock}
use Rattle.pliron_opt_cfg.proofs.Lawful.{region_in_block}
use Rattle.pliron_opt_cfg.proofs.Visiting.{visits_alike}
use Rattle.pliron_opt_cfg.proofs.visits.visits_inside_block.Goals as goal

pub visit-requires : goal.visit-requires
visit-requires c =
    let t = c.args.ctx.now.tree in
    let nested = flat_map (λ k. regions_of t k) (body_of t c.args.block) in
    let same : c.deref.result.now ≡ nested = c.deref.ensures.value ∙ c.in_ok-push_nested.ensures.items ∙ ap (λ z. z ++ nested) c.new-starts.ensures.items in
    record { lawful = λ r i. region_in_block t c.well_formed-2.ensures.tree c.args.block r c.requires.block c.requires.edges (subst (In r) same i) }

pub returns-clause-visits : goal.returns-clause-visits
returns-clause-visits c =
    let t = c.args.ctx.now.tree in
    let w = c.well_formed-2.ensures.tree in
    let block = c.args.block in
    let nested = flat_map (λ k. regions_of t k) (body_of t block) in
    let same : c.deref.result.now ≡ nested = c.deref.ensures.value ∙ c.in_ok-push_nested.ensures.items ∙ ap (λ z. z ++ nested) c.new-starts.ensures.items in
    IfOk-weaker c.visit.result _ _ (λ v. visits_alike t (λ r. In r c.deref.result.now) (OfBlock block t)
    (λ r i. let k = flat_map-In (λ k. regions_of t k) (body_of t block) r (subst (In r) same i) in (k.0, w.bodies.owned k.0 block k.1, k.2))
    (λ r s. subst (In r) (sym same) (In-flat_map (λ k. regions_of t k) (body_of t block) s.0 r (w.bodies.listed s.0 block s.1) s.2))
    v.regions.items v.blocks.items) c.visit.ensures.visits

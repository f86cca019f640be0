use Rattle.std.proofs.Common.{◌≡◌, ℕ, List, [], ◌∷◌, subst, sym, ap, ◌++◌, ◌∙◌, inl, ⊎_elim}
use Rattle.std.proofs.lemmas.Result.{IfOk-weaker}
use Rattle.pliron_core.specs.Tree.{In}
use Rattle.pliron_graph_traversal.specs.Regions.{IsLawfulRegion}
use Rattle.pliron_opt_cfg.specs.Visited.{OfRegion}
use Rattle.pliron_opt_cfg.proofs.Lawful.{region_itself}
use Rattle.pliron_opt_cfg.proofs.Visiting.{visits_alike}
use Rattle.pliron_opt_cfg.proofs.visits.visits_inside_region.Goals as goal

only : (x r : ℕ) (xs : List ℕ) → xs ≡ x ∷ [] → In r xs → r ≡ x
only x r xs e i = ⊎_elim (λ s. s) (λ z. absurd z) (subst (In r) e i)

one : (x r : ℕ) (xs : List ℕ) → xs ≡ x ∷ [] → r ≡ x → In r xs
one x r xs e s = subst (In r) (sym e) (inl s)

pub visit-requires : goal.visit-requires
visit-requires c =
    let t = c.args.ctx.now.tree in
    let same : c.deref.result.now ≡ c.args.region ∷ [] = c.deref.ensures.value ∙ c.in_ok-push.ensures.items ∙ ap (λ z. z ++ c.args.region ∷ []) c.new-starts.ensures.items in
    let l = region_itself t c.well_formed-2.ensures.tree c.args.region c.requires.region c.requires.edges in
    record { lawful = λ r i. subst (IsLawfulRegion t) (sym (only c.args.region r c.deref.result.now same i)) l }

pub returns-clause-visits : goal.returns-clause-visits
returns-clause-visits c =
    let t = c.args.ctx.now.tree in
    let same : c.deref.result.now ≡ c.args.region ∷ [] = c.deref.ensures.value ∙ c.in_ok-push.ensures.items ∙ ap (λ z. z ++ c.args.region ∷ []) c.new-starts.ensures.items in
    IfOk-weaker c.visit.result _ _ (λ v. visits_alike t (λ r. In r c.deref.result.now) (OfRegion c.args.region t) (λ r i. only c.args.region r c.deref.result.now same i) (λ r s. one c.args.region r c.deref.result.now same s) v.regions.items v.blocks.items) c.visit.ensures.visits

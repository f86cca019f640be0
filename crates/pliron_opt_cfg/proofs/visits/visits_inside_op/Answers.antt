use Rattle.std.proofs.Common.{◌≡◌, subst, sym, ap, ◌++◌, ◌∙◌}
use Rattle.std.proofs.lemmas.Result.{IfOk-weaker}
use Rattle.pliron_core.specs.Tree.{In, regions_of}
use Rattle.pliron_opt_cfg.specs.Visited.{OfOperation}
use Rattle.pliron_opt_cfg.proofs.Lawful.{region_of_op}
use Rattle.pliron_opt_cfg.proofs.Visiting.{visits_alike}
use Rattle.pliron_opt_cfg.proofs.visits.visits_inside_op.Goals as goal

pub visit-requires : goal.visit-requires
visit-requires c =
    let same : c.deref.result.now ≡ regions_of c.args.ctx.now.tree c.args.op = c.deref.ensures.value ∙ c.in_ok-push_regions.ensures.items ∙ ap (λ z. z ++ regions_of c.args.ctx.now.tree c.args.op) c.new-starts.ensures.items in
    record { lawful = λ r i. region_of_op c.args.ctx.now.tree c.well_formed-2.ensures.tree c.args.op r (subst (In r) same i) c.requires.edges }

pub returns-clause-visits : goal.returns-clause-visits
returns-clause-visits c =
    let t = c.args.ctx.now.tree in
    let same : c.deref.result.now ≡ regions_of t c.args.op = c.deref.ensures.value ∙ c.in_ok-push_regions.ensures.items ∙ ap (λ z. z ++ regions_of t c.args.op) c.new-starts.ensures.items in
    IfOk-weaker c.visit.result _ _ (λ v. visits_alike t (λ r. In r c.deref.result.now) (OfOperation c.args.op t) (λ r i. subst (In r) same i) (λ r i. subst (In r) (sym same) i) v.regions.items v.blocks.items) c.visit.ensures.visits

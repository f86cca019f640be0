use Rattle.std.proofs.Common.{length, subst}
use Rattle.std.proofs.lemmas.Result.{IfOk-weaker}
use Rattle.pliron_core.specs.Tree.{In}
use Rattle.pliron_opt_canonicalize.specs.Sites.{AreSitesOf}
use Rattle.pliron_opt_canonicalize.proofs.Listing.{seen_live, sites_listed}
use Rattle.pliron_opt_canonicalize.proofs.sites.visited_sites.Goals as goal

pub list_sites-requires : goal.list_sites-requires
list_sites-requires c = record { live = λ k i. seen_live c.args.ctx.now.tree c.in_ok-order.order.operations.items c.args.root c.in_ok-order.order.ends.items c.well_formed-2.ensures.tree c.in_ok-order.ensures.order k (subst (In k) c.deref.ensures.value i) }

pub returns-clause-listed : goal.returns-clause-listed
returns-clause-listed c =
    let t = c.args.ctx.now.tree in
    let ops = c.in_ok-order.order.operations.items in
    IfOk-weaker c.list_sites.result _ _ (λ sites are. sites_listed t ops c.args.root c.in_ok-order.order.ends.items sites.items c.well_formed-2.ensures.tree c.in_ok-order.ensures.order (subst (λ z. AreSitesOf t z (length z) sites.items) c.deref.ensures.value are)) c.list_sites.ensures.listed

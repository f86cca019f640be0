use Rattle.std.proofs.Common.{sym, subst, arith}
use Rattle.pliron_core.proofs.HoldingLemmas.{in_slice}
use Rattle.pliron_opt_canonicalize.specs.Sites.{AreSitesOf}
use Rattle.pliron_opt_canonicalize.proofs.Listing.{read_op, sites_more, sites_none}
use Rattle.pliron_opt_canonicalize.proofs.sites.list_sites.Goals as goal

pub loop-place-init : goal.loop-place-init
loop-place-init c = subst (AreSitesOf c.args.ctx.now.tree c.args.ops.now 0) (sym c.new-sites.ensures.items) (sites_none c.args.ctx.now.tree c.args.ops.now)

pub push_sites-requires : goal.push_sites-requires
push_sites-requires c =
    let ops = c.args.ops.now in
    let op = c.index-ops-place.result in
    record { live = c.requires.live op (in_slice ops c.loop-place.place op (read_op ops c.loop-place.place op (omega arith) c.index-ops-place.is)) }

pub loop-place-preserved : goal.loop-place-preserved
loop-place-preserved c =
    let ops = c.args.ops.now in
    let op = c.index-ops-place.result in
    sites_more c.args.ctx.now.tree ops c.loop-place.place op c.loop-place.sites.items c.push_sites.new.sites.items c.loop-place.invariant c.in_ok-push_sites.ensures.added (read_op ops c.loop-place.place op (omega arith) c.index-ops-place.is)

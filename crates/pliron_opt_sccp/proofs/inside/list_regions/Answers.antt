use Rattle.std.proofs.Common.{◌++◌, sym, ap, ◌∙◌, append-nil, arith}
use Rattle.pliron_opt_sccp.proofs.Listing.{none_listed}
use Rattle.pliron_opt_sccp.proofs.inside.list_regions.Goals as goal

pub returns-then-num_region-eq0-clause-ok : goal.returns-then-num_region-eq0-clause-ok
returns-then-num_region-eq0-clause-ok c =
    let none = none_listed c.args.ctx.now.tree c.args.op (omega (arith, c.num_region.ensures, c.if-num_region-eq0.true)) in
    sym (ap (λ z. c.args.blocks.now.items ++ z) none ∙ append-nil c.args.blocks.now.items)

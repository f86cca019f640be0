use Rattle.std.proofs.Common.{◌≡◌, [], map, sym, ap, eqb-true, subst, arith}
use Rattle.pliron_opt_sccp.specs.declared.inside.Part.TheVariants.{Block}
use Rattle.pliron_opt_sccp.specs.Inside.{directly_in}
use Rattle.pliron_opt_sccp.proofs.Listing.{none_listed}
use Rattle.pliron_opt_sccp.proofs.inside.is_leaf.Goals as goal

pub returns-in-Operation : goal.returns-in-Operation
returns-in-Operation c = λ e.
    let zero = eqb-true c.num_region.result 0 e in
    let none = none_listed c.args.ctx.now.tree c.in-Operation.op (omega (arith, c.num_region.ensures, zero)) in
    subst (λ z. directly_in c.args.ctx.now.tree z ≡ []) (sym c.in-Operation.is) (ap (λ bs. map (λ b. Block b) bs) none)

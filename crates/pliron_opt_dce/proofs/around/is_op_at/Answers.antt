use Rattle.std.proofs.Common.{Some, sym, ap, ◌∙◌, subst}
use Rattle.std.proofs.lemmas.Option.{slice_get-get_or}
use Rattle.pliron_core.specs.Tree.{In}
use Rattle.pliron_core.proofs.HoldingLemmas.{in_slice}
use Rattle.pliron_core.proofs.EdgeLemmas.{same_key}
use Rattle.pliron_opt_dce.proofs.around.is_op_at.Goals as goal

pub returns-then-place-ops : goal.returns-then-place-ops
returns-then-place-ops c = λ e.
    let x = c.index-ops-place.result in
    subst (λ z. In z c.args.ops.now) (same_key x c.args.op (sym e ∙ c.eq.ensures)) (in_slice c.args.ops.now c.args.place x (slice_get-get_or c.args.ops.now c.args.place _ c.if-place-ops.true ∙ ap Some (sym c.index-ops-place.is)))

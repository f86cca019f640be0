use Rattle.std.proofs.Common.{sym, subst, ◌∙◌}
use Rattle.pliron_core.specs.Changes.{IsDefiningOperationInside}
use Rattle.pliron_core.specs.Tree.{IsWithin}
use Rattle.pliron_core.proofs.HoldingLemmas.{some_is}
use Rattle.pliron_opt_dce.proofs.scan_positions.is_defined_inside.Goals as goal

pub returns-in-Result : goal.returns-in-Result
returns-in-Result c =
    let t = c.args.ctx.now.tree in (
      (λ e. subst (IsDefiningOperationInside t c.args.op) (sym c.in-Result.ensures.definition) (c.is_inside.ensures.0 e)),
      (λ i. c.is_inside.ensures.1 (subst (IsDefiningOperationInside t c.args.op) c.in-Result.ensures.definition i)),
    )

pub returns-in-Argument : goal.returns-in-Argument
returns-in-Argument c =
    let t = c.args.ctx.now.tree in (
      (λ e. subst (IsDefiningOperationInside t c.args.op) (sym c.in-Argument.ensures.definition) (c.parent_operation_of.result, c.parent_operation_of.ensures.holder, c.is_within.ensures.0 e)),
      (λ i. let h = subst (IsDefiningOperationInside t c.args.op) c.in-Argument.ensures.definition i in c.is_within.ensures.1 (subst (IsWithin t c.args.op) (some_is (sym h.1 ∙ c.parent_operation_of.ensures.holder)) h.2)),
    )

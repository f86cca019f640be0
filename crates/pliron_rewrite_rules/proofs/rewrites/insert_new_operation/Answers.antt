use Rattle.std.proofs.Common.{sym, ap, subst}
use Rattle.pliron_rewrite_rules.specs.Insertions.{IsMadeOperation}
use Rattle.pliron_rewrite_rules.proofs.MadeOperations.{made_contained, made_erased}
use Rattle.pliron_rewrite_rules.proofs.rewrites.insert_new_operation.Goals as goal

pub erase_operation-requires-clause-contained : goal.erase_operation-requires-clause-contained
erase_operation-requires-clause-contained g c =
    let f = c.requires.fresh in
    let same = ap (λ z. z.tree) c.in-Err.ensures.err in
    made_contained f.0 _ c.args.op f.1 f.2 (subst (λ z. IsMadeOperation f.0 z c.args.op f.1 f.2) (sym same) f.3) c.well_formed-in-Err.ensures.tree

pub returns-in-Err-clause-err : goal.returns-in-Err-clause-err
returns-in-Err-clause-err g c = λ t head operands m.
    let same = ap (λ z. z.tree) c.in-Err.ensures.err in
    made_erased t _ c.args.op head operands (subst (λ z. IsMadeOperation t z c.args.op head operands) (sym same) m) _ c.erase_operation.ensures.erased

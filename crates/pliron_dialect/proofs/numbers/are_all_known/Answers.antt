use Rattle.std.proofs.Common.{◌<◌, IsSome, length, take, sym, subst, arith, add-one}
use Rattle.pliron_dialect.specs.Roles.{all_known}
use Rattle.pliron_dialect.proofs.NumberLemmas.{one_more_known, one_unknown}
use Rattle.pliron_dialect.proofs.numbers.are_all_known.Goals as goal

pub returns-in-None : goal.returns-in-None
returns-in-None c =
    let lt : c.loop-i.i < length c.args.operand_attrs.now = omega arith in
    one_unknown c.args.operand_attrs.now c.loop-i.i lt c.in-None.ensures

pub loop-i-preserved : goal.loop-i-preserved
loop-i-preserved c =
    let lt : c.loop-i.i < length c.args.operand_attrs.now = omega arith in
    subst (λ z. IsSome (all_known (take z c.args.operand_attrs.now))) (sym (add-one c.loop-i.i)) (one_more_known c.args.operand_attrs.now c.loop-i.i _ lt c.loop-i.invariant c.in-Some.ensures)

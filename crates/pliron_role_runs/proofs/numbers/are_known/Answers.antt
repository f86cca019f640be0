use Rattle.std.proofs.Common.{◌≡◌, ◌<◌, length, take, true, sym, subst, arith, add-one}
use Rattle.pliron_role_runs.specs.Numbers.{are_known}
use Rattle.pliron_role_runs.proofs.NumberReads.{one_more_known, one_unknown}
use Rattle.pliron_role_runs.proofs.numbers.are_known.Goals as goal

pub returns-in-None : goal.returns-in-None
returns-in-None c =
    let lt : c.loop-i.i < length c.args.numbers.now = omega arith in
    one_unknown c.args.numbers.now c.loop-i.i lt c.in-None.ensures

pub loop-i-preserved : goal.loop-i-preserved
loop-i-preserved c =
    let lt : c.loop-i.i < length c.args.numbers.now = omega arith in
    subst (λ z. are_known (take z c.args.numbers.now) ≡ true) (sym (add-one c.loop-i.i)) (one_more_known c.args.numbers.now c.loop-i.i _ lt c.loop-i.invariant c.in-Some.ensures)

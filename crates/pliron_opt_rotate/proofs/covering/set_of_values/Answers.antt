use Rattle.std.proofs.Common.{nat_eq, length, refl, arith}
use Rattle.std.proofs.lemmas.Option.{slice_get_read}
use Rattle.pliron_core.proofs.HoldingLemmas.{in_slice}
use Rattle.pliron_opt_rotate.proofs.Loops.{key_listed}
use Rattle.pliron_opt_rotate.proofs.covering.set_of_values.Goals as goal

pub loop-i-preserved : goal.loop-i-preserved
loop-i-preserved c =
    let h = c.loop-i-test.true in
    let at = slice_get_read c.args.values.now (length c.args.values.now) c.loop-i.i c.index-values-i.result refl (omega (arith, h)) c.index-values-i.is in
    key_listed nat_eq c.args.values.now c.loop-i.set.keys c.insert.new.self.keys c.index-values-i.result c.in_ok-insert.ensures.keys (in_slice c.args.values.now c.loop-i.i c.index-values-i.result at) c.loop-i.invariant

pub returns-clause-from : goal.returns-clause-from
returns-clause-from c = c.loop-i.invariant

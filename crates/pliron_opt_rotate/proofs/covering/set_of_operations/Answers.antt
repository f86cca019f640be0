use Rattle.std.proofs.Common.{length, refl, arith}
use Rattle.std.proofs.lemmas.Option.{slice_get_read}
use Rattle.pliron_core.proofs.HoldingLemmas.{in_slice}
use Rattle.pliron_laws.specs.Tree.{is_one_key}
use Rattle.pliron_opt_rotate.proofs.Loops.{key_listed}
use Rattle.pliron_opt_rotate.proofs.covering.set_of_operations.Goals as goal

pub loop-i-preserved : goal.loop-i-preserved
loop-i-preserved c =
    let h = c.loop-i-test.true in
    let at = slice_get_read c.args.ops.now (length c.args.ops.now) c.loop-i.i c.index-ops-i.result refl (omega (arith, h)) c.index-ops-i.is in
    key_listed is_one_key c.args.ops.now c.loop-i.set.keys c.insert.new.self.keys c.index-ops-i.result c.in_ok-insert.ensures.keys (in_slice c.args.ops.now c.loop-i.i c.index-ops-i.result at) c.loop-i.invariant

pub returns-clause-from : goal.returns-clause-from
returns-clause-from c = c.loop-i.invariant

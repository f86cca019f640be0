use Rattle.std.proofs.Common.{rules, ◌≡◌, Some}
use Rattle.std.specs.List.{slice_get}
use Rattle.pliron_core.specs.Uses.{targets_of}
use Rattle.pliron_core.proofs.ArgumentLemmas.{number_next}
use Rattle.pliron_core.proofs.arguments.write_arguments.Goals as goal

pub loop-i-preserved : goal.loop-i-preserved
loop-i-preserved c =
    let read : slice_get (targets_of c.args.lists.now c.args.block) c.loop-i.i ≡ Some c.target-value.result = search rules in
    rw (c.loop-i.invariant, c.place-index.ensures) (number_next c.args.written.now.items c.args.block c.loop-i.i _ c.target-value.result read)

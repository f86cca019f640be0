use Rattle.std.proofs.Common.{⊎_elim, sym, subst, arith}
use Rattle.pliron_core.specs.Tree.{In}
use Rattle.pliron_graph_order.specs.Numbering.{key_eq}
use Rattle.pliron_opt_combine.proofs.Listing.{inserted_more, read_in}
use Rattle.pliron_opt_combine.proofs.worklist.RewriteWorklist.new.Goals as goal

pub loop-place-preserved : goal.loop-place-preserved
loop-place-preserved c =
    let op = c.index-ops-place.result in
    let more = inserted_more key_eq c.loop-place.seen.keys _ op c.in_ok-insert.ensures.keys in
    let here = read_in c.args.ops.now c.loop-place.place op _ (omega arith) c.index-ops-place.is in
    λ k i. ⊎_elim (λ old. c.loop-place.invariant k old) (λ same. subst (λ z. In z c.args.ops.now) (sym same) here) (more k i)

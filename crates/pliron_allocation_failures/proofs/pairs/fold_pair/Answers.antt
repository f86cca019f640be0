use Rattle.std.proofs.Common.{[]}
use Rattle.pliron_allocation_failures.proofs.PairLemmas.{BothPut, both_are_put, on_ok_of}
use Rattle.pliron_allocation_failures.proofs.pairs.fold_pair.Goals as goal

pub returns-clause-both : goal.returns-clause-both
returns-clause-both c =
    let t = c.args.ctx.now.tree in
    let u = c.fold_in_place.new.ctx.tree in
    on_ok_of _ (BothPut t u c.args.pair) c.fold_in_place.result (λ status is. both_are_put t u c.args.pair [] status c.requires.live c.requires.results is) c.fold_in_place.ensures.ok

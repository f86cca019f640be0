use Rattle.std.proofs.Common.{arith, sym, subst}
use Rattle.pliron_core.specs.Tree.{Tree}
use Rattle.pliron_opt_cfg.specs.Internal.MergeSteps.{IsReadyToJoin}
use Rattle.pliron_opt_cfg.proofs.JoinLemmas.{moves_fit}
use Rattle.pliron_opt_cfg.proofs.MergedTrees.{ready}
use Rattle.pliron_opt_cfg.proofs.merging.joining.merge_pair.Goals as goal

pub overflow_add-moves : goal.overflow_add-moves
overflow_add-moves g c =
    let t = c.args.ctx.now.tree in
    let p = c.args.pair.now in
    let fits = moves_fit g.D.HasMeaning.meaning t c.well_formed-2.ensures.tree p.first p.second p.jump p.values.items c.requires.pair c.requires.linked in
    let keys = c.well_formed-2.ensures.keys.operations in
    let count = c.count_operations-moves.ensures in
    omega (arith, fits, keys, count)

pub join-requires : goal.join-requires
join-requires g c =
    let t = c.args.ctx.now.tree in
    let p = c.args.pair.now in
    record { ready = subst (λ (z : Tree). IsReadyToJoin g.D.HasMeaning.meaning z p.first p.second p.jump) (sym c.in_ok-forward_uses.ensures.ok) (ready _ _ _ _ g.met.D.Dialect.forwards_operands p.first p.second p.jump p.values.items t c.well_formed-2.ensures.tree c.requires.pair c.requires.linked) }

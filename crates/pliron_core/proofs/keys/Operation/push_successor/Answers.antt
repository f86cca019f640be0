use Rattle.std.proofs.Common.{rules, ◌≡◌, ◌++◌, ◌∷◌, [], slice_set}
use Rattle.pliron_core.specs.UseTables.{view_of}
use Rattle.pliron_core.specs.Tree.{successors_of}
use Rattle.pliron_core.proofs.WellLemmas.{well_push_successor}
use Rattle.pliron_core.proofs.keys.Operation.push_successor.Goals as goal

pub invariant_of-ctx-2 : goal.invariant_of-ctx-2
invariant_of-ctx-2 c =
    let r = rw (← c.ctx.view_is, ← c.index.ensures, ← c.index-2.ensures) at c.requires in
    let e : c.push.new.self.targets ≡ slice_set (view_of c.ctx.inside).tree.successors c.index.result (successors_of (view_of c.ctx.inside).tree c.index.result ++ c.index-2.result ∷ []) = search rules in
    well_push_successor (view_of c.ctx.inside) c.index.result c.index-2.result c.push.new.self.targets c.push.new.self.uses c.ctx.invariant r.live r.block e c.push.ensures.count

use Rattle.std.proofs.Common.{arith}
use Rattle.pliron_core.proofs.PlaceLemmas.{whole-table}
use Rattle.pliron_core.proofs.RelocateLemmas.{user-within}
use Rattle.pliron_core.proofs.uses.Uses.settle.Goals as goal

pub settle_places-requires-clause-user : goal.settle_places-requires-clause-user
settle_places-requires-clause-user c =
    let r = rw (← c.self.view_is) at c.requires in
    user-within c.self.inside.places.items c.self.inside.holes.items c.args.user c.self.invariant.holes r

pub returns : goal.returns
returns c =
    let s = c.settle_places.ensures in
    let w = s.rooms in
    rw (← c.self.view_is) (whole-table s.targets s.uses (omega (arith, w.0, w.1, w.2, w.3)) (omega (arith, w.4, w.5)))

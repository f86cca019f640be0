use Rattle.std.proofs.Common.{arith}
use Rattle.pliron_core.proofs.links.Links.few_lists.Goals as goal

pub returns : goal.returns
returns c = rw (← c.self.view_is) (omega (arith, c.self.invariant.few, c.self.invariant.count))

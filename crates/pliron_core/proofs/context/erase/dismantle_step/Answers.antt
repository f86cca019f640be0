use Rattle.std.proofs.Common.{ap, refl}
use Rattle.pliron_core.specs.Dismantling.{Down, LessBlock, LessRegion}
use Rattle.pliron_core.proofs.context.erase.dismantle_step.Goals as goal

pub returns-in-Operation : goal.returns-in-Operation
returns-in-Operation c = Down c.in-Operation.inner refl c.in-Operation.ensures.0 c.in-Operation.ensures.1 refl

pub returns-in-Block : goal.returns-in-Block
returns-in-Block c = LessBlock c.in-Block.block refl c.in-Block.ensures.0 c.in-Block.ensures.1 (ap (λ v. v.tree) c.remove_block.ensures)

pub returns-in-Region : goal.returns-in-Region
returns-in-Region c = LessRegion c.in-Region.ensures.0 refl c.in-Region.ensures.1 c.in-Region.ensures.2 (ap (λ v. v.tree) c.pop_region.ensures)

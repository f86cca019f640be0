use Rattle.pliron_core.specs.Tree.{operands_of}
use Rattle.pliron_core.proofs.HoldingLemmas.{in_slice}
use Rattle.pliron_opt_dce.proofs.scan_positions.last_found.Goals as goal

pub returns-clause-used : goal.returns-clause-used
returns-clause-used c = in_slice (operands_of c.args.ctx.now.tree c.get_use-user.result.0) c.get_use-user.result.1 _ (c.well_formed-2.ensures.uses.value_uses.listed _ _ _ c.get_use-user.ensures.listed)

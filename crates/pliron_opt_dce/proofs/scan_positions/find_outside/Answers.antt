use Rattle.pliron_core.specs.Tree.{operands_of}
use Rattle.pliron_core.proofs.HoldingLemmas.{in_slice}
use Rattle.pliron_laws.proofs.AnswerLemmas.{refuted}
use Rattle.pliron_opt_dce.proofs.scan_positions.find_outside.Goals as goal

pub returns-then-not-is_within : goal.returns-then-not-is_within
returns-then-not-is_within c =
    let t = c.args.ctx.now.tree in
    let listed = c.well_formed-2.ensures.uses.value_uses.listed c.args.value _ _ c.get_use-user.ensures.listed in
    (c.get_use-user.result.0, in_slice (operands_of t c.get_use-user.result.0) c.get_use-user.result.1 c.args.value listed, λ w. refuted c.is_within.result c.if-not-is_within.true (c.is_within.ensures.1 w))

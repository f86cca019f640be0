use Rattle.std.proofs.Common.{◌≡◌, Some, slice_get, rules}
use Rattle.pliron_core.specs.Tree.{uses_of}
use Rattle.pliron_core.proofs.EdgeLemmas.{operand-user}
use Rattle.pliron_core.proofs.keys.Value.get_use.Goals as goal

pub returns-clause-liveness : goal.returns-clause-liveness
returns-clause-liveness c =
    let is : slice_get (uses_of c.args.ctx.now.value_uses c.args.self) c.args.i ≡ Some (record { user = c.new.result; place = c.get_use-user.result.place }) = search rules in
    operand-user c.args.ctx.now.tree c.well_formed-2.ensures.tree.joined c.new.result c.get_use-user.result.place c.args.self (c.well_formed-2.ensures.uses.value_uses.listed _ _ _ is)

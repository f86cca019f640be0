use Rattle.std.proofs.Common.{rules, ◌≡◌, ◌+◌, ◌++◌, [], length, ap, ◌∙◌, subst, replicate}
use Rattle.pliron_core.specs.Invariant.{IsWellFormed}
use Rattle.pliron_core.specs.UseTables.{view_of}
use Rattle.pliron_core.specs.Writes.{after_creating}
use Rattle.pliron_core.proofs.UserLemmas.{length-unused}
use Rattle.pliron_core.proofs.WellLemmas.{well_created}
use Rattle.pliron_core.proofs.keys.Operation.create.Goals as goal

pub invariant_of-ctx-2 : goal.invariant_of-ctx-2
invariant_of-ctx-2 c =
    let e : record (view_of c.ctx.inside) { tree = after_creating (view_of c.ctx.inside).tree c.args.head c.args.results c.args.regions; value_uses = c.add_targets.new.self.uses } ≡ view_of (record c.ctx.inside { operations = c.push_reserved.new.self; operands = c.add_targets.new.self; successors = c.add_user.new.self; order = c.add_node.new.self; arguments = c.add_results.new.self; layout = c.add_regions.new.layout; slots = c.add_regions.new.slots }) = search rules in
    let uses : c.add_targets.new.self.uses ≡ (view_of c.ctx.inside).value_uses ++ replicate c.args.results [] = search rules in
    let n : length c.add_targets.new.self.uses ≡ length (view_of c.ctx.inside).value_uses + c.args.results = ap length uses ∙ length-unused (view_of c.ctx.inside).value_uses c.args.results in
    subst IsWellFormed e (well_created (view_of c.ctx.inside) c.args.head c.args.results c.args.regions c.add_targets.new.self.uses c.ctx.invariant n)

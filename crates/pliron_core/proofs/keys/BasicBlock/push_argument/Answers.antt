use Rattle.std.proofs.Common.{rules, ◌≡◌, ◌+◌, ◌++◌, ◌∷◌, [], ap, ◌∙◌, length, subst, length-append}
use Rattle.pliron_core.specs.UseTables.{view_of}
use Rattle.pliron_core.specs.Invariant.{IsWellFormed}
use Rattle.pliron_core.specs.Writes.{argument_pushed}
use Rattle.pliron_core.proofs.WellLemmas.{well_argument_pushed}
use Rattle.pliron_core.proofs.keys.BasicBlock.push_argument.Goals as goal

pub invariant_of-ctx-2 : goal.invariant_of-ctx-2
invariant_of-ctx-2 c =
    let r = rw (← c.ctx.view_is) at c.requires in
    let e : record (view_of c.ctx.inside) { tree = argument_pushed (view_of c.ctx.inside).tree c.args.block; value_uses = c.add_target.new.self.uses } ≡ view_of (record c.ctx.inside { operands = c.add_target.new.self; arguments = c.push.new.self }) = search rules in
    let uses : c.add_target.new.self.uses ≡ (view_of c.ctx.inside).value_uses ++ [] ∷ [] = search rules in
    let n : length c.add_target.new.self.uses ≡ length (view_of c.ctx.inside).value_uses + 1 = ap length uses ∙ length-append (view_of c.ctx.inside).value_uses ([] ∷ []) in
    subst IsWellFormed e (well_argument_pushed (view_of c.ctx.inside) c.args.block c.add_target.new.self.uses c.ctx.invariant r n)

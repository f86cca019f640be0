use Rattle.std.proofs.Common.{◌≡◌, arith, length}
use Rattle.pliron_core.specs.Tree.{uses_of}
use Rattle.pliron_meaning_tests.proofs.ReadConstants.{unused_read}
use Rattle.pliron_meaning_tests.proofs.rewrites.replace_inside.Goals as goal

pub replace_by_constant_inside-requires-clause-constant : goal.replace_by_constant_inside-requires-clause-constant
replace_by_constant_inside-requires-clause-constant g c =
    let uses = c.args.ctx.now.value_uses in
    let none : length (uses_of uses c.get_argument-argument.result) ≡ 0 = omega arith in
    unused_read g.D.HasMeaning.meaning c.args.ctx.now.tree uses c.get_argument-argument.result _ c.well_formed-2.ensures.uses.value_uses none

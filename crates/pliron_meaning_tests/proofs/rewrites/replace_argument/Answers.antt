use Rattle.std.proofs.Common.{◌≡◌, sym, ◌∙◌, subst, arith, length}
use Rattle.std.proofs.lemmas.Option.{same_Some}
use Rattle.pliron_core.specs.Tree.{uses_of}
use Rattle.pliron_meaning_tests.proofs.ReadConstants.{unused_read}
use Rattle.pliron_meaning_tests.proofs.rewrites.replace_argument.Goals as goal

pub replace_argument_by_constant-requires-clause-constant : goal.replace_argument_by_constant-requires-clause-constant
replace_argument_by_constant-requires-clause-constant g c = λ v e.
    let uses = c.args.ctx.now.value_uses in
    let same : c.get_argument.result ≡ v = same_Some _ v (sym c.get_argument.ensures.argument ∙ e) in
    let none : length (uses_of uses c.get_argument.result) ≡ 0 = omega arith in
    unused_read g.D.HasMeaning.meaning c.args.ctx.now.tree uses v _ c.well_formed-2.ensures.uses.value_uses (subst (λ z. length (uses_of uses z) ≡ 0) same none)

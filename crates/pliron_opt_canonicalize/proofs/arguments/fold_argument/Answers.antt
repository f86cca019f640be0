use Rattle.std.proofs.Common.{ℕ, IfNone, IfSome, subst, arith}
use Rattle.pliron_core.proofs.StandingLemmas.{no_use, some_use}
use Rattle.pliron_rewrite_arguments.specs.OneValue.{IsOneValue}
use Rattle.pliron_opt_canonicalize.proofs.Doing.{argument_folds, no_fold, unused_argument}
use Rattle.pliron_opt_canonicalize.proofs.arguments.fold_argument.Goals as goal

pub returns-then-num_use-eq0-clause-ok : goal.returns-then-num_use-eq0-clause-ok
returns-then-num_use-eq0-clause-ok g c =
    unused_argument g.D.HasMeaning.meaning c.args.ctx.now.tree c.args.block c.args.index c.get_argument.result c.get_argument.ensures.argument (no_use c.args.ctx.now.tree c.args.ctx.now.value_uses c.get_argument.result c.well_formed-2.ensures.uses.value_uses (grind (arith, c.num_use.ensures, c.if-num_use-eq0.true)))

pub returns-in_default-clause-ok : goal.returns-in_default-clause-ok
returns-in_default-clause-ok g c =
    let none = subst (λ o. IfNone o ((v : ℕ) → IsOneValue g.D.HasMeaning.meaning c.args.ctx.now.tree c.args.block c.args.index v → ⊥)) c.in_default.is c.in_ok-value.ensures.none in
    no_fold g.D.HasMeaning.meaning c.args.ctx.now.tree c.args.block c.args.index none

pub returns-clause-ok : goal.returns-clause-ok
returns-clause-ok g c =
    let m = g.D.HasMeaning.meaning in
    let t = c.args.ctx.now.tree in
    let used = some_use t c.args.ctx.now.value_uses c.get_argument.result c.well_formed-2.ensures.uses.value_uses (λ e. grind (arith, c.num_use.ensures, c.if-num_use-eq0.false, e)) in
    let one = subst (λ o. IfSome o (λ v. IsOneValue m t c.args.block c.args.index v)) c.in-Some.is c.in_ok-value.ensures.some in
    argument_folds m t c.args.block c.args.index c.get_argument.result c.get_argument.ensures.argument used c.in-Some.value one c.replace_argument_by_value.new.ctx.tree c.in_ok-replace_argument_by_value.ensures.ok

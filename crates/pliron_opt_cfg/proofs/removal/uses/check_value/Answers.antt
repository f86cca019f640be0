use Rattle.std.proofs.Common.{◌≡◌, ◌≤◌, ◌&&◌, true, false, nat_eq, length, ⊎_elim, refl, sym, ap, ◌∙◌, subst, arith}
use Rattle.std.specs.List.{slice_get, list_any}
use Rattle.std.proofs.lemmas.Option.{same_Some}
use Rattle.pliron_core.specs.declared.uses.Use.{Use}
use Rattle.pliron_core.specs.Tree.{In, uses_of}
use Rattle.pliron_opt_cfg.proofs.Tested.{tested_in, not_tested}
use Rattle.pliron_opt_cfg.proofs.CheckLemmas.{used_within, is_use, less_or_last}
use Rattle.pliron_opt_cfg.proofs.removal.uses.check_value.Goals as goal

pub returns-then-not-contains-clause-err : goal.returns-then-not-contains-clause-err
returns-then-not-contains-clause-err c =
    let user = c.get_use-user.result.0 in
    let out : list_any (λ y. nat_eq user y && true) c.args.inside.now.keys ≡ false = sym c.if-not-contains.ensures in
    (refl, (user, is_use c.args.ctx.now c.well_formed-2.ensures.uses c.args.value c.loop-i.i (record { user = user; place = c.get_use-user.result.1 }) c.get_use-user.ensures.listed, not_tested c.args.inside.now.keys user out))

pub loop-i-preserved : goal.loop-i-preserved
loop-i-preserved c =
    let user = c.get_use-user.result.0 in
    let one : Use = record { user = user; place = c.get_use-user.result.1 } in
    let yes : list_any (λ y. nat_eq user y && true) c.args.inside.now.keys ≡ true = sym c.if-not-contains.ensures in
    λ j u lt e. ⊎_elim (λ l. c.loop-i.invariant j u l e)
    (λ s. let same : u ≡ one = same_Some u one (sym e ∙ ap (slice_get (uses_of c.args.ctx.now.value_uses c.args.value)) s ∙ c.get_use-user.ensures.listed) in
    subst (λ z. In z.user c.args.inside.now.keys) (sym same) (tested_in c.args.inside.now.keys user yes))
    (less_or_last c.loop-i.i j lt)

pub returns-clause-ok : goal.returns-clause-ok
returns-clause-ok c =
    let whole : length (uses_of c.args.ctx.now.value_uses c.args.value) ≤ c.loop-i.i = omega arith in
    used_within c.args.ctx.now c.well_formed-2.ensures.uses c.args.inside.now.keys c.args.value c.loop-i.i whole c.loop-i.invariant

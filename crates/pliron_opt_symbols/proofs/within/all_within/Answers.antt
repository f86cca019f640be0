use Rattle.std.proofs.Common.{◌≡◌, ◌++◌, sym, ap, ◌∙◌, subst}
use Rattle.std.specs.Prelude.{slice_index_or}
use Rattle.std.proofs.lemmas.Option.{slice_get-get_or}
use Rattle.pliron_core.specs.Tree.{In, IsWithin}
use Rattle.pliron_core.specs.Walks.{preorder}
use Rattle.pliron_core.proofs.ReadLemmas.{In-at}
use Rattle.pliron_core.proofs.WalkLemmas.{In-preorder}
use Rattle.pliron_opt_symbols.proofs.WithinLemmas.{within_live}
use Rattle.pliron_opt_symbols.proofs.within.all_within.Goals as goal

pub returns-clause-within : goal.returns-clause-within
returns-clause-within c = λ k.
    let t = c.args.ctx.now.tree in
    let all = c.in_ok-push_within.ensures.items ∙ ap (λ xs. xs ++ preorder t c.args.op) c.new-found.ensures.items in
    let same = In-preorder t c.well_formed-2.ensures.tree c.args.op k in
    (λ i. same.0 (subst (In k) all i), λ i. subst (In k) (sym all) (same.1 i))

pub returns-clause-live : goal.returns-clause-live
returns-clause-live c = λ k d lt.
    let t = c.args.ctx.now.tree in
    let xs = c.push_within.new.ops.items in
    let x = slice_index_or xs k d in
    let all = c.in_ok-push_within.ensures.items ∙ ap (λ ys. ys ++ preorder t c.args.op) c.new-found.ensures.items in
    within_live t c.well_formed-2.ensures.tree c.args.op x c.requires ((In-preorder t c.well_formed-2.ensures.tree c.args.op x).0 (subst (In x) all (In-at xs k x (slice_get-get_or xs k d lt))))

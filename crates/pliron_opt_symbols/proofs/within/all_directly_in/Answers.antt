use Rattle.std.proofs.Common.{◌∷◌, [], ◌++◌, ◌<◌, length, sym, ap, subst, ◌∙◌, append_assoc, append-nil, arith}
use Rattle.std.specs.Prelude.{slice_index_or}
use Rattle.pliron_core.specs.Tree.{In}
use Rattle.pliron_core.specs.Walks.{children}
use Rattle.pliron_core.specs.WalkSteps.{rest_from}
use Rattle.std.proofs.lemmas.Option.{slice_get-get_or}
use Rattle.pliron_core.proofs.ReadLemmas.{In-at}
use Rattle.pliron_core.proofs.WalkLemmas.{held_live, In-children}
use Rattle.pliron_core.proofs.LeftLemmas.{children_left, children_step, first_held, next_held}
use Rattle.pliron_opt_symbols.proofs.within.all_directly_in.Goals as goal

pub loop-at-init : goal.loop-at-init
loop-at-init c =
    let t = c.args.ctx.now.tree in
    let w = c.well_formed-2.ensures.tree in
    record {
      held = first_held t w c.args.holder c.first_inside-at.result c.first_inside-at.ensures;
      all = ap (λ xs. xs ++ rest_from c.first_inside-at.result (children t c.args.holder)) c.new-found.ensures.items ∙ children_left t w c.args.holder (children t c.args.holder) c.first_inside-at.result c.first_inside-at.ensures;
    }

pub next_beside-at-requires : goal.next_beside-at-requires
next_beside-at-requires c = held_live c.args.ctx.now.tree c.well_formed-2.ensures.tree c.in-Some.inner c.args.holder (c.loop-at.invariant.held c.in-Some.inner c.in-Some.is)

pub loop-at-smaller : goal.loop-at-smaller
loop-at-smaller c =
    let t = c.args.ctx.now.tree in
    let xs = children t c.args.holder in
    let held = c.loop-at.invariant.held c.in-Some.inner c.in-Some.is in
    let step = children_step t c.well_formed-2.ensures.tree c.args.holder c.in-Some.inner c.next_beside-at.result held (c.next_beside-at.ensures c.args.holder held) in
    subst (λ o. length (rest_from c.next_beside-at.result xs) < length (rest_from o xs)) (sym c.in-Some.is)
    (subst (λ ys. length (rest_from c.next_beside-at.result xs) < length ys) (sym step) (omega arith))

pub loop-at-preserved : goal.loop-at-preserved
loop-at-preserved c =
    let t = c.args.ctx.now.tree in
    let w = c.well_formed-2.ensures.tree in
    let xs = children t c.args.holder in
    let held = c.loop-at.invariant.held c.in-Some.inner c.in-Some.is in
    let next = c.next_beside-at.ensures c.args.holder held in
    let step = children_step t w c.args.holder c.in-Some.inner c.next_beside-at.result held next in
    let rest = rest_from c.next_beside-at.result xs in
    record {
      held = next_held t w c.args.holder c.in-Some.inner c.next_beside-at.result next;
      all = ap (λ ys. ys ++ rest) c.in_ok-push.ensures.items ∙ append_assoc c.loop-at.found.items (c.in-Some.inner ∷ []) rest
          ∙ ap (λ ys. c.loop-at.found.items ++ ys) (sym step) ∙ ap (λ o. c.loop-at.found.items ++ rest_from o xs) (sym c.in-Some.is) ∙ c.loop-at.invariant.all;
    }

pub returns-clause-inside : goal.returns-clause-inside
returns-clause-inside c =
    let xs = children c.args.ctx.now.tree c.args.holder in
    sym (append-nil c.loop-at.found.items) ∙ ap (λ o. c.loop-at.found.items ++ rest_from o xs) (sym c.in_default.is) ∙ c.loop-at.invariant.all

pub returns-clause-live : goal.returns-clause-live
returns-clause-live c = λ k d within.
    let t = c.args.ctx.now.tree in
    let w = c.well_formed-2.ensures.tree in
    let xs = children t c.args.holder in
    let all = sym (append-nil c.loop-at.found.items) ∙ ap (λ o. c.loop-at.found.items ++ rest_from o xs) (sym c.in_default.is) ∙ c.loop-at.invariant.all in
    held_live t w (slice_index_or c.loop-at.found.items k d) c.args.holder ((In-children t w (slice_index_or c.loop-at.found.items k d) c.args.holder).0 (subst (λ ys. In (slice_index_or c.loop-at.found.items k d) ys) all (In-at c.loop-at.found.items k (slice_index_or c.loop-at.found.items k d) (slice_get-get_or c.loop-at.found.items k d within))))

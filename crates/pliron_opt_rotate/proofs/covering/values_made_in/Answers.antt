use Rattle.std.proofs.Common.{◌≡◌, ◌<◌, ⊎_elim, ℕ, length, Some, sym, ◌∙◌, subst}
use Rattle.pliron_core.specs.Lists.{next_in}
use Rattle.pliron_core.specs.Tree.{In, body_of, results_of}
use Rattle.pliron_core.specs.WalkSteps.{rest_from}
use Rattle.pliron_core.proofs.ContainedLemmas.{IsWalked, walk-first, walk-next, walk-smaller, walk-all, next_in_body}
use Rattle.pliron_opt_rotate.proofs.Loops.{walked_kept, made_where}
use Rattle.pliron_opt_rotate.proofs.covering.values_made_in.Goals as goal
use Rattle.pliron_opt_rotate.proofs.covering.values_made_in.Goals.{After-get_next-at}

next : (c : After-get_next-at) → c.get_next-at.result ≡ next_in c.in-Some.op (body_of c.args.ctx.now.tree c.args.block)
next c =
    c.get_next-at.ensures.next ∙ next_in_body c.args.ctx.now.tree c.well_formed-2.ensures.tree c.in-Some.op c.args.block (c.loop-at.invariant.walked.member c.in-Some.op c.in-Some.is)

at : (c : After-get_next-at) → IsWalked (λ k. (v : ℕ) → In v (results_of c.args.ctx.now.tree k) → In v c.loop-at.values.items) (body_of c.args.ctx.now.tree c.args.block) (Some c.in-Some.op)
at c = subst (IsWalked (λ k. (v : ℕ) → In v (results_of c.args.ctx.now.tree k) → In v c.loop-at.values.items) (body_of c.args.ctx.now.tree c.args.block)) c.in-Some.is c.loop-at.invariant.walked

pub loop-at-init : goal.loop-at-init
loop-at-init c = record { arguments = c.in_ok-values.ensures.there; walked = walk-first _ _ _ c.get_head-at.ensures.first }

pub add_results-requires : goal.add_results-requires
add_results-requires c =
    let w = c.well_formed-2.ensures.tree in
    (w.joined.all_in_place c.in-Some.op c.args.block (w.bodies.owned c.in-Some.op c.args.block (c.loop-at.invariant.walked.member c.in-Some.op c.in-Some.is))).0

pub loop-at-smaller : goal.loop-at-smaller
loop-at-smaller c =
    let xs = body_of c.args.ctx.now.tree c.args.block in
    subst (λ o. length (rest_from c.get_next-at.result xs) < length (rest_from o xs)) (sym c.in-Some.is) (walk-smaller _ xs c.in-Some.op c.get_next-at.result (c.well_formed-2.ensures.tree.bodies.distinct c.args.block) (next c) (at c))

pub loop-at-preserved : goal.loop-at-preserved
loop-at-preserved c =
    let here = (goal.at.loop-at-preserved c).After-get_next-at in
    let h = c.in_ok-add_results.ensures in
    record {
      arguments = λ v i. h.kept v (c.loop-at.invariant.arguments v i);
      walked = walk-next _ _ c.in-Some.op c.get_next-at.result (c.well_formed-2.ensures.tree.bodies.distinct c.args.block) (next here) h.there
          (walked_kept _ _ _ _ (λ k f v i. h.kept v (f v i)) (at here));
    }

pub returns-clause-defined : goal.returns-clause-defined
returns-clause-defined c = λ v is e.
    let t = c.args.ctx.now.tree in
    let walked = subst (IsWalked (λ k. (v : ℕ) → In v (results_of t k) → In v c.loop-at.values.items) (body_of t c.args.block)) c.in_default.is c.loop-at.invariant.walked in
    ⊎_elim
    (λ i. c.loop-at.invariant.arguments v i)
    (λ r. walk-all _ (body_of t c.args.block) walked r.0 r.1 v r.2)
    (made_where t c.well_formed-2.ensures.tree c.args.block v is e)

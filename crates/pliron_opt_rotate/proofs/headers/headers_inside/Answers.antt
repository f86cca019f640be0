use Rattle.std.proofs.Common.{◌<◌, length, sym, subst, inl, inr, ◌∙◌}
use Rattle.pliron_core.specs.Walks.{preorder}
use Rattle.pliron_core.specs.WalkSteps.{rest_from}
use Rattle.pliron_core.proofs.HoldingLemmas.{some_is}
use Rattle.pliron_core.proofs.WalkLemmas.{within_live}
use Rattle.pliron_core.proofs.WalkStepLemmas.{next_inside}
use Rattle.pliron_laws.proofs.EdgeLastLemmas.{walk_smaller}
use Rattle.pliron_opt_rotate.proofs.Edges.{edges_within}
use Rattle.pliron_opt_rotate.proofs.headers.headers_inside.Goals as goal

pub loop-at-init : goal.loop-at-init
loop-at-init c = λ k e. inl (sym (some_is e))

pub add_headers_of-requires-clause-live : goal.add_headers_of-requires-clause-live
add_headers_of-requires-clause-live c = within_live c.args.ctx.now.tree c.well_formed-2.ensures.tree c.args.root c.in-Some.op c.requires.live (c.loop-at.invariant c.in-Some.op c.in-Some.is)

pub add_headers_of-requires-clause-edges : goal.add_headers_of-requires-clause-edges
add_headers_of-requires-clause-edges c = edges_within c.args.ctx.now.tree c.args.root c.in-Some.op c.requires.edges (c.loop-at.invariant c.in-Some.op c.in-Some.is)

pub next_in_preorder-at-requires-clause-within : goal.next_in_preorder-at-requires-clause-within
next_in_preorder-at-requires-clause-within c = c.loop-at.invariant c.in-Some.op c.in-Some.is

pub loop-at-smaller : goal.loop-at-smaller
loop-at-smaller c =
    let t = c.args.ctx.now.tree in
    let within = c.loop-at.invariant c.in-Some.op c.in-Some.is in
    subst (λ o. length (rest_from c.next_in_preorder-at.result (preorder t c.args.root)) < length (rest_from o (preorder t c.args.root))) (sym c.in-Some.is)
    (walk_smaller t c.well_formed-2.ensures.tree c.args.root c.in-Some.op c.next_in_preorder-at.result within c.next_in_preorder-at.ensures.next)

pub loop-at-preserved : goal.loop-at-preserved
loop-at-preserved c = λ k e. inr (next_inside c.args.ctx.now.tree c.well_formed-2.ensures.tree c.args.root c.in-Some.op k (sym c.next_in_preorder-at.ensures.next ∙ e))

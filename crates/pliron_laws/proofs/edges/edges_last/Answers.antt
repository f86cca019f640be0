use Rattle.std.proofs.Common.{◌<◌, length, sym, subst, inr, ◌∙◌}
use Rattle.pliron_core.specs.Walks.{preorder}
use Rattle.pliron_core.specs.WalkSteps.{rest_from}
use Rattle.pliron_core.proofs.WalkLemmas.{within_live, In-preorder}
use Rattle.pliron_core.proofs.WalkStepLemmas.{next_inside}
use Rattle.pliron_laws.specs.EdgeChecks.{HasLawfulEdges}
use Rattle.pliron_laws.specs.Linked.{EdgesLast}
use Rattle.pliron_laws.proofs.AnswerLemmas.{yes, no, refuted}
use Rattle.pliron_laws.proofs.PassedLemmas.{ArePassed, passed_all}
use Rattle.pliron_laws.proofs.EdgeLastLemmas.{edges_of, fit_of, walk_smaller, walk_passed}
use Rattle.pliron_laws.proofs.edges.edges_last.Goals as goal

pub has_lawful_edges-requires : goal.has_lawful_edges-requires
has_lawful_edges-requires c = within_live c.args.ctx.now.tree c.well_formed-2.ensures.tree c.args.root c.in-Some.op c.requires (c.loop-at.invariant.within c.in-Some.op c.in-Some.is)

pub returns-then-not-has_lawful_edges : goal.returns-then-not-has_lawful_edges
returns-then-not-has_lawful_edges c =
    let t = c.args.ctx.now.tree in
    let within = c.loop-at.invariant.within c.in-Some.op c.in-Some.is in
    no (EdgesLast t c.args.root) (λ edges. refuted c.has_lawful_edges.result c.if-not-has_lawful_edges.true (c.has_lawful_edges.ensures.1 (fit_of t c.well_formed-2.ensures.tree c.args.root edges c.in-Some.op within)))

pub loop-at-smaller : goal.loop-at-smaller
loop-at-smaller c =
    let t = c.args.ctx.now.tree in
    let within = c.loop-at.invariant.within c.in-Some.op c.in-Some.is in
    subst (λ o. length (rest_from c.next_in_preorder-at.result (preorder t c.args.root)) < length (rest_from o (preorder t c.args.root))) (sym c.in-Some.is)
    (walk_smaller t c.well_formed-2.ensures.tree c.args.root c.in-Some.op c.next_in_preorder-at.result within c.next_in_preorder-at.ensures.next)

pub loop-at-preserved : goal.loop-at-preserved
loop-at-preserved c =
    let t = c.args.ctx.now.tree in
    let w = c.well_formed-2.ensures.tree in
    let within = c.loop-at.invariant.within c.in-Some.op c.in-Some.is in
    let fit = c.has_lawful_edges.ensures.0 c.if-not-has_lawful_edges.false in
    let before = subst (ArePassed (λ k. HasLawfulEdges t c.args.root k) (preorder t c.args.root)) c.in-Some.is c.loop-at.invariant.passed in
    record {
      within = λ k e. inr (next_inside t w c.args.root c.in-Some.op k (sym c.next_in_preorder-at.ensures.next ∙ e));
      passed = walk_passed t w (λ k. HasLawfulEdges t c.args.root k) c.args.root c.in-Some.op c.next_in_preorder-at.result within c.next_in_preorder-at.ensures.next fit before;
    }

pub returns : goal.returns
returns c =
    let t = c.args.ctx.now.tree in
    let w = c.well_formed-2.ensures.tree in
    let all = subst (ArePassed (λ k. HasLawfulEdges t c.args.root k) (preorder t c.args.root)) c.in_default.is c.loop-at.invariant.passed in
    yes (EdgesLast t c.args.root) (edges_of t w c.args.root (λ k within. passed_all (λ k. HasLawfulEdges t c.args.root k) (preorder t c.args.root) all k ((In-preorder t w c.args.root k).1 within)))

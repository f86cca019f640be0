use Rattle.std.proofs.Common.{refl}
use Rattle.pliron_core.specs.Reads.{next_of}
use Rattle.pliron_core.proofs.EdgeLemmas.{same_key}
use Rattle.pliron_core.proofs.NextLemmas.{keys_differ}
use Rattle.pliron_graph_components.proofs.AncestorLemmas.{fails, answers_no, answers_yes}
use Rattle.pliron_graph_components.proofs.PrecedesLemmas.{passing_first, passing_smaller, passing_next, passing_met, passing_over, passing_live, one_parent}
use Rattle.pliron_graph_components.proofs.ancestors.strictly_precedes_in_block.Goals as goal

pub returns-then-not-have_one_parent : goal.returns-then-not-have_one_parent
returns-then-not-have_one_parent c =
    answers_no (λ p. fails c.have_one_parent.result c.if-not-have_one_parent.true c.have_one_parent.ensures (one_parent c.args.ctx.now.tree c.well_formed-2.ensures.tree c.args.a c.args.b p))

pub loop-at-init : goal.loop-at-init
loop-at-init c = passing_first c.args.ctx.now.tree c.well_formed-2.ensures.tree c.args.a c.args.b c.get_next-at.result c.get_next-at.ensures.next

pub returns-then-eq : goal.returns-then-eq
returns-then-eq c =
    answers_yes (passing_met c.args.ctx.now.tree c.well_formed-2.ensures.tree c.args.a c.args.b c.loop-at.at c.in-Some.op c.in-Some.is (same_key c.in-Some.op c.args.b c.if-eq.ensures) c.loop-at.invariant)

pub get_next-at-requires-in-Some : goal.get_next-at-requires-in-Some
get_next-at-requires-in-Some c =
    let t = c.args.ctx.now.tree in
    passing_live t c.well_formed-2.ensures.tree c.args.a c.args.b c.loop-at.at c.in-Some.op (next_of t c.in-Some.op) c.in-Some.is refl c.loop-at.invariant

pub loop-at-smaller : goal.loop-at-smaller
loop-at-smaller c =
    passing_smaller c.args.ctx.now.tree c.well_formed-2.ensures.tree c.args.a c.args.b c.loop-at.at c.in-Some.op c.get_next-at-in-Some.result c.in-Some.is c.get_next-at-in-Some.ensures.next c.loop-at.invariant

pub loop-at-preserved : goal.loop-at-preserved
loop-at-preserved c =
    passing_next c.args.ctx.now.tree c.well_formed-2.ensures.tree c.args.a c.args.b c.loop-at.at c.in-Some.op c.get_next-at-in-Some.result c.in-Some.is c.get_next-at-in-Some.ensures.next c.loop-at.invariant (keys_differ c.in-Some.op c.args.b c.if-eq.ensures)

pub returns : goal.returns
returns c = answers_no (passing_over c.args.ctx.now.tree c.well_formed-2.ensures.tree c.args.a c.args.b c.loop-at.at c.in_default.is c.loop-at.invariant)

use Rattle.std.proofs.Common.{rules, arith, ◌≡◌, Some, length, sym, ap, ◌∙◌}
use Rattle.pliron_core.specs.Walks.{preorder}
use Rattle.pliron_core.specs.WalkSteps.{rest_from}
use Rattle.pliron_core.proofs.LeftLemmas.{contents_step}
use Rattle.pliron_core.proofs.contents.ContentsIterator.next.Goals as goal

pub returns-clause-steps : goal.returns-clause-steps
returns-clause-steps c =
    let t = c.self.inside.ctx.now.tree in
    let at : c.self.inside.next ≡ Some c.in_ok-op.op = search rules in
    sym c.self.view_is ∙ ap (λ o. rest_from o (preorder t c.self.inside.root)) at ∙ contents_step t c.well_formed-2.ensures.tree c.self.inside.root c.in_ok-op.op c.next_in_preorder-self-inside.result (c.self.invariant.1 c.in_ok-op.op at) c.next_in_preorder-self-inside.ensures.next

pub returns-clause-goes : goal.returns-clause-goes
returns-clause-goes c = let less = ap length (returns-clause-steps c) in record { on = λ f. (tt, tt, omega (arith, less)); keeps = tt; rests = λ f. tt }

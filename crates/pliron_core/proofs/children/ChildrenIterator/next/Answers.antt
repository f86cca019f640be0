use Rattle.std.proofs.Common.{rules, arith, ◌≡◌, Some, length, sym, ap, ◌∙◌}
use Rattle.pliron_core.specs.Walks.{children}
use Rattle.pliron_core.specs.WalkSteps.{rest_from}
use Rattle.pliron_core.proofs.HoldingLemmas.{holder_live}
use Rattle.pliron_core.proofs.LeftLemmas.{children_step, next_held}
use Rattle.pliron_core.proofs.children.ChildrenIterator.next.Goals as goal

pub next_beside-self-inside-requires : goal.next_beside-self-inside-requires
next_beside-self-inside-requires c =
    let at : c.self.inside.next ≡ Some c.in_ok-op.op = search rules in
    (holder_live c.self.inside.ctx.now.tree c.in_ok-op.op c.self.inside.holder c.well_formed-2.ensures.tree.joined (c.self.invariant c.in_ok-op.op at)).0

pub invariant_of-self : goal.invariant_of-self
invariant_of-self c =
    let at : c.self.inside.next ≡ Some c.in_ok-op.op = search rules in
    let held = c.self.invariant c.in_ok-op.op at in
    next_held c.self.inside.ctx.now.tree c.well_formed-2.ensures.tree c.self.inside.holder c.in_ok-op.op c.next_beside-self-inside.result (c.next_beside-self-inside.ensures c.self.inside.holder held)

pub returns-clause-steps : goal.returns-clause-steps
returns-clause-steps c =
    let t = c.self.inside.ctx.now.tree in
    let at : c.self.inside.next ≡ Some c.in_ok-op.op = search rules in
    let held = c.self.invariant c.in_ok-op.op at in
    sym c.self.view_is ∙ ap (λ o. rest_from o (children t c.self.inside.holder)) at ∙ children_step t c.well_formed-2.ensures.tree c.self.inside.holder c.in_ok-op.op c.next_beside-self-inside.result held (c.next_beside-self-inside.ensures c.self.inside.holder held)

pub returns-clause-goes : goal.returns-clause-goes
returns-clause-goes c = let less = ap length (returns-clause-steps c) in record { on = λ f. (tt, tt, omega (arith, less)); keeps = tt; rests = λ f. tt }

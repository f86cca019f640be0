use Rattle.std.proofs.Common.{◌≡◌, ◌⊎◌, ◌<◌, ℕ, [], Some, inl, length, refl, sym, ap, ◌∙◌, subst, arith}
use Rattle.pliron_core.specs.Tree.{In, parent_operation_of}
use Rattle.pliron_core.specs.Walks.{children}
use Rattle.pliron_core.specs.WalkSteps.{rest_from}
use Rattle.pliron_core.proofs.WalkLemmas.{held_live, In-children}
use Rattle.pliron_core.proofs.LeftLemmas.{children_left, children_step, first_held, next_held}
use Rattle.pliron_laws.specs.Answers.{HeadPasses}
use Rattle.pliron_laws.proofs.AnswerLemmas.{yes, no}
use Rattle.pliron_opt_inline.proofs.CalleeLemmas.{passes, fails}
use Rattle.pliron_opt_inline.proofs.SizeLemmas.{one_passed, all_passed}
use Rattle.pliron_opt_inline.proofs.size.may_be_copied.Goals as goal

pub loop-at-init : goal.loop-at-init
loop-at-init g c =
    let t = c.args.ctx.now.tree in
    let w = c.well_formed-2.ensures.tree in
    let xs = children t c.args.function in
    record {
      held = first_held t w c.args.function c.first_inside-at.result c.first_inside-at.ensures;
      passed = λ k i. inl (subst (In k) (sym (children_left t w c.args.function xs c.first_inside-at.result c.first_inside-at.ensures)) i);
    }

pub allows_copy-requires : goal.allows_copy-requires
allows_copy-requires g c = held_live c.args.ctx.now.tree c.well_formed-2.ensures.tree c.in-Some.op c.args.function (c.loop-at.invariant.held c.in-Some.op c.in-Some.is)

pub returns-then-not-allows_copy : goal.returns-then-not-allows_copy
returns-then-not-allows_copy g c =
    let t = c.args.ctx.now.tree in
    let w = c.well_formed-2.ensures.tree in
    let held = c.loop-at.invariant.held c.in-Some.op c.in-Some.is in
    no ((k : ℕ) → In k (children t c.args.function) → HeadPasses (g.P.InliningPolicy.allows_copy c.args.policy.now) t k) (λ all.
    fails (g.P.InliningPolicy.allows_copy c.args.policy.now) t c.in-Some.op c.allows_copy.result c.allows_copy.ensures (held_live t w c.in-Some.op c.args.function held) c.if-not-allows_copy.true
    (all c.in-Some.op ((In-children t w c.in-Some.op c.args.function).1 held)))

pub next_beside-at-requires : goal.next_beside-at-requires
next_beside-at-requires g c = held_live c.args.ctx.now.tree c.well_formed-2.ensures.tree c.in-Some.op c.args.function (c.loop-at.invariant.held c.in-Some.op c.in-Some.is)

pub loop-at-smaller : goal.loop-at-smaller
loop-at-smaller g c =
    let t = c.args.ctx.now.tree in
    let xs = children t c.args.function in
    let held = c.loop-at.invariant.held c.in-Some.op c.in-Some.is in
    let step = children_step t c.well_formed-2.ensures.tree c.args.function c.in-Some.op c.next_beside-at.result held (c.next_beside-at.ensures c.args.function held) in
    subst (λ o. length (rest_from c.next_beside-at.result xs) < length (rest_from o xs)) (sym c.in-Some.is)
    (subst (λ ys. length (rest_from c.next_beside-at.result xs) < length ys) (sym step) (omega arith))

pub loop-at-preserved : goal.loop-at-preserved
loop-at-preserved g c =
    let t = c.args.ctx.now.tree in
    let w = c.well_formed-2.ensures.tree in
    let xs = children t c.args.function in
    let held = c.loop-at.invariant.held c.in-Some.op c.in-Some.is in
    let next = c.next_beside-at.ensures c.args.function held in
    let step = children_step t w c.args.function c.in-Some.op c.next_beside-at.result held next in
    record {
      held = next_held t w c.args.function c.in-Some.op c.next_beside-at.result next;
      passed = one_passed (HeadPasses (g.P.InliningPolicy.allows_copy c.args.policy.now) t) xs (rest_from c.loop-at.at xs) (rest_from c.next_beside-at.result xs) c.in-Some.op (ap (λ o. rest_from o xs) c.in-Some.is ∙ step)
          (passes (g.P.InliningPolicy.allows_copy c.args.policy.now) t c.in-Some.op c.allows_copy.result c.allows_copy.ensures c.if-not-allows_copy.false) c.loop-at.invariant.passed;
    }

pub returns : goal.returns
returns g c =
    let t = c.args.ctx.now.tree in
    let xs = children t c.args.function in
    yes ((k : ℕ) → In k xs → HeadPasses (g.P.InliningPolicy.allows_copy c.args.policy.now) t k)
    (all_passed (HeadPasses (g.P.InliningPolicy.allows_copy c.args.policy.now) t) xs (subst (λ o. (k : ℕ) → In k xs → In k (rest_from o xs) ⊎ HeadPasses (g.P.InliningPolicy.allows_copy c.args.policy.now) t k) c.in_default.is c.loop-at.invariant.passed))

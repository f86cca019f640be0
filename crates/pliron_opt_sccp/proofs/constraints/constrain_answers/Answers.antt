use Rattle.std.proofs.Common.{◌≡◌, ◌+◌, ◌∷◌, ◌++◌, [], ℕ, Some, length, slice_get, append_assoc, sym, ap, ◌∙◌, subst, arith}
use Rattle.std.proofs.lemmas.Grind.{common_steps}
use Rattle.std.proofs.lemmas.List.{append-nil}
use Rattle.pliron_core.specs.Tree.{results_of}
use Rattle.pliron_theory.specs.LatticeValues.{AtMost, value_of_answer}
use Rattle.pliron_opt_sccp.specs.Constraints.{Adds}
use Rattle.pliron_opt_sccp.proofs.Worklists.{length_one}
use Rattle.pliron_opt_sccp.proofs.Constrained.{answers_start, answers_next, answers_end, get_amid, none_empty}
use Rattle.pliron_opt_sccp.proofs.constraints.constrain_answers.Goals as goal

pub loop-answer-init : goal.loop-answer-init
loop-answer-init c = (λ constants. answers_start constants (results_of c.args.ctx.now.tree c.args.op) c.args.answers.items c.args.constraints.now.items, ([], sym (append-nil c.args.answers.items)))

pub loop-answer-preserved : goal.loop-answer-preserved
loop-answer-preserved c =
    let results = results_of c.args.ctx.now.tree c.args.op in
    let answers = c.args.answers.items in
    let rest = c.loop-answer.rest.items in
    let next = c.pop.new.self.items in
    let a = c.in-Some.answer in
    let items : rest ≡ next ++ a ∷ [] = c.in-Some.ensures.items in
    let deleted = c.loop-answer.invariant.1.0 in
    let whole : answers ≡ (next ++ a ∷ []) ++ deleted = c.loop-answer.invariant.1.1 ∙ ap (λ z. z ++ deleted) items in
    let size : length rest ≡ length next + 1 = ap length items ∙ length_one next a in
    let len : c.len.result ≡ length next = grind (arith, common_steps) in
    let at : slice_get answers (length next) ≡ Some a = ap (λ z. slice_get z (length next)) whole ∙ get_amid next a deleted in (
      λ constants. answers_next constants results answers (length next) (length rest) a c.args.constraints.now.items c.loop-answer.constraints.items c.constrain_answer.new.constraints.items size at (c.loop-answer.invariant.0 constants)
          (subst (λ i. Adds constants c.loop-answer.constraints.items c.constrain_answer.new.constraints.items (λ now. (w : ℕ) → slice_get results i ≡ Some w → AtMost (now.lattice_value w) (value_of_answer a))) len (c.in_ok-constrain_answer.ensures.ok constants)),
      (a ∷ deleted, whole ∙ append_assoc next (a ∷ []) deleted),
    )

pub returns-clause-ok : goal.returns-clause-ok
returns-clause-ok c = λ constants.
    let empty = none_empty c.pop.result _ c.in_default.is c.pop.ensures.variant in
    let none : length c.loop-answer.rest.items ≡ 0 = grind (arith, common_steps, empty) in
    answers_end constants (results_of c.args.ctx.now.tree c.args.op) c.args.answers.items (length c.loop-answer.rest.items) c.args.constraints.now.items c.loop-answer.constraints.items none (c.loop-answer.invariant.0 constants)

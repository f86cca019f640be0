use Rattle.std.proofs.Common.{◌≡◌, ◌∷◌, ◌++◌, [], sym, ap, ◌∙◌, subst}
use Rattle.pliron_core.specs.Tree.{results_of}
use Rattle.pliron_theory.specs.LatticeValues.{AtMost, value_of_answer}
use Rattle.pliron_opt_sccp.specs.Constraints.{Adds}
use Rattle.pliron_opt_sccp.proofs.Constrained.{constant_asked, varying_asked, result_asked}
use Rattle.pliron_opt_sccp.proofs.constraints.constrain_answer.Goals as goal
use Rattle.pliron_opt_sccp.proofs.constraints.constrain_answer.Goals.{in-Some, in-None}

pub returns-clause-ok : goal.returns-clause-ok
returns-clause-ok c = λ constants.
    let results = results_of c.args.ctx.now.tree c.args.op in
    let value = c.get_result-value.result in
    let ds = c.args.constraints.now.items in
    let es = c.push.new.self.items in
    let items : es ≡ ds ++ c.match-answer-3.push ∷ [] = c.in_ok-push.ensures.items in
    result_asked constants results c.args.i value c.args.answer ds es c.get_result-value.ensures.value
    (elim c.match-answer-3.branch [ in-Some w ↦ subst (λ z. Adds constants ds es (λ now. AtMost (now.lattice_value value) (value_of_answer z))) (sym w.in-Some.is) (constant_asked constants ds es value w.in-Some.attr (items ∙ ap (λ d. ds ++ d ∷ []) w.push-is)) | in-None w ↦ subst (λ z. Adds constants ds es (λ now. AtMost (now.lattice_value value) (value_of_answer z))) (sym w.in-None.is) (varying_asked constants ds es value (items ∙ ap (λ d. ds ++ d ∷ []) w.push-is)) ])

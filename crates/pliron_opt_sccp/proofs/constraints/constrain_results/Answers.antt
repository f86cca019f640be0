use Rattle.std.proofs.Common.{◌≡◌, ℕ, sym, ◌∙◌, subst}
use Rattle.std.proofs.lemmas.Result.{on_ok_weaker}
use Rattle.pliron_core.specs.Tree.{In, results_of}
use Rattle.pliron_laws.specs.Tree.{shape_of}
use Rattle.pliron_laws.proofs.Records.{op_shows}
use Rattle.pliron_theory.specs.LatticeValues.{NotAConstant}
use Rattle.pliron_opt_sccp.specs.Constraints.{Adds, ConstrainsAnswers}
use Rattle.pliron_opt_sccp.proofs.Constrained.{folding_asked, others_asked}
use Rattle.pliron_opt_sccp.proofs.constraints.constrain_results.Goals as goal

pub returns-in_ok-answers-clause-ok : goal.returns-in_ok-answers-clause-ok
returns-in_ok-answers-clause-ok g c =
    let d = g.D.ConstFoldInterface in
    let t = c.args.ctx.now.tree in
    let a = c.args.constraints.now.items in
    let b = c.constrain_answers.new.constraints.items in
    on_ok_weaker c.constrain_answers.result
    (λ p o e constants.
    let s = op_shows t c.args.op o e in
    let answers = d.constants (shape_of g.D.HasMeaning.meaning t o) c.args.known.now in
    folding_asked constants d.can_fold answers o a b (sym (c.folds.ensures o.head s.head) ∙ c.if-folds.true)
    (subst (λ rs. Adds constants a b (ConstrainsAnswers rs answers)) s.results
    (subst (λ z. Adds constants a b (ConstrainsAnswers (results_of t c.args.op) z)) (c.in_ok-answers.ensures.ok o e) (p constants))))
    c.constrain_answers.ensures.ok

pub returns-else-folds-clause-ok : goal.returns-else-folds-clause-ok
returns-else-folds-clause-ok g c =
    let d = g.D.ConstFoldInterface in
    let t = c.args.ctx.now.tree in
    let a = c.args.constraints.now.items in
    let b = c.constrain_unknown.new.constraints.items in
    on_ok_weaker c.constrain_unknown.result
    (λ p o e constants.
    let s = op_shows t c.args.op o e in
    others_asked constants d.can_fold (d.constants (shape_of g.D.HasMeaning.meaning t o) c.args.known.now) o a b (sym (c.folds.ensures o.head s.head) ∙ c.if-folds.false)
    (subst (λ rs. Adds constants a b (λ now. (v : ℕ) → In v rs → now.lattice_value v ≡ NotAConstant)) s.results (p constants)))
    c.constrain_unknown.ensures.ok

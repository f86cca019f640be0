use Rattle.std.proofs.Common.{arith, sym, ◌∙◌}
use Rattle.pliron_core.specs.Tree.{head_of, successors_of}
use Rattle.pliron_laws.proofs.AnswerLemmas.{refuted}
use Rattle.pliron_pass_fit.proofs.CheckLemmas.{its_head, not_empty, is_empty}
use Rattle.pliron_pass_fit.proofs.PlainLemmas.{plainly}
use Rattle.pliron_pass_fit.proofs.find.check_plainly.Goals as goal

pub returns-then-not-may_be_root-clause-err : goal.returns-then-not-may_be_root-clause-err
returns-then-not-may_be_root-clause-err g c = λ chosen.
    let head = its_head (head_of c.args.ctx.now.tree c.args.root) c.requires.live in
    refuted c.may_be_root.result c.if-not-may_be_root.true (c.may_be_root.ensures head.0 head.1 ∙ chosen head.0 head.1)

pub returns-then-num_successor-ne0-clause-err : goal.returns-then-num_successor-ne0-clause-err
returns-then-num_successor-ne0-clause-err g c = not_empty (successors_of c.args.ctx.now.tree c.args.root) (λ e. omega (arith, e))

pub returns-clause-ok : goal.returns-clause-ok
returns-clause-ok g c =
    let t = c.args.ctx.now.tree in
    plainly t c.well_formed-2.ensures.tree c.args.root g.D.HasMeaning.meaning c.in_ok-check_operations.ensures.ok
    (λ h is. sym (c.may_be_root.ensures h is) ∙ c.if-not-may_be_root.false)
    (is_empty (successors_of t c.args.root) (omega arith))

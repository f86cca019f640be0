use Rattle.std.proofs.Common.{◌∙◌}
use Rattle.pliron_core.specs.Tree.{head_of}
use Rattle.pliron_laws.proofs.AnswerLemmas.{refuted}
use Rattle.pliron_pass_fit.proofs.CheckLemmas.{its_head}
use Rattle.pliron_pass_fit.proofs.violations.start_violation.Goals as goal

pub returns : goal.returns
returns g c = λ chosen.
    let head = its_head (head_of c.args.ctx.now.tree c.args.root) c.requires in
    refuted c.may_be_root.result c.if-may_be_root.false (c.may_be_root.ensures head.0 head.1 ∙ chosen head.0 head.1)

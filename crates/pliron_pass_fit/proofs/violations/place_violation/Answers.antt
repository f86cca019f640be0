use Rattle.std.proofs.Common.{inl}
use Rattle.pliron_laws.proofs.AnswerLemmas.{refuted}
use Rattle.pliron_pass_fit.proofs.CheckLemmas.{edge_fault}
use Rattle.pliron_pass_fit.proofs.violations.place_violation.Goals as goal

pub returns-then-not-ends_block : goal.returns-then-not-ends_block
returns-then-not-ends_block g c =
    let fault = edge_fault c.args.ctx.now.tree c.args.op (λ ends. refuted c.ends_block.result c.if-not-ends_block.true (c.ends_block.ensures.1 ends)) in
    (fault.0, fault.1, inl c.requires.inside, fault.2)

pub returns-then-not-ends_if_terminator : goal.returns-then-not-ends_if_terminator
returns-then-not-ends_if_terminator g c =
    (c.requires.inside, λ ends. refuted c.ends_if_terminator.result c.if-not-ends_if_terminator.true (c.ends_if_terminator.ensures.1 ends))

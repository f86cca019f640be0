use Rattle.std.proofs.Common.{inl}
use Rattle.pliron_laws.proofs.AnswerLemmas.{refuted}
use Rattle.pliron_pass_fit.proofs.CheckLemmas.{edge_fault}
use Rattle.pliron_pass_fit.proofs.operations.check_inside.Goals as goal

pub returns-then-not-ends_block-clause-err : goal.returns-then-not-ends_block-clause-err
returns-then-not-ends_block-clause-err g c =
    let fault = edge_fault c.args.ctx.now.tree c.args.op (λ ends. refuted c.ends_block.result c.if-not-ends_block.true (c.ends_block.ensures.1 ends)) in
    (fault.0, fault.1, inl c.requires.inside, fault.2)

pub returns-then-not-ends_if_terminator-clause-err : goal.returns-then-not-ends_if_terminator-clause-err
returns-then-not-ends_if_terminator-clause-err g c =
    (c.requires.inside, λ ends. refuted c.ends_if_terminator.result c.if-not-ends_if_terminator.true (c.ends_if_terminator.ensures.1 ends))

pub returns-clause-ok : goal.returns-clause-ok
returns-clause-ok g c = record {
  ends = c.ends_block.ensures.0 c.if-not-ends_block.false;
  operands = c.in_ok-check_operands.ensures.ok;
  forwards = c.in_ok-check_forwarded.ensures.ok;
  terminator = c.ends_if_terminator.ensures.0 c.if-not-ends_if_terminator.false;
  unused = c.in_ok-check_unused.ensures.ok;
  results = c.in_ok-check_results.ensures.ok;
}

use Rattle.pliron_driver_buffers.proofs.FillLemmas.{if_err, passed_on, explains_list, explains_text, lists, optimises}
use Rattle.pliron_driver_buffers.proofs.optimise.optimise_by_list.Goals as goal

pub returns-in_err-pipeline-clause-failure : goal.returns-in_err-pipeline-clause-failure
returns-in_err-pipeline-clause-failure g c =
    passed_on _ c.from_residual.result c.in_err-pipeline.field-0.0 c.from_residual.ensures.1 (explains_list _ _ c.in_err-pipeline.ensures.failure)

pub returns-clause-answer : goal.returns-clause-answer
returns-clause-answer g c =
    optimises _ _ _ _ (λ answer. answer.items) c.args.list.now c.args.text.now c.in_ok-pipeline.pipeline c.in_ok-pipeline.ensures.planned c.answer_of.result c.answer_of.ensures.answer

pub returns-clause-failure : goal.returns-clause-failure
returns-clause-failure g c =
    if_err c.answer_of.result c.answer_of.ensures.failure
    (λ failure other. explains_text failure (lists _ c.args.list.now c.in_ok-pipeline.pipeline c.in_ok-pipeline.ensures.planned) other)

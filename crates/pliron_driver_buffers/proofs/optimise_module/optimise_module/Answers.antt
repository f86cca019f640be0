use Rattle.pliron_driver_buffers.proofs.FillLemmas.{if_err, passed_on, explains_list, explains_text}
use Rattle.pliron_driver_buffers.proofs.ModuleLemmas.{word_of, optimises_module}
use Rattle.pliron_driver_buffers.proofs.optimise_module.optimise_module.Goals as goal

pub returns-in_err-pipeline-clause-failure : goal.returns-in_err-pipeline-clause-failure
returns-in_err-pipeline-clause-failure g c =
    passed_on _ c.from_residual.result c.in_err-pipeline.field-0.0 c.from_residual.ensures.1 (explains_list _ _ c.in_err-pipeline.ensures.failure)

pub returns-clause-answer : goal.returns-clause-answer
returns-clause-answer g c =
    optimises_module _ _ _ _ _ (λ made. made.printed.items) (λ made. made.status) c.args.word.now c.args.text.now c.in_ok-pipeline.pipeline c.in_ok-pipeline.ensures.asked c.answer_of.result c.answer_of.ensures.answer

pub returns-clause-failure : goal.returns-clause-failure
returns-clause-failure g c =
    if_err c.answer_of.result c.answer_of.ensures.failure
    (λ failure other. explains_text failure (word_of _ _ c.args.word.now c.in_ok-pipeline.pipeline c.in_ok-pipeline.ensures.asked) other)

use Rattle.pliron_text_llvm_syntax.proofs.PartLemmas.{function_part}
use Rattle.pliron_text_llvm_syntax.proofs.parts.part_at.Goals as goal

pub returns-in_ok-function_at-clause-raw_or_function : goal.returns-in_ok-function_at-clause-raw_or_function
returns-in_ok-function_at-clause-raw_or_function c =
    function_part c.args.text.now c.args.at c.in_ok-end.end c.in_ok-function_at.field-0 c.in_ok-end.ensures.end.0 c.if-at-end.false c.requires
    c.in_ok-end.ensures.define c.in_ok-function_at.ensures.function c.in_ok-function_at.ensures.body

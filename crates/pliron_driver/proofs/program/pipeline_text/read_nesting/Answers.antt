use Rattle.std.proofs.Common.{codes, ◌++◌, ◌∙◌, ap}
use Rattle.pliron_driver.specs.PipelineTexts.{Nests.Itself, Nests.EachByColon, Nests.EachInBrackets}
use Rattle.pliron_driver.proofs.program.pipeline_text.read_nesting.Goals as goal

pub returns-in-Some : goal.returns-in-Some
returns-in-Some c = EachByColon c.in-Some.text.now c.in-Some.ensures.some

pub returns-in_default-text_behind_bracket : goal.returns-in_default-text_behind_bracket
returns-in_default-text_behind_bracket c = Itself c.in_default.ensures.none c.in_default-text_behind_bracket.ensures.none

pub returns-in-Some-text_before_bracket : goal.returns-in-Some-text_before_bracket
returns-in-Some-text_before_bracket c =
    let start = c.in-Some-text_behind_bracket.ensures.some in
    EachInBrackets start.0 c.in-Some-text_before_bracket.text.now (start.1 ∙ ap (λ l. codes "nested(" ++ l) c.in-Some-text_before_bracket.ensures)

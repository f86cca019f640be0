use Rattle.std.proofs.Common.{codes, ◌++◌, ◌∙◌, ap}
use Rattle.pliron_driver.specs.PipelineTexts.{Counts.Once, Counts.ByColon, Counts.InBrackets}
use Rattle.pliron_driver.proofs.program.pipeline_text.read_runs.Goals as goal

pub returns-in-Some : goal.returns-in-Some
returns-in-Some c =
    let few = c.in_ok-runs.ensures.few in
    ByColon c.in_ok-runs.runs c.in_ok-runs.rest.text.now (c.in-Some.ensures.some ∙ ap (λ l. codes "repeat:" ++ l) c.in_ok-runs.ensures.whole) few.0 few.1

pub returns : goal.returns
returns c =
    let start = c.in-Some-text_behind_bracket.ensures.some in
    let few = c.in_ok-runs-2.ensures.few in
    InBrackets start.0 c.in_ok-runs-2.runs c.in_ok-runs-2.rest.text.now (start.1 ∙ ap (λ l. codes "repeat<" ++ l) c.in_ok-runs-2.ensures.whole) few.0 few.1

pub returns-in_default-text_behind_bracket : goal.returns-in_default-text_behind_bracket
returns-in_default-text_behind_bracket c = Once c.in_default.ensures.none c.in_default-text_behind_bracket.ensures.none
